-- 01: "Prove that any two outcomes allowed by it coincide", for each call.
-- Assumes nothing.
use mathlib.Core.List.{List}
use Prim.Native.Nat.{ℕ}
use Rattle.numbers.specs.Outcomes.{Settles}
use Rattle.numbers.proofs.Cases.{settles}
use Rattle.tapecard.specs.PacketCalls.{PacketCallPromise, PacketChangePromise, PacketFreshPromise, packet_call, packet_change, packet_fresh}
use Rattle.tapecard.specs.IndexCalls.{IndexCallPromise, IndexMakePromise, index_make_call, index_packet_call}
use Rattle.tapecard.specs.ExchangeCalls.{ExportCallPromise, ImportCallPromise, export_call, import_call}
use Rattle.tapecard.specs.FloppyCalls.{FloppyCallPromise, FloppyChangePromise, FloppyFreshPromise}
use Rattle.tapecard.specs.FloppyCalls.{floppy_change_call, floppy_fresh_call, floppy_packet_call}
use Rattle.tapecard.specs.PulseCalls.{PulseInsertPromise, PulsePowerOnPromise, PulseRemovePromise}
use Rattle.tapecard.specs.PulseCalls.{PulseTickPromise, PulseTrainPromise, PulseTrainsPromise, PulseWaitPromise}
use Rattle.tapecard.specs.PulseCalls.{pulse_insert, pulse_power_on, pulse_remove, pulse_tick, pulse_train, pulse_trains, pulse_wait}

pub fresh_settled : Settles PacketFreshPromise
fresh_settled = settles packet_fresh

pub change_settled : (state : List ℕ) → Settles (PacketChangePromise state)
change_settled state = settles (packet_change state)

pub packet_settled : (state image packet buf : List ℕ) → Settles (PacketCallPromise state image packet buf)
packet_settled state image packet buf = settles (packet_call state image packet buf)

pub index_make_settled : (image index : List ℕ) → Settles (IndexMakePromise image index)
index_make_settled image index = settles (index_make_call image index)

pub index_packet_settled : (state image index packet buf : List ℕ) → Settles (IndexCallPromise state image index packet buf)
index_packet_settled state image index packet buf = settles (index_packet_call state image index packet buf)

pub export_settled : (image file : List ℕ) → Settles (ExportCallPromise image file)
export_settled image file = settles (export_call image file)

pub import_settled : (state image file : List ℕ) → Settles (ImportCallPromise state image file)
import_settled state image file = settles (import_call state image file)

pub floppy_fresh_settled : (state image : List ℕ) → Settles (FloppyFreshPromise state image)
floppy_fresh_settled state image = settles (floppy_fresh_call state image)

pub floppy_change_settled : (state image : List ℕ) → Settles (FloppyChangePromise state image)
floppy_change_settled state image = settles (floppy_change_call state image)

pub floppy_packet_settled : (state image packet buf : List ℕ) → Settles (FloppyCallPromise state image packet buf)
floppy_packet_settled state image packet buf = settles (floppy_packet_call state image packet buf)

pub power_on_settled : (vendor rom : ℕ) → Settles (PulsePowerOnPromise vendor rom)
power_on_settled vendor rom = settles (pulse_power_on vendor rom)

pub train_settled : (state : List ℕ) (pulses : ℕ) → Settles (PulseTrainPromise state pulses)
train_settled state pulses = settles (pulse_train state pulses)

pub trains_settled : (state counts levels : List ℕ) → Settles (PulseTrainsPromise state counts levels)
trains_settled state counts levels = settles (pulse_trains state counts levels)

pub tick_settled : (state : List ℕ) → Settles (PulseTickPromise state)
tick_settled state = settles (pulse_tick state)

pub insert_settled : (state cartridge : List ℕ) → Settles (PulseInsertPromise state cartridge)
insert_settled state cartridge = settles (pulse_insert state cartridge)

pub remove_settled : (state : List ℕ) → Settles (PulseRemovePromise state)
remove_settled state = settles (pulse_remove state)

pub wait_settled : (state : List ℕ) (limit : ℕ) → Settles (PulseWaitPromise state limit)
wait_settled state limit = settles (pulse_wait state limit)
