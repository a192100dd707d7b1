-- `pulse_calls::tapecard_pulse_trains` meets its contract.
use mathlib.Core.Path.{refl}
use Rattle.tapecard.proofs.CallLaws.{trains_left}
use Rattle.tapecard.proofs.pulse_calls.tapecard_pulse_trains.Goals as goal

pub returns : goal.returns
returns c = trains_left _ _ _ _ _ c.decode_drive.ensures refl c.leave_list.ensures _ _ _ c.trains-left.ensures
