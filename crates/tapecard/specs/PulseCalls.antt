-- Everything that a call of the pulse drive leaves.
-- Assumes nothing.
use Rattle.std.specs.Prelude.{ℕ, Bool, List, ◌≡◌, if◌then◌else◌}
use Rattle.numbers.specs.Choice.{◌≡ᵇ◌}
use Rattle.pulse.specs.declared.drive.Drive.{Drive}
use Rattle.pulse.specs.Drives.{power_on}
use Rattle.pulse.specs.Calls.{Step, Waited, train_call, tick_call, insert_call, remove_call, wait_call}
use Rattle.pulse.specs.Trains.{Sent, trains_call}
use Rattle.pulse_record.specs.PulseRecord.{decode_drive, encode_drive, encode_told, described_cartridge, described_place}

pub record PulseCard : Type 0 where
  pub state : List ℕ
  pub answer : List ℕ

abbrev pub pulse_card : List ℕ → List ℕ → PulseCard
pulse_card state answer = record { state = state; answer = answer }

-- "A refused call (number not 0) leaves the record's bytes .. exactly as they were"; "An accepted call writes the whole record in its canonical form."
unfoldable pub pulse_left : List ℕ → ℕ → Bool → ℕ → Drive → PulseCard
pulse_left state number level ticks drive =
    pulse_card (if number ≡ᵇ 0 then encode_drive drive else state) (encode_told number level ticks)

-- "4-7 ticks (0 but for the wait call)"
abbrev pub step_left : List ℕ → Step → PulseCard
step_left state x = pulse_left state x.number x.level 0 x.drive

abbrev pub waited_left : List ℕ → Waited → PulseCard
waited_left state x = pulse_left state x.number x.level x.ticks x.drive

-- 02, A5: the call with a list of trains leaves its level buffer too
pub record ListCard : Type 0 where
  pub card : PulseCard
  pub levels : List ℕ

abbrev pub list_card : PulseCard → List ℕ → ListCard
list_card card levels = record { card = card; levels = levels }

abbrev pub sent_left : List ℕ → Sent → ListCard
sent_left state x = list_card (step_left state x.step) x.levels

-- ---- all that each call leaves: record and answer

-- the record of `tapecard_pulse_power_on`, whatever it was; it has no answer
unfoldable pub pulse_power_on : ℕ → ℕ → List ℕ
pulse_power_on vendor rom = encode_drive (power_on vendor rom)

unfoldable pub pulse_train : List ℕ → ℕ → PulseCard
pulse_train state pulses = step_left state (train_call (decode_drive state) pulses)

unfoldable pub pulse_trains : List ℕ → List ℕ → List ℕ → ListCard
pulse_trains state counts levels = sent_left state (trains_call (decode_drive state) counts levels)

unfoldable pub pulse_tick : List ℕ → PulseCard
pulse_tick state = step_left state (tick_call (decode_drive state))

unfoldable pub pulse_insert : List ℕ → List ℕ → PulseCard
pulse_insert state cartridge = step_left state (insert_call (decode_drive state) (described_cartridge cartridge) (described_place cartridge))

unfoldable pub pulse_remove : List ℕ → PulseCard
pulse_remove state = step_left state (remove_call (decode_drive state))

unfoldable pub pulse_wait : List ℕ → ℕ → PulseCard
pulse_wait state limit = waited_left state (wait_call (decode_drive state) limit)

-- ---- the promise of each call on what it leaves

abbrev pub PulsePowerOnPromise : ℕ → ℕ → List ℕ → Type 0
PulsePowerOnPromise vendor rom left = left ≡ pulse_power_on vendor rom

abbrev pub PulseTrainPromise : List ℕ → ℕ → PulseCard → Type 0
PulseTrainPromise state pulses left = left ≡ pulse_train state pulses

abbrev pub PulseTrainsPromise : List ℕ → List ℕ → List ℕ → ListCard → Type 0
PulseTrainsPromise state counts levels left = left ≡ pulse_trains state counts levels

abbrev pub PulseTickPromise : List ℕ → PulseCard → Type 0
PulseTickPromise state left = left ≡ pulse_tick state

abbrev pub PulseInsertPromise : List ℕ → List ℕ → PulseCard → Type 0
PulseInsertPromise state cartridge left = left ≡ pulse_insert state cartridge

abbrev pub PulseRemovePromise : List ℕ → PulseCard → Type 0
PulseRemovePromise state left = left ≡ pulse_remove state

abbrev pub PulseWaitPromise : List ℕ → ℕ → PulseCard → Type 0
PulseWaitPromise state limit left = left ≡ pulse_wait state limit
