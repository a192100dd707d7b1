-- What a call leaves of the bytes that a host lends: "A refused call (number not 0) leaves the record's bytes .. exactly as they were"; "An accepted call
-- writes the whole record in its canonical form."; the answer is always written.
-- Assumes nothing.
use Rattle.std.specs.Prelude.{ℕ, false, List, Result, Ok, Err}
use Rattle.numbers.specs.declared.refusals.Refusal.{Refusal}
use Rattle.numbers.specs.Refusals.{number_of}
use Rattle.packet_state.specs.declared.state.Outcome.{Outcome}
use Rattle.packet_state.specs.Answers.{accepted, refusal}
use Rattle.packet_record.specs.PacketRecord.{encode_answer}
use Rattle.pulse.specs.declared.calls.Waited.{Waited}
use Rattle.pulse.specs.declared.drive.Drive.{Drive}
use Rattle.pulse_record.specs.PulseRecord.{encode_drive, encode_told}
use Rattle.tapecard.specs.PulseCalls.{PulseCard, pulse_card}

-- ---- a call of a packet device, or an import

-- the bytes of the record and of the answer
pub record Kept : Type 0 where
  pub state : List ℕ
  pub answer : List ℕ

abbrev pub kept : List ℕ → List ℕ → Kept
kept state answer = record { state = state; answer = answer }

abbrev pub kept_of : {R : Type 0} → (R → List ℕ) → List ℕ → Result (Outcome R) Refusal → Kept
kept_of spelled state (Ok out) = kept (spelled out.state) (encode_answer (accepted out.answer))
kept_of spelled state (Err r) = kept state (encode_answer (refusal (number_of r)))

-- ---- a call of the pulse drive, with its ticks

abbrev pub waited_card : List ℕ → Result Waited Refusal → PulseCard
waited_card state (Ok w) = pulse_card (encode_drive w.drive) (encode_told 0 w.drive.level w.ticks)
waited_card state (Err r) = pulse_card state (encode_told (number_of r) false 0)

-- "4-7 ticks (0 but for the wait call)"
abbrev pub at_once : Result Drive Refusal → Result Waited Refusal
at_once (Ok drive) = Ok (record { ticks = 0; drive = drive })
at_once (Err r) = Err r
