-- What a list of trains (02, A5) promises on the bytes themselves; proofs/ keeps each, under its name.
-- Assumes nothing.
use Rattle.std.specs.Prelude.{◌≡◌, true, List, [], map, ◌≢◌, ℕ, ◌≤◌, drop, get_or, length, replicate, take}
use Rattle.pulse.specs.Calls.{not_refused}
use Rattle.pulse.specs.Rules.{keeps_rules}
use Rattle.pulse.specs.Trains.{level_byte}
use Rattle.pulse_laws.specs.Demands.{Recovered}
use Rattle.pulse_laws.specs.Runs.{before_error_report, recovery_trains, silent_ticks, spelled}
use Rattle.pulse_record.specs.PulseRecord.{decode_drive, encode_told}
use Rattle.tapecard.specs.PulseCalls.{ListCard, pulse_trains}
use Rattle.card_laws.specs.Promises.{Bytes, Refused}
use Rattle.card_laws.specs.Sessions.{answers_on, ticks_on, trains_on}

-- "A refused call (number not 0) leaves the record's bytes, the image and every buffer exactly as they were; only the answer is written."
abbrev pub ListRefusedUntouched : Type 0
ListRefusedUntouched =
    (state counts levels : List ℕ) → Refused (pulse_trains state counts levels).card.answer
    → ((pulse_trains state counts levels).card.state ≡ state) × ((pulse_trains state counts levels).levels ≡ levels)

-- "The result equals sending them singly.", by `tapecard_pulse_train`, which refuses none of them: the same drive, and by one train or more the same
-- 32 bytes (no call at all would leave a record as it was; the empty list writes it in its canonical form); its level as the answer; and the levels
-- that the single answers have in their byte 1
pub record BytesSentSingly (state counts : List ℕ) (left : ListCard) : Type 0 where
  pub answered : map (λ (a : List ℕ). get_or a 0 0) (answers_on state counts) ≡ replicate (length counts) not_refused
  pub drive : decode_drive left.card.state ≡ decode_drive (trains_on state counts)
  pub bytes : counts ≢ [] → left.card.state ≡ trains_on state counts
  pub answer : left.card.answer ≡ encode_told not_refused (decode_drive (trains_on state counts)).level 0
  pub levels : take (length counts) left.levels ≡ map (λ (a : List ℕ). get_or a 1 0) (answers_on state counts)

abbrev pub CardListIsSingles : Type 0
CardListIsSingles =
    (state counts levels : List ℕ) → Bytes state → get_or (pulse_trains state counts levels).card.answer 0 0 ≡ not_refused
    → BytesSentSingly state counts (pulse_trains state counts levels)

-- the third demand in one call, after tick calls in any number from G up
pub record BytesRegainedByList (before rested : List ℕ) (left : ListCard) : Type 0 where
  pub answered : get_or left.card.answer 0 0 ≡ not_refused
  pub back : Recovered (decode_drive before) (decode_drive rested) (decode_drive left.card.state)
  pub named : drop (length before_error_report) (take (length recovery_trains) left.levels) ≡ map level_byte (spelled (decode_drive before).fault)

abbrev pub CardRecoversByList : Type 0
CardRecoversByList =
    (state : List ℕ) (k : ℕ) (levels : List ℕ) → Bytes state
    → keeps_rules (decode_drive state) ≡ true → (decode_drive state).marks.inside ≡ true → silent_ticks (decode_drive state) ≤ k → 46 ≤ length levels
    → BytesRegainedByList state (ticks_on k state) (pulse_trains (ticks_on k state) recovery_trains levels)
