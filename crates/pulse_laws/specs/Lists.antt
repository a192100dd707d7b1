-- What is demanded of a list of trains (02, A5): each demand is one type, proved under the same name in proofs/.
-- Assumes nothing.
use Rattle.std.specs.Prelude.{ℕ, ◌≤◌, true, List, map, ◌≡◌, drop, length, replicate, take}
use Rattle.pulse.specs.declared.drive.Drive.{Drive}
use Rattle.pulse.specs.Calls.{Step, not_refused}
use Rattle.pulse.specs.Rules.{keeps_rules}
use Rattle.pulse.specs.Trains.{Sent, level_byte, trains_call}
use Rattle.pulse_laws.specs.Demands.{Recovered}
use Rattle.pulse_laws.specs.ListPlates.{all_answer, list_plates}
use Rattle.pulse_laws.specs.Runs.{Reachable, after_ticks, after_trains, answers, before_error_report, recovery_trains, silent_ticks, spelled}

-- "The result equals sending them singly.": none of the single calls is refused, and record, levels and answer are theirs
pub record SentSingly (d : Drive) (counts : List ℕ) (left : Sent) : Type 0 where
  pub answered : map (λ (s : Step). s.number) (answers d counts) ≡ replicate (length counts) not_refused
  pub drive : left.step.drive ≡ after_trains d counts
  pub level : left.step.level ≡ (after_trains d counts).level
  pub levels : take (length counts) left.levels ≡ map (λ (s : Step). level_byte s.level) (answers d counts)

abbrev pub ListIsSingles : Type 0
ListIsSingles =
    (d : Drive) (counts levels : List ℕ) → (trains_call d counts levels).step.number ≡ not_refused →
    SentSingly d counts (trains_call d counts levels)

-- "Bytes of the level buffer beyond the list stay.", and it has as many as it had
abbrev pub BeyondKept : List ℕ → List ℕ → List ℕ → Type 0
BeyondKept counts before after = (drop (length counts) after ≡ drop (length counts) before) × (length after ≡ length before)

abbrev pub LevelsBeyondKept : Type 0
LevelsBeyondKept = (d : Drive) (counts levels : List ℕ) → BeyondKept counts levels (trains_call d counts levels).levels

-- a list leads to no drive that single trains do not lead to
abbrev pub ListReaches : Type 0
ListReaches = (d : Drive) (counts levels : List ℕ) → Reachable d → Reachable (trains_call d counts levels).step.drive

-- the 46 recovery trains as one list: the drive is back, and the last of their 46 levels name the error that was held
pub record RegainedByList (before rested : Drive) (left : Sent) : Type 0 where
  pub answered : left.step.number ≡ not_refused
  pub back : Recovered before rested left.step.drive
  pub named : drop (length before_error_report) (take (length recovery_trains) left.levels) ≡ map level_byte (spelled before.fault)

-- "From any reachable pulse state with a cartridge in: after as many silent ticks as a track has segments, ..", in one call that has room for the levels
pub record RecoversByList : Type 0 where
  pub demanded : (d : Drive) (levels : List ℕ) → Reachable d → d.marks.inside ≡ true → 46 ≤ length levels →
      RegainedByList d (after_ticks (silent_ticks d) d) (trains_call (after_ticks (silent_ticks d) d) recovery_trains levels)
  -- and of any drive that keeps the rules, after any number of silent ticks from G up
  pub rested : (d : Drive) (k : ℕ) (levels : List ℕ) → keeps_rules d ≡ true → d.marks.inside ≡ true → silent_ticks d ≤ k → 46 ≤ length levels →
      RegainedByList d (after_ticks k d) (trains_call (after_ticks k d) recovery_trains levels)

-- lists and their levels, worked out by hand, as one table
abbrev pub ListPlatesAnswer : Type 0
ListPlatesAnswer = all_answer list_plates ≡ true
