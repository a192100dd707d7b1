-- A train that names no level, and every other call, keeps the level.
-- Assumes nothing.
use Prim.Native.Nat.{ℕ, zero, suc, ◌-◌}
use mathlib.Core.Bool.{Bool, true, false, cond, ◌||◌}
use mathlib.Core.Path.{◌≡◌, refl, ap}
use Rattle.std.specs.Prelude.{Option, Some, None}
use borrow.Author.Tests.{eqb-true, not-false}
use Rattle.numbers.specs.Choice.{◌≡ᵇ◌}
use Rattle.numbers.proofs.Cases.{either, never, no_l, or_r}
use Rattle.pulse_codes.specs.declared.arguments.Waiting.{Waiting}
use Rattle.pulse_codes.specs.Arguments.{in_range, nibble_of}
use Rattle.pulse_codes.specs.Codes.{ignored, is_report, report_next_bit}
use Rattle.pulse_parts.specs.declared.head.Motion.{Motion}
use Rattle.pulse_parts.specs.declared.head.Motion.TheVariants.{Still, Run, Load}
use Rattle.pulse.specs.declared.drive.Drive.{Drive}
use Rattle.pulse.specs.Calls.{Step, Waited}
use Rattle.pulse.specs.Arguments.{argument_for, argument_or, argument_read, argument_taken, nibble_taken, skipped, step_argument, track_sought}
use Rattle.pulse.specs.Commands.{checked, obeyed, step_command}
use Rattle.pulse.specs.Events.{inserted, removed, run_for, steps_to}
use Rattle.pulse.specs.Motions.{arrived, latched, load_started, motion_ended, run_started, ticked}
use Rattle.pulse.specs.Reports.{step_report}
use Rattle.pulse.specs.Train.{step_reset, step_unsupported}
use Rattle.pulse_laws.proofs.Calls.{insert_by, remove_by, tick_by, train_by, wait_by}
use Rattle.pulse_laws.proofs.Steps.{Heard, Taken, by_argument, by_command, by_next_bit, by_unsupported, by_opening, by_report, by_reset, train_taken}
use Rattle.pulse_laws.specs.Demands.{LevelKept}
use Rattle.pulse_laws.specs.Runs.{names_level}

-- ---- a choice between drives of one level has that level
level_of : (b : Bool) (x y : Drive) → (cond b x y).level ≡ cond b x.level y.level
level_of true x y = refl
level_of false x y = refl

alike : (b l : Bool) → cond b l l ≡ l
alike true l = refl
alike false l = refl

abbrev Same : Drive → Drive → Type 0
Same d x = x.level ≡ d.level

-- ---- time
ended_level : (m : Motion) (d : Drive) → Same d (motion_ended m d)
ended_level Still d = refl
ended_level Run d = refl
ended_level Load d = refl

run_level : (k : ℕ) (d : Drive) → Same d (run_for k d)
unfolding run_for ticked arrived
run_level zero d = refl
run_level (suc k) d = simp (level_of, ended_level, alike, run_level k d)

-- ---- trains
argument_level : (w : Option Waiting) (d : Drive) (n : ℕ) → Same d (argument_for w d n)
unfolding argument_read nibble_of argument_taken track_sought nibble_taken skipped latched run_started
argument_level None d n = refl
argument_level (Some w) d n =
    either (λ x. Same d (argument_or d w.code w.held w.value x)) (in_range w.code (n - 2)) _ _ (λ e. simp (level_of, alike)) (λ e. refl)

in_report_level : (d : Drive) (n : ℕ) → ignored n ≡ true → Same d (step_report d n)
unfolding step_report
in_report_level d n i =
    either (Same d) (n ≡ᵇ report_next_bit) _ _ (λ e. never i (ap ignored (eqb-true n report_next_bit e))) (λ e. rw i)

-- a train that names no level is neither a next bit nor a report where it is heard
unnamed : (d : Drive) (n : ℕ) → names_level d n ≡ false → Heard d n → ((n ≡ᵇ report_next_bit) || is_report n) ≡ false
unnamed d n q h = rw (h.reset, h.waiting, h.report) at q

taken_level : (d : Drive) (n : ℕ) {x : Drive} → names_level d n ≡ false → Taken d n x → Same d x
unfolding step_reset step_argument step_unsupported step_command checked obeyed latched load_started run_started
taken_level d n q (by_reset e) = simp (level_of, alike)
taken_level d n q (by_argument e w) = argument_level d.waiting d n
taken_level d n q (by_report e w o) = in_report_level d n (not-false _ (rw (e, w, o) at q))
taken_level d n q (by_next_bit h f) = never f (no_l (n ≡ᵇ report_next_bit) (is_report n) (unnamed d n q h))
taken_level d n q (by_unsupported h) = simp (level_of, alike)
taken_level d n q (by_opening h p) = never (or_r (n ≡ᵇ report_next_bit) (is_report n) p) (unnamed d n q h)
taken_level d n q (by_command h c) = simp (level_of, alike)

-- ---- the calls
abbrev Kept : Drive → Step → Type 0
Kept d s = Same d s.drive

pub level_kept : LevelKept
unfolding run_for inserted removed latched load_started
level_kept =
    record {
      train = λ d n q. train_by (Kept d) d (λ p. refl) n (λ p z. refl) (λ p z. taken_level d n q (train_taken d n));
      tick = λ d. tick_by (Kept d) d (λ p. refl) (λ p. run_level 1 d);
      insert = λ d cart place.
          insert_by (Kept d) d (λ p. refl) cart place (λ p i. refl) (λ p i o. refl) (λ p i o. simp (level_of, alike));
      remove = λ d. remove_by (Kept d) d (λ p. refl) (λ p i. refl) (λ p i. simp (level_of, alike));
      wait = λ d limit. wait_by (λ (w : Waited). Same d w.drive) d limit (λ p. refl) (λ p. run_level (steps_to limit d) d);
    }
