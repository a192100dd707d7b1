-- While an error or the new mark stands, no train but 1 starts the tape: the head stays as it was, or a run is stopped where it stands.
-- Assumes nothing.
use Prim.Native.Nat.{ℕ}
use mathlib.Core.Bool.{true, false, ◌&&◌, ◌||◌}
use mathlib.Core.Path.{◌≡◌, refl, ap}
use Rattle.std.specs.Prelude.{Option, Some, None}
use borrow.Author.Tests.{ne_eqb, not-true}
use Rattle.numbers.specs.Choice.{◌<ᵇ◌, ◌≡ᵇ◌}
use Rattle.numbers.proofs.Cases.{and_l, and_r, ands, either, never, or_by}
use Rattle.pulse_codes.specs.declared.arguments.Waiting.{Waiting}
use Rattle.pulse_codes.specs.Arguments.{is_waiting, needed}
use Rattle.pulse_codes.specs.Codes.{ignored, report_error, report_next_bit, report_status, report_vendor, soft_reset, stops_motion}
use Rattle.pulse_codes.specs.Errors.{illegal_in_report, new_cartridge_pending, not_ready, undefined_command}
use Rattle.pulse_parts.specs.declared.head.Head.{Head}
use Rattle.pulse_parts.specs.declared.head.Motion.{Motion}
use Rattle.pulse_parts.specs.declared.head.Motion.TheVariants.{Load, Run, Still}
use Rattle.pulse_parts.specs.Faults.{error_held}
use Rattle.pulse_parts.specs.Heads.{held_at, is_run, is_still}
use Rattle.pulse_parts.specs.Reports.{no_report}
use Rattle.pulse.specs.declared.drive.Drive.{Drive}
use Rattle.pulse.specs.Calls.{Step}
use Rattle.pulse.specs.Commands.{checked, step_command}
use Rattle.pulse.specs.Drives.{is_ready, with_level, with_report}
use Rattle.pulse.specs.Motions.{latched, stopped}
use Rattle.pulse.specs.Reports.{error_read, item_given, status_asked, step_open_report, step_report}
use Rattle.pulse.specs.Rules.{is_free}
use Rattle.pulse.specs.Train.{step_unsupported}
use Rattle.pulse_laws.proofs.Calls.{train_by}
use Rattle.pulse_laws.proofs.Rules.{Rules, Waits, to_rules}
use Rattle.pulse_laws.proofs.Steps.{Taken, by_argument, by_command, by_next_bit, by_unsupported, by_opening, by_report, by_reset, train_taken}
use Rattle.pulse_laws.specs.Demands.{OnlyResetStarts}
use Rattle.pulse_laws.specs.Runs.{NotStarted, as_it_was, run_stopped}

-- a drive whose head is h, or h stopped
abbrev pub Kept : Head → Drive → Type 0
Kept h x = NotStarted h x.head

latch_kept : (d : Drive) (e n : ℕ) → Kept d.head (latched d e n)
unfolding latched
latch_kept d e n =
    either (Kept d.head) (error_held d.fault) _ _ (λ p. as_it_was refl)
    (λ p. either (Kept d.head) (is_run d.head.motion) _ _ (λ q. run_stopped q refl) (λ q. as_it_was refl))

item_kept : (d : Drive) → Kept d.head (item_given d)
unfolding item_given
item_kept d = either (Kept d.head) d.report.repeat _ _ (λ e. as_it_was refl) (λ e. as_it_was refl)

in_report_kept : (d : Drive) (n : ℕ) → Kept d.head (step_report d n)
unfolding step_report
in_report_kept d n =
    either (Kept d.head) (n ≡ᵇ report_next_bit) _ _ (λ e. item_kept d)
    (λ e.
    either (Kept d.head) (ignored n) _ _ (λ f. as_it_was refl) (λ f. latch_kept (with_level (with_report d no_report) false) illegal_in_report n))

-- the head stays
abbrev pub Stays : Head → Drive → Type 0
Stays h x = x.head ≡ h

-- a tape that stands still stays where it is
still_stays : (h x : Head) → is_still h.motion ≡ true → NotStarted h x → x ≡ h
still_stays h x y (as_it_was p) = p
still_stays h x y (run_stopped r p) = by h.motion y r
  where
    by : {G : Type 0} (m : Motion) → is_still m ≡ true → is_run m ≡ true → G
    by Still a b = never b refl
    by Run a b = never a refl
    by Load a b = never b refl

pub in_report_stays : (d : Drive) (n : ℕ) → is_ready d ≡ true → Stays d.head (step_report d n)
in_report_stays d n y = still_stays d.head (step_report d n).head y (in_report_kept d n)

pub open_stays : (d : Drive) (n : ℕ) → Stays d.head (step_open_report d n)
unfolding step_open_report status_asked error_read
open_stays d n =
    either (Stays d.head) (n ≡ᵇ report_status) _ _ (λ e. either (Stays d.head) (is_ready d) _ _ (λ f. refl) (λ f. refl))
    (λ e.
    either (Stays d.head) (n ≡ᵇ report_error) _ _ (λ f. either (Stays d.head) (is_ready d) _ _ (λ g. refl) (λ g. refl)) (λ f. refl))

-- what keeps the head of a run that was stopped has stopped the run
after_stop : (h x : Head) → is_run h.motion ≡ true → NotStarted (held_at h) x → NotStarted h x
after_stop h x r (as_it_was p) = run_stopped r p
after_stop h x r (run_stopped q p) = never q refl

check_kept : (d : Drive) (n : ℕ) → (error_held d.fault || d.marks.fresh) ≡ true → Kept d.head (checked d n)
unfolding checked
check_kept d n s =
    either (Kept d.head) (error_held d.fault) _ _ (λ e. as_it_was refl)
    (λ e. either (Kept d.head) d.marks.fresh _ _ (λ f. latch_kept d new_cartridge_pending n) (λ f. never s (rw (e, f))))

module _ (d : Drive) (r : Rules d) (s : (error_held d.fault || d.marks.fresh) ≡ true) where
  -- no argument is waited for
  no_argument : is_waiting d.waiting ≡ true → ⊥
  no_argument e = by d.waiting refl
    where
      by : (w : Option Waiting) → d.waiting ≡ w → ⊥
      by None p = never e (ap is_waiting p)
      by (Some w) p =
          let q : Waits (Some w) d = rw p at r.1 in
          let f : is_free d.report d.head d.fault d.marks ≡ true = and_r (w.held <ᵇ needed w.code) _ (and_l _ _ q) in
          or_by (error_held d.fault) d.marks.fresh s (λ h. never h (not-true (error_held d.fault) (search ands)))
          (λ h. never h (not-true d.marks.fresh (search ands)))

  command_kept : (n : ℕ) → Kept d.head (step_command d n)
  unfolding step_command
  command_kept n =
      either (Kept d.head) (is_ready d) _ _ (λ y. check_kept d n s)
      (λ y. either (Kept d.head) (is_run d.head.motion && stops_motion n) _ _
      (λ f. after_stop d.head (checked (stopped d) n).head (and_l (is_run d.head.motion) (stops_motion n) f)
      (check_kept (stopped d) n s))
      (λ f. latch_kept d not_ready n))

  unsupported_kept : (n : ℕ) → Kept d.head (step_unsupported d n)
  unfolding step_unsupported
  unsupported_kept n = either (Kept d.head) (n <ᵇ report_vendor) _ _ (λ q. latch_kept d undefined_command n) (λ q. as_it_was refl)

  taken_kept : (n : ℕ) {x : Drive} → (n ≡ᵇ soft_reset) ≡ false → Taken d n x → Kept d.head x
  taken_kept n k (by_reset e) = never e k
  taken_kept n k (by_argument e w) = absurd (no_argument w)
  taken_kept n k (by_report e w o) = in_report_kept d n
  taken_kept n k (by_next_bit h f) = as_it_was refl
  taken_kept n k (by_unsupported h) = unsupported_kept n
  taken_kept n k (by_opening h p) = as_it_was (open_stays d n)
  taken_kept n k (by_command h c) = command_kept n

pub only_reset_starts : OnlyResetStarts
only_reset_starts d n e s k =
    train_by (λ (x : Step). Kept d.head x.drive) d (λ p. as_it_was refl) n (λ p z. as_it_was refl)
    (λ p z. taken_kept d (to_rules d e) s n (ne_eqb n soft_reset k) (train_taken d n))
