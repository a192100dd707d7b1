-- Step 7 of a train, a command, keeps the rules.
-- Assumes nothing.
use Prim.Native.Nat.{ℕ, ◌≤◌, ◌<◌}
use native.Mathlib.Omega.{arith}
use mathlib.Core.Bool.{Bool, true, false, not, ◌&&◌, ◌||◌, or-false, or-true}
use mathlib.Core.Path.{◌≡◌, refl, ◌∙◌}
use Rattle.std.specs.Prelude.{Some}
use borrow.Author.Tests.{eqb-true, leb-true, not-false}
use Rattle.numbers.specs.Choice.{◌<ᵇ◌, ◌≡ᵇ◌, ◌≤ᵇ◌}
use Rattle.numbers.specs.Member.{is_in}
use Rattle.numbers.proofs.Cases.{all_below, and_r, below, either, no_l, or_by}
use Rattle.pulse_codes.specs.Arguments.{needed}
use Rattle.pulse_codes.specs.Codes.{between, is_report, is_skip, logical_forward, needs_cartridge, needs_reference, pause, physical_forward}
use Rattle.pulse_codes.specs.Codes.{physical_reverse, report_next_bit, report_status, report_vendor, seek_load_point, seek_track, select_rate}
use Rattle.pulse_codes.specs.Codes.{skip_extended_forward, skip_reverse, soft_reset, stop_tape, stops_motion, supported}
use Rattle.pulse_codes.specs.Errors.{admitted, cartridge_missing, new_cartridge_pending, not_ready, not_referenced}
use Rattle.pulse_parts.specs.Faults.{error_held}
use Rattle.pulse_parts.specs.Heads.{is_run}
use Rattle.pulse_parts.specs.Reports.{is_open}
use Rattle.pulse.specs.declared.drive.Drive.{Drive}
use Rattle.pulse.specs.Commands.{checked, obeyed, step_command}
use Rattle.pulse.specs.Drives.{is_ready}
use Rattle.pulse.specs.Motions.{latched, load_started, run_started, stopped}
use Rattle.pulse_laws.proofs.Idle.{Idle, idle_rules, latch_idle, load_waiting, run_idle}
use Rattle.pulse_laws.proofs.Motion.{load_calm, stop_calm}
use Rattle.pulse_laws.proofs.Rules.{Rules, Waits}
use Rattle.pulse_laws.proofs.Steps.{Command}

in_codes : (a b n : ℕ) → b < 36 → between a b n ≡ true → n < 36
in_codes a b n l e = omega (arith, leb-true n b (and_r (a ≤ᵇ n) (n ≤ᵇ b) e))

is_code : (a n : ℕ) → a < 36 → (n ≡ᵇ a) ≡ true → n < 36
is_code a n l e = omega (arith, eqb-true n a e)

-- every supported code is below 36
pub supported_low : (n : ℕ) → supported n ≡ true → n < 36
supported_low n e =
    or_by _ _ e
    (λ e. or_by _ _ e
    (λ e. or_by _ _ e
    (λ e. or_by _ _ e (in_codes soft_reset pause n (omega arith)) (in_codes report_status seek_load_point n (omega arith)))
    (is_code stop_tape n (omega arith)))
    (in_codes skip_reverse select_rate n (omega arith)))
    (in_codes report_vendor skip_extended_forward n (omega arith))

-- a command that neither stops nor moves the tape at once takes arguments: by computing, below 36
abbrev stops : ℕ → Bool
stops n = (n ≡ᵇ pause) || (n ≡ᵇ stop_tape)

abbrev goes : ℕ → Bool
goes n = (n ≡ᵇ logical_forward) || (n ≡ᵇ physical_forward)

abbrev takes_arguments : ℕ → Bool
takes_arguments n =
    not (supported n) || is_report n || (n ≡ᵇ soft_reset) || (n ≡ᵇ report_next_bit) || stops n || goes n || (n ≡ᵇ physical_reverse)
    || (n ≡ᵇ seek_load_point) || (0 <ᵇ needed n)

takes : (n : ℕ) → Command n → stops n ≡ false → goes n ≡ false → (n ≡ᵇ physical_reverse) ≡ false →
    (n ≡ᵇ seek_load_point) ≡ false → (0 <ᵇ needed n) ≡ true
unfolding needed all_below
takes n c p q r s =
    rw (c.known, c.report, c.reset, c.next, p, q, r, s) at (below 36 takes_arguments refl n (supported_low n c.known))

has : (x y : Bool) → (x && not y) ≡ false → x ≡ true → y ≡ true
has x y e p = not-false y (rw p at e)

unless : (x y : Bool) → (x && not y) ≡ false → (y || not x) ≡ true
unless true y e = or-false y ∙ not-false y e
unless false y e = or-true y

module _ (d : Drive) (n : ℕ) (i : Idle d) (c : Command n) (shut : is_open d.report ≡ false) where
  obey_rules : is_ready d ≡ true → error_held d.fault ≡ false → d.marks.fresh ≡ false →
      (needs_cartridge n && not d.marks.inside) ≡ false →
      (needs_reference n && not d.marks.referenced) ≡ false → Rules (obeyed d n)
  unfolding obeyed
  obey_rules y f m p q =
      either Rules (stops n) _ _ (λ e. idle_rules (stopped d) (stop_calm d i.0, i.1))
      (λ e. either Rules (goes n) _ _ (λ g. runs_to d.cart.segments (forward g) (omega arith))
      (λ g. either Rules (n ≡ᵇ physical_reverse) _ _ (λ b. runs_to 0 (rw (eqb-true n physical_reverse b)) (omega arith))
      (λ b. either Rules (n ≡ᵇ seek_load_point) _ _ (λ l. loads (rw (eqb-true n seek_load_point l))) (λ l. (i.0, waits e g b l)))))
    where
      forward : goes n ≡ true → needs_cartridge n ≡ true
      forward g = or_by _ _ g (λ a. rw (eqb-true n logical_forward a)) (λ a. rw (eqb-true n physical_forward a))

      runs_to : (t : ℕ) → needs_cartridge n ≡ true → t ≤ d.cart.segments → Rules (run_started d t)
      runs_to t a l = idle_rules (run_started d t) (run_idle d t i (has (needs_cartridge n) d.marks.inside p a) l f)

      loads : needs_cartridge n ≡ true → Rules (load_started d)
      loads a = idle_rules (load_started d) (load_calm d i.0 (has (needs_cartridge n) d.marks.inside p a), load_waiting d ∙ i.1)

      waits : stops n ≡ false → goes n ≡ false → (n ≡ᵇ physical_reverse) ≡ false → (n ≡ᵇ seek_load_point) ≡ false →
          Waits (Some record { code = n; held = 0; value = 0 }) d
      waits e g b l =
          let t = takes n c e g b l in
          let s = unless ((n ≡ᵇ seek_track) || is_skip n) d.marks.referenced (rw (no_l (n ≡ᵇ logical_forward) (n ≡ᵇ physical_forward) g) at q) in
          rw (t, shut, y, f, m) s

  check_rules : is_ready d ≡ true → Rules (checked d n)
  unfolding checked is_in
  check_rules y =
      either Rules (error_held d.fault) _ _ (λ f. idle_rules d i)
      (λ f. either Rules d.marks.fresh _ _ (λ m. held new_cartridge_pending refl)
      (λ m. either Rules (needs_cartridge n && not d.marks.inside) _ _ (λ p. held cartridge_missing refl)
      (λ p. either Rules (needs_reference n && not d.marks.referenced) _ _ (λ q. held not_referenced refl) (λ q. obey_rules y f m p q))))
    where
      held : (e : ℕ) → admitted e ≡ true → Rules (latched d e n)
      held e a = idle_rules (latched d e n) (latch_idle d e n a i)

pub command_rules : (d : Drive) (n : ℕ) → Idle d → Command n → is_open d.report ≡ false → Rules (step_command d n)
unfolding step_command is_in
command_rules d n i c s =
    either Rules (is_ready d) _ _ (check_rules d n i c s)
    (λ e. either Rules (is_run d.head.motion && stops_motion n) _ _ (λ f. check_rules (stopped d) n (stop_calm d i.0, i.1) c s refl)
    (λ f. idle_rules (latched d not_ready n) (latch_idle d not_ready n refl i)))
