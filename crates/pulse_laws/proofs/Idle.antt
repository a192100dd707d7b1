-- The rules where no arguments are waited for, under motions and errors.
-- Assumes nothing.
use Prim.Native.Nat.{ℕ, ◌≤◌}
use mathlib.Core.Bool.{true, false}
use mathlib.Core.Path.{◌≡◌, refl, ◌∙◌}
use Rattle.std.specs.Prelude.{Option, None}
use Rattle.numbers.specs.Choice.{◌≡ᵇ◌}
use Rattle.numbers.proofs.Cases.{either}
use Rattle.pulse_codes.specs.declared.arguments.Waiting.{Waiting}
use Rattle.pulse_codes.specs.Errors.{admitted}
use Rattle.pulse_parts.specs.Faults.{error_held}
use Rattle.pulse_parts.specs.Heads.{is_run}
use Rattle.pulse.specs.declared.drive.Drive.{Drive}
use Rattle.pulse.specs.Motions.{latched, load_started, run_started}
use Rattle.pulse_laws.proofs.Motion.{latch_calm, run_calm}
use Rattle.pulse_laws.proofs.Rules.{Calm, Rules}

-- the rules, with no arguments waited for
abbrev pub Idle : Drive → Type 0
Idle d = Calm d × (d.waiting ≡ None)

pub idle_rules : (d : Drive) → Idle d → Rules d
idle_rules d r = (r.0, rw r.1)

-- a drive that waits as w says
abbrev pub Awaits : Option Waiting → Drive → Type 0
Awaits w x = x.waiting ≡ w

pub latch_waiting : (d : Drive) (e n : ℕ) → (latched d e n).waiting ≡ d.waiting
unfolding latched
latch_waiting d e n =
    either (Awaits d.waiting) (error_held d.fault) _ _ (λ p. refl)
    (λ p. either (Awaits d.waiting) (is_run d.head.motion) _ _ (λ q. refl) (λ q. refl))

pub load_waiting : (d : Drive) → (load_started d).waiting ≡ d.waiting
unfolding load_started
load_waiting d = either (Awaits d.waiting) (d.head.place ≡ᵇ 0) _ _ (λ e. refl) (λ e. refl)

pub run_waiting : (d : Drive) (t : ℕ) → (run_started d t).waiting ≡ d.waiting
unfolding run_started
run_waiting d t = either (Awaits d.waiting) (d.head.place ≡ᵇ t) _ _ (λ e. refl) (λ e. refl)

pub latch_idle : (d : Drive) (e n : ℕ) → admitted e ≡ true → Idle d → Idle (latched d e n)
latch_idle d e n a r = (latch_calm d e n a r.0, latch_waiting d e n ∙ r.1)

pub run_idle : (d : Drive) (t : ℕ) → Idle d → d.marks.inside ≡ true → t ≤ d.cart.segments → error_held d.fault ≡ false →
    Idle (run_started d t)
run_idle d t r i l f = (run_calm d t r.0 i l f, run_waiting d t ∙ r.1)
