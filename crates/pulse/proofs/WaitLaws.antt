-- What the wait loop keeps from turn to turn.
-- Assumes nothing.
use Prim.Native.Nat.{ℕ, zero, suc, ◌+◌, ◌-◌, ◌≤◌, ◌<◌}
use native.Mathlib.Omega.{arith}
use native.Mathlib.Numerals.{add-one}
use mathlib.Core.Bool.{true, false}
use mathlib.Core.Path.{◌≡◌, refl, sym, ◌∙◌, ap}
use Rattle.pulse.specs.declared.calls.Waited.{Waited}
use Rattle.pulse.specs.declared.drive.Drive.{Drive}
use Rattle.pulse.specs.Drives.{is_ready}
use Rattle.pulse.specs.Events.{run_for, steps_to}
use Rattle.pulse.specs.Motions.{ticked}

steps_ready : (k : ℕ) (d : Drive) → is_ready d ≡ true → steps_to k d ≡ 0
unfolding steps_to
steps_ready zero d e = refl
steps_ready (suc k) d e = rw e

steps_tick : (k : ℕ) (d : Drive) → is_ready d ≡ false → steps_to (suc k) d ≡ suc (steps_to k (ticked d))
unfolding steps_to
steps_tick k d e = rw e

-- how things stand after `used` ticks from d₀
pub record Going (limit : ℕ) (d₀ : Drive) (used : ℕ) (d : Drive) : Type 0 where
  pub ran : d ≡ run_for used d₀
  pub left : steps_to limit d₀ ≡ used + steps_to (limit - used) d

pub start : (limit : ℕ) (d : Drive) → Going limit d 0 d
unfolding run_for
start limit d =
    let z : limit - 0 ≡ limit = omega arith in
    record { ran = refl; left = rw z (omega arith) }

pub again : (limit used : ℕ) (d₀ d : Drive) → used < limit → is_ready d ≡ false → Going limit d₀ used d → Going limit d₀ (used + 1) (ticked d)
unfolding run_for
again limit used d₀ d h e g =
    let z : limit - used ≡ suc (limit - (used + 1)) = omega arith in
    let s : steps_to (limit - used) d ≡ suc (steps_to (limit - (used + 1)) (ticked d)) = ap (λ (k : ℕ). steps_to k d) z ∙ steps_tick _ d e in
    record { ran = rw add-one (ap ticked g.ran); left = omega (arith, g.left, s) }

abbrev waited : ℕ → Drive → Waited
waited ticks drive = record { ticks = ticks; drive = drive }

module _ (limit used : ℕ) (d₀ d : Drive) (g : Going limit d₀ used d) where
  -- no step is left
  answer : steps_to (limit - used) d ≡ 0 → waited used d ≡ waited (steps_to limit d₀) (run_for (steps_to limit d₀) d₀)
  answer e = let s : used ≡ steps_to limit d₀ = omega (arith, g.left, e) in rw (g.ran, s)

  pub ready_answer : is_ready d ≡ true → waited used d ≡ waited (steps_to limit d₀) (run_for (steps_to limit d₀) d₀)
  ready_answer e = answer (steps_ready (limit - used) d e)

  pub limit_answer : limit ≤ used → used ≤ limit → waited limit d ≡ waited (steps_to limit d₀) (run_for (steps_to limit d₀) d₀)
  unfolding steps_to
  limit_answer h k =
      let z : limit - used ≡ 0 = omega arith in
      let e : used ≡ limit = omega arith in
      ap (λ (n : ℕ). waited n d) (sym e) ∙ answer (ap (λ (n : ℕ). steps_to n d) z)
