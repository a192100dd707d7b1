-- How a run ends: no more is left than was asked for, and the stop is Full just where nothing is left.
-- Assumes nothing.
use Rattle.std.specs.Prelude.{if◌then◌else◌}
use mathlib.Core.Bool.{Bool, true, false}
use mathlib.Core.Path.{◌≡◌, refl}
use Prim.Native.Nat.{ℕ, suc, ◌+◌, ◌-◌, ◌≤◌, ◌<◌}
use native.Mathlib.Nat.{le_refl}
use native.Mathlib.Omega.{arith}
use Rattle.image.specs.declared.elements.Kind.{Kind}
use Rattle.image.specs.Elements.{is_filemark}
use Rattle.transfer.specs.declared.Moved.{Moved}
use Rattle.transfer.specs.declared.Stop.{Stop}
use Rattle.transfer.specs.declared.Stop.TheVariants.{Full, AtFilemark, AtBadBlock, AtEnd, AtBeginning}
use Rattle.transfer.specs.Moving.{halts}
use Rattle.transfer.specs.Reading.{stop_at}

-- of n asked for, `done` are done: none is left, or one and what is left after it
module _ (n done : ℕ) where
  pub none_left : done ≡ n → n - done ≡ 0
  none_left e = omega arith

  pub some_left : done < n → n - done ≡ suc (n - (done + 1))
  some_left l = omega arith

-- a run that was asked for n
pub record Ended (n : ℕ) (m : Moved) : Type 0 where
  pub less : m.left ≤ n
  pub full : m.stop ≡ Full → m.left ≡ 0
  pub none : m.left ≡ 0 → m.stop ≡ Full

pub ended_full : (p : ℕ) → Ended 0 (halts p 0 Full)
ended_full p = record { less = le_refl 0; full = λ e. refl; none = λ e. refl }

pub ended_short : (n p : ℕ) (stop : Stop) → 0 < n → (stop ≡ Full → ⊥) → Ended n (halts p n stop)
ended_short n p stop h f = record { less = le_refl n; full = λ e. absurd (f e); none = λ e. absurd (omega arith) }

pub ended_on : (k n : ℕ) (m : Moved) → k ≤ n → Ended k m → Ended n m
ended_on k n m h e = record { less = omega arith; full = e.full; none = e.none }

pub filemark_short : AtFilemark ≡ Full → ⊥
filemark_short e = let z : ◌≡◌ {A = ℕ} 0 1 = cc in omega arith

pub stop_short : (kind : Kind) → stop_at kind ≡ Full → ⊥
unfolding stop_at
stop_short kind = by (is_filemark kind)
  where
    by : (b : Bool) → (if b then AtFilemark else AtBadBlock) ≡ Full → ⊥
    by true e = filemark_short e
    by false e = let z : ◌≡◌ {A = ℕ} 0 1 = cc in omega arith

pub end_short : AtEnd ≡ Full → ⊥
end_short e = let z : ◌≡◌ {A = ℕ} 0 1 = cc in omega arith

pub beginning_short : AtBeginning ≡ Full → ⊥
beginning_short e = let z : ◌≡◌ {A = ℕ} 0 1 = cc in omega arith
