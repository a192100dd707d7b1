-- Tests as facts, cases on a test, and one outcome.
-- Assumes nothing.
use Prim.Native.Nat.{ℕ, zero, suc, ◌<◌}
use native.Mathlib.Nat.{lt_irrefl}
use native.Mathlib.Omega.{arith}
use borrow.Author.Tests.{eqb-true, eqb-false}
use lib.Dec.{eqb}
use mathlib.Core.Bool.{Bool, true, false, cond, ◌&&◌, ◌||◌, false≢true, true≢false}
use mathlib.Core.Path.{◌≡◌, refl, sym, ◌∙◌}
use Rattle.numbers.specs.Outcomes.{Settles}

pub and_l : (a b : Bool) → (a && b) ≡ true → a ≡ true
and_l true b e = refl
and_l false b e = e

pub and_r : (a b : Bool) → (a && b) ≡ true → b ≡ true
and_r true b e = e
and_r false b e = absurd (false≢true e)

pub and_i : (a b : Bool) → a ≡ true → b ≡ true → (a && b) ≡ true
and_i a b p q = rw (p, q)

pub ruleset ands = (and_l, and_r)

pub or_r : (a b : Bool) → b ≡ true → (a || b) ≡ true
or_r true b p = refl
or_r false b p = p

pub no_l : (a b : Bool) → (a || b) ≡ false → a ≡ false
no_l true b e = absurd (true≢false e)
no_l false b e = refl

pub no_r : (a b : Bool) → (a || b) ≡ false → b ≡ false
no_r true b e = absurd (true≢false e)
no_r false b e = e

-- one of two holds
pub or_by : {G : Type 0} (a b : Bool) → (a || b) ≡ true → (a ≡ true → G) → (b ≡ true → G) → G
or_by true b e f g = f refl
or_by false b e f g = g e

-- cases on a test
pub test : {G : Type 0} (b : Bool) → (b ≡ true → G) → (b ≡ false → G) → G
test true f g = f refl
test false f g = g refl

-- a choice has what both its ways have
pub either : {A : Type 0} (P : A → Type 0) (b : Bool) (x y : A) → (b ≡ true → P x) → (b ≡ false → P y) → P (cond b x y)
either P true x y f g = f refl
either P false x y f g = g refl

-- a promise that names the outcome allows no two
pub settles : {A : Type 0} (outcome : A) → Settles (λ (x : A). x ≡ outcome)
settles outcome x y p q = p ∙ sym q

-- a test that holds and fails
pub never : {G : Type 0} {b : Bool} → b ≡ true → b ≡ false → G
never p q = absurd (true≢false (sym p ∙ q))

-- a test of numbers that holds below k, by computing
unfoldable pub all_below : ℕ → (ℕ → Bool) → Bool
all_below zero p = true
all_below (suc k) p = p k && all_below k p

pub below : (k : ℕ) (p : ℕ → Bool) → all_below k p ≡ true → (n : ℕ) → n < k → p n ≡ true
unfolding all_below
below zero p e n l = absurd (lt_irrefl 0 (omega arith))
below (suc k) p e n l =
    test (eqb n k) (λ q. rw (eqb-true n k q) (and_l (p k) (all_below k p) e))
    (λ q. below k p (and_r (p k) (all_below k p) e) n (omega (arith, eqb-false n k q)))
