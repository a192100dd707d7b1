-- Two lists compared: the test holds exactly where they are one list.
-- Assumes nothing.
use mathlib.Core.Path.{◌≡◌, refl, ap}
use mathlib.Core.Bool.{true}
use mathlib.Core.List.{List, [], ◌∷◌}
use Prim.Native.Nat.{ℕ}
use borrow.Author.Tests.{eq-eqb, eqb-true}
use Rattle.numbers.specs.Choice.{◌≡ᵇ◌}
use Rattle.numbers.specs.Same.{same}
use Rattle.numbers.proofs.Cases.{and_l, and_r, and_i, never}

pub same_of : (xs ys : List ℕ) → same xs ys ≡ true → xs ≡ ys
same_of [] [] e = refl
same_of [] (y ∷ ys) e = never e refl
same_of (x ∷ xs) [] e = never e refl
same_of (x ∷ xs) (y ∷ ys) e =
    rw (eqb-true x y (and_l (x ≡ᵇ y) (same xs ys) e)) (ap (λ (l : List ℕ). y ∷ l) (same_of xs ys (and_r (x ≡ᵇ y) (same xs ys) e)))

pub same_self : (xs : List ℕ) → same xs xs ≡ true
same_self [] = refl
same_self (x ∷ xs) = and_i (x ≡ᵇ x) (same xs xs) (eq-eqb x x refl) (same_self xs)
