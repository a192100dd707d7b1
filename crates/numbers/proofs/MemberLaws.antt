-- A table that is searched from its start, what it has, what is not in it, and the bound of its members.
-- Assumes nothing.
use mathlib.Core.Path.{◌≡◌, refl, ap}
use mathlib.Core.Bool.{Bool, true, false, ◌||◌}
use mathlib.Core.List.{List, [], ◌∷◌}
use Prim.Native.Nat.{ℕ, ◌+◌, ◌<◌, ◌≤◌, max}
use native.Mathlib.Numerals.{add-one}
use native.Mathlib.Omega.{arith}
use borrow.Author.Tests.{eq-eqb, ne_eqb, eqb-true}
use lib.ListN.{length, get_or, drop, drop_of_length-le}
use lib.Seq.{drop-cons}
use Rattle.std.specs.List.{list_any}
use Rattle.numbers.specs.Choice.{◌≡ᵇ◌}
use Rattle.numbers.specs.Member.{is_in}
use Rattle.numbers.proofs.Cases.{never, no_l, no_r, or_by}

module _ (x : ℕ) (xs : List ℕ) (i : ℕ) (y : Bool) (so_far : is_in x (drop i xs) ≡ y) where
  pub found : i < length xs → get_or xs i 0 ≡ x → true ≡ y
  unfolding is_in
  found h e = rw (drop-cons xs i 0 h, eq-eqb _ _ e) at so_far

  pub not_yet : i < length xs → (get_or xs i 0 ≡ x → ⊥) → is_in x (drop (i + 1) xs) ≡ y
  unfolding is_in
  not_yet h n = rw add-one (rw (drop-cons xs i 0 h, ne_eqb _ _ n) at so_far)

  pub not_found : length xs ≤ i → false ≡ y
  unfolding is_in
  not_found h = rw (drop_of_length-le xs h) at so_far

-- the library's search of a table
pub is_any : (x : ℕ) (ys : List ℕ) → is_in x ys ≡ list_any (λ y. y ≡ᵇ x) ys
unfolding is_in
is_any x [] = refl
is_any x (y ∷ ys) = ap (λ b. (y ≡ᵇ x) || b) (is_any x ys)

-- what is not in a table is not its first, nor in the rest
pub not_in_parts : (x y : ℕ) (ys : List ℕ) → is_in x (y ∷ ys) ≡ false → ((y ≡ᵇ x) ≡ false) × (is_in x ys ≡ false)
unfolding is_in
not_in_parts x y ys e = (no_l (y ≡ᵇ x) (is_in x ys) e, no_r (y ≡ᵇ x) (is_in x ys) e)

-- the largest of a table
unfoldable pub largest : List ℕ → ℕ
largest [] = 0
largest (y ∷ ys) = max y (largest ys)

pub in_largest : (x : ℕ) (ys : List ℕ) → is_in x ys ≡ true → x ≤ largest ys
unfolding is_in largest
in_largest x [] e = never e refl
in_largest x (y ∷ ys) e = or_by (y ≡ᵇ x) (is_in x ys) e (λ p. omega (arith, eqb-true y x p)) (λ p. omega (arith, in_largest x ys p))
