-- What an argument is known to be once it was read, and which codes take none.
-- Assumes nothing.
use Prim.Native.Nat.{ℕ, ◌-◌, ◌≤◌}
use native.Mathlib.Omega.{arith}
use mathlib.Core.Bool.{Bool, true, false}
use mathlib.Core.Path.{◌≡◌, refl}
use Rattle.std.specs.Prelude.{Some}
use borrow.Author.Tests.{ne_eqb}
use Rattle.pulse_codes.specs.Arguments.{needed, in_range, nibble_of}

pub needed_none : (code : ℕ) → 36 ≤ code → 0 ≡ needed code
unfolding needed
needed_none code h =
    simp (
      ne_eqb code 13 (λ e. omega arith),
      ne_eqb code 27 (λ e. omega arith),
      ne_eqb code 25 (λ e. omega arith),
      ne_eqb code 26 (λ e. omega arith),
      ne_eqb code 34 (λ e. omega arith),
      ne_eqb code 35 (λ e. omega arith),
    )

pub value_in_range : (code n value : ℕ) → nibble_of code n ≡ Some value → in_range code value ≡ true
unfolding nibble_of
value_in_range code n value e = by (in_range code (n - 2)) refl
  where
    by : (b : Bool) → in_range code (n - 2) ≡ b → in_range code value ≡ true
    by true q = let v : n - 2 ≡ value = (let p = rw q at e in cc) in rw v at q
    by false q = let p = rw q at e in absurd (let z : ◌≡◌ {A = ℕ} 0 1 = cc in omega arith)
