-- A code that the drive hears fits a byte.
-- Assumes nothing.
use Prim.Native.Nat.{ℕ, ◌<◌, ◌≤◌}
use native.Mathlib.Omega.{arith}
use mathlib.Core.Bool.{Bool, true, false, not, and-false, false≢true}
use mathlib.Core.Path.{◌≡◌, refl, sym}
use borrow.Author.Tests.{lt-leb, lt-ltb, ne_eqb, ltb-true, ltb-false}
use lib.Dec.{ltb}
use Rattle.pulse_codes.specs.Codes.{supported, ignored}

unheard : (n : ℕ) → 36 ≤ n → supported n ≡ false
unheard n h =
    simp (
      lt-leb n 3 (omega arith),
      lt-leb n 14 (omega arith),
      ne_eqb n 18 (λ e. omega arith),
      lt-leb n 27 (omega arith),
      lt-leb n 35 (omega arith),
      and-false,
    )

pub supported_byte : (n : ℕ) → not (supported n) ≡ false → n < 256
supported_byte n e = by (ltb n 36) refl
  where
    by : (b : Bool) → ltb n 36 ≡ b → n < 256
    by true q = omega (arith, ltb-true n 36 q)
    by false q = let u = unheard n (ltb-false n 36 q) in absurd (false≢true (sym (rw u at e)))

pub heard_byte : (n : ℕ) → ignored n ≡ false → n < 256
heard_byte n e = by (ltb n 36) refl
  where
    by : (b : Bool) → ltb n 36 ≡ b → n < 256
    by true q = omega (arith, ltb-true n 36 q)
    by false q = let u = unheard n (ltb-false n 36 q) in let v = lt-ltb 32 n (omega (arith, ltb-false n 36 q)) in absurd (false≢true (sym (rw (u, v) at e)))
