-- Arguments held: four nibbles are the whole value.
-- Assumes nothing.
use mathlib.Core.Path.{◌≡◌, sym}
use Prim.Native.Nat.{ℕ, ◌%◌, ◌^◌, ◌<◌, ◌≤◌}
use native.Mathlib.Nat.{lt_of_lt_of_le, zero-lt-suc, pow-le-pow_right, mod-eq_of_lt}

pub whole_value : (value held : ℕ) → value < 16 ^ 4 → 4 ≤ held → value ≡ value % 16 ^ held
whole_value value held small many = sym (mod-eq_of_lt (lt_of_lt_of_le small (pow-le-pow_right (zero-lt-suc 15) many)))
