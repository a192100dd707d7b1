-- Flag bits in a byte, each by its weight: 1 for bit 0, 2 for bit 1, 4 for bit 2, 8 for bit 3, 16 for bit 4.
-- Assumes nothing.
use Rattle.std.specs.Prelude.{ℕ, ◌/◌, ◌%◌, Bool, if◌then◌else◌}
use Rattle.numbers.specs.Choice.{◌≡ᵇ◌}

-- "A flag bit is true where it is 1."
abbrev pub is_set : ℕ → ℕ → Bool
is_set byte weight = byte / weight % 2 ≡ᵇ 1

-- what the flag adds to its byte
abbrev pub weight_of : Bool → ℕ → ℕ
weight_of on weight = if on then weight else 0
