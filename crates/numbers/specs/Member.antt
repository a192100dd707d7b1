-- Whether a number stands in a table.
-- Assumes nothing.
use Rattle.std.specs.Prelude.{ℕ, Bool, false, ◌||◌, List, [], ◌∷◌}
use Rattle.numbers.specs.Choice.{◌≡ᵇ◌}

unfoldable pub is_in : ℕ → List ℕ → Bool
is_in x [] = false
is_in x (y ∷ ys) = (y ≡ᵇ x) || is_in x ys
