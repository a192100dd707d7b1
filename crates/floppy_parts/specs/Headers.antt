-- 02, A1: "over the same image with U = C".
-- Assumes nothing.
use Rattle.std.specs.Prelude.{ℕ, Bool, not, ◌&&◌, List, if◌then◌else◌, Option, Some, None}
use Rattle.numbers.specs.Choice.{◌<ᵇ◌}
use Rattle.image.specs.declared.header.Header.{Header}
use Rattle.image.specs.Header.{fields_of, keeps_header_rules}

-- "Refusals: 2 also when U is below C here"
unfoldable pub is_full : List ℕ → Bool
is_full s = keeps_header_rules s && not ((fields_of s).recorded <ᵇ (fields_of s).capacity)

unfoldable pub full_header_of : List ℕ → Option Header
full_header_of s = if is_full s then Some (fields_of s) else None
