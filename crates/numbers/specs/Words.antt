-- 02, A7: "a little-endian length of four bytes": a word, its lowest byte first.
-- Assumes nothing.
use Rattle.std.specs.Prelude.{ℕ, ◌+◌, ◌*◌, ◌/◌, ◌%◌, List, [], ◌∷◌, get_or}

-- the number that the four bytes of s from place p on spell
unfoldable pub word_at : List ℕ → ℕ → ℕ
word_at s p = get_or s p 0 + 256 * (get_or s (p + 1) 0 + 256 * (get_or s (p + 2) 0 + 256 * get_or s (p + 3) 0))

-- the low four bytes of w
unfoldable pub word_bytes : ℕ → List ℕ
word_bytes w = (w % 256) ∷ (w / 256 % 256) ∷ (w / 256 / 256 % 256) ∷ (w / 256 / 256 / 256 % 256) ∷ []
