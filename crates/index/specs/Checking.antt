-- 02, A4: an index compared with a fresh one, entry by entry.
-- Assumes nothing.
use Rattle.std.specs.Prelude.{ℕ, ◌+◌, Bool, true, not, ◌&&◌, List, [], ◌∷◌, length, if◌then◌else◌, Option, Some, None}
use Rattle.std.specs.List.{list_all}
use Rattle.numbers.specs.Choice.{◌≡ᵇ◌}
use Rattle.index.specs.Spacing.{entry_at}

-- the entries from entry n on are these
unfoldable pub holds_entries : List ℕ → ℕ → List ℕ → Bool
holds_entries index n [] = true
holds_entries index n (p ∷ ps) = (entry_at index n ≡ᵇ p) && holds_entries index (n + 1) ps

-- place p, where it is a filemark's, is entry n: the entry to compare next; or they differ
unfoldable pub compared_at : Bool → List ℕ → ℕ → ℕ → Option ℕ
compared_at mark index n p =
    if not mark then Some n else
    if entry_at index n ≡ᵇ p then Some (n + 1) else
    None

-- the first entries are these filemarks, and so many they are; or one differs
unfoldable pub compared_with : List ℕ → List ℕ → Option ℕ
compared_with index marks = if holds_entries index 0 marks then Some (length marks) else None

-- "the rest of the first 4*C bytes is FFh": these bytes are
abbrev pub are_blank : List ℕ → Bool
are_blank bytes = list_all (λ x. x ≡ᵇ 0xff) bytes
