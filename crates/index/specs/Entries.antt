-- 02, A4: "Keep an index of filemark places, ascending, in a second lent buffer, four bytes for each; the rest of the first 4*C bytes is FFh, and bytes
-- beyond stay."
-- Assumes nothing.
use Rattle.std.specs.Prelude.{ℕ, zero, suc, ◌+◌, ◌*◌, ◌-◌, ◌^◌, Bool, List, [], ◌∷◌, ◌++◌, length, replicate, if◌then◌else◌}
use Rattle.numbers.specs.Counts.{count_bytes}
use Rattle.numbers.specs.Over.{over}
use Rattle.numbers.specs.Same.{same}
use Rattle.image.specs.Elements.{is_filemark, kind_at}
use Rattle.image.specs.Header.{fields_of}

-- of n elements from place p on, the places of the filemarks, ascending
module _ (s : List ℕ) (kinds : ℕ) where
  unfoldable pub marks_from : ℕ → ℕ → List ℕ
  marks_from zero p = []
  marks_from (suc n) p =
      if is_filemark (kind_at s kinds p) then p ∷ marks_from n (p + 1) else
      marks_from n (p + 1)

-- "filemark places, ascending": those below U, since "Kinds at U and above mean nothing." (01)
unfoldable pub filemarks_of : List ℕ → List ℕ
filemarks_of s = marks_from s (fields_of s).kinds (fields_of s).recorded 0

-- four bytes FFh
abbrev pub no_filemark : ℕ
no_filemark = 2 ^ 32 - 1

-- an entry for each filemark; "the rest of the first 4*C bytes is FFh": C entries in all
unfoldable pub entries_of : List ℕ → List ℕ
entries_of s = filemarks_of s ++ replicate ((fields_of s).capacity - length (filemarks_of s)) no_filemark

-- "four bytes for each"; 01: "Numbers .. are big-endian."
abbrev pub entry_bytes : List ℕ → List ℕ
entry_bytes [] = []
entry_bytes (p ∷ ps) = count_bytes 4 p ++ entry_bytes ps

-- "four times the capacity"
abbrev pub index_length : List ℕ → ℕ
index_length s = 4 * (fields_of s).capacity

-- "the index made afresh from the image", in this buffer: "bytes beyond stay"
unfoldable pub fresh_index : List ℕ → List ℕ → List ℕ
fresh_index s index = over index 0 (entry_bytes (entries_of s))

-- the index does not differ "from a fresh one"
unfoldable pub is_fresh : List ℕ → List ℕ → Bool
is_fresh s index = same index (fresh_index s index)
