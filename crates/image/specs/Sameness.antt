-- What two images have in common, and what a reader finds in one, below any end up to the capacity.
-- Assumes nothing.
use Rattle.std.specs.Prelude.{ℕ, ◌+◌, ◌≤◌, ◌<◌, true, List, ◌⊎◌, ◌≡◌}
use Rattle.image.specs.declared.elements.Kind.{Kind}
use Rattle.image.specs.declared.header.Header.{Header}
use Rattle.image.specs.Elements.{kind_at, block_at, holds_data}
use Rattle.image.specs.Header.{fields_of, header_of, keeps_header_rules}

-- element i, below the end, holds data: these bytes
pub record IsBlock (end : ℕ) (s : List ℕ) (i : ℕ) (bytes : List ℕ) : Type 0 where
  pub good : keeps_header_rules s ≡ true
  pub before : i < end
  pub holds : holds_data (kind_at s (fields_of s).kinds i) ≡ true
  pub same : block_at s (fields_of s).size (fields_of s).blocks i ≡ bytes

-- the same, of this one of the kinds that hold data
abbrev pub IsBlockOf : Kind → ℕ → List ℕ → ℕ → List ℕ → Type 0
IsBlockOf kind end s i bytes = IsBlock end s i bytes × (kind_at s (fields_of s).kinds i ≡ kind)

-- element i has the same kind and bytes in the image t as in s
pub record SameElement (h : Header) (s t : List ℕ) (i : ℕ) : Type 0 where
  pub kind : kind_at t h.kinds i ≡ kind_at s h.kinds i
  pub bytes : block_at t h.size h.blocks i ≡ block_at s h.size h.blocks i

-- element i reads the same in the image t as in s: it has the same kind and, where it holds data, the same bytes
pub record ReadsSame (h : Header) (s t : List ℕ) (i : ℕ) : Type 0 where
  pub kind : kind_at t h.kinds i ≡ kind_at s h.kinds i
  pub bytes : holds_data (kind_at s h.kinds i) ≡ true → block_at t h.size h.blocks i ≡ block_at s h.size h.blocks i

-- the images s and t have one header, and elements that read the same below the end
pub record Alike (end : ℕ) (s t : List ℕ) : Type 0 where
  pub header : header_of t ≡ header_of s
  pub elements : (i : ℕ) → i < end → ReadsSame (fields_of s) s t i

-- byte m is outside the n bytes from place a on
abbrev pub Outside : ℕ → ℕ → ℕ → Type 0
Outside a n m = (m < a) ⊎ (a + n ≤ m)
