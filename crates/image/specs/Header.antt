-- 01, "The cartridge image": "Big-endian, a header of 32 bytes: 0-1 header length, 32; 2-3 block size B, 512 or 1024; 4-7 capacity C, 1 to 65,535
-- elements; 8-11 recorded U, at most C; 12-15 offset K of the kind table; 16-19 offset D of the blocks; 20 write protect, 0 or 1; 21 medium type, any;
-- 22-23 early warning W, at most C; 24-31 zero. Also K >= 32, K + C <= D, D + C*B <= image length."
-- Assumes nothing.
use Rattle.std.specs.Prelude.{ℕ, ◌+◌, ◌*◌, List, [], ◌∷◌, Bool, ◌&&◌, length, get_or, if◌then◌else◌, Option, Some, None}
use Rattle.numbers.specs.Counts.{count_at}
use Rattle.numbers.specs.RuleList.{Rule, ◌≤ʳ◌, ◌≡ʳ◌, ◌∈ʳ◌, all_hold}
use Rattle.image.specs.declared.header.Header.{Header}

abbrev pub header_length : ℕ
header_length = 32

-- "block size B, 512 or 1024"
abbrev pub block_sizes : List ℕ
block_sizes = 512 ∷ 1024 ∷ []

-- "capacity C, 1 to 65,535 elements"
abbrev pub most_elements : ℕ
most_elements = 65535

-- the fields as they stand
unfoldable pub fields_of : List ℕ → Header
fields_of s =
    record {
      size = count_at s 2 2;
      capacity = count_at s 4 4;
      recorded = count_at s 8 4;
      kinds = count_at s 12 4;
      blocks = count_at s 16 4;
      protect = get_or s 20 0;
      medium = get_or s 21 0;
      warning = count_at s 22 2;
    }

-- "a header of 32 bytes: 0-1 header length, 32; .. 24-31 zero"
abbrev pub fixed_bytes : List ℕ → List Rule
fixed_bytes s =
    (header_length ≤ʳ length s)
    ∷ (count_at s 0 2 ≡ʳ header_length)
    ∷ (count_at s 24 4 ≡ʳ 0)
    ∷ (count_at s 28 4 ≡ʳ 0)
    ∷ []

-- the ranges of the fields
abbrev pub field_ranges : Header → List Rule
field_ranges h =
    (1 ≤ʳ h.capacity)
    ∷ (h.capacity ≤ʳ most_elements)
    ∷ (h.recorded ≤ʳ h.capacity)
    ∷ (h.protect ≤ʳ 1)
    ∷ (h.warning ≤ʳ h.capacity)
    ∷ (h.size ∈ʳ block_sizes)
    ∷ []

-- "Also K >= 32, K + C <= D, D + C*B <= image length", for an image of n bytes
abbrev pub place_rules : Header → ℕ → List Rule
place_rules h n =
    (header_length ≤ʳ h.kinds)
    ∷ (h.kinds + h.capacity ≤ʳ h.blocks)
    ∷ (h.blocks + h.capacity * h.size ≤ʳ n)
    ∷ []

unfoldable pub keeps_header_rules : List ℕ → Bool
keeps_header_rules s = all_hold (fixed_bytes s) && all_hold (field_ranges (fields_of s)) && all_hold (place_rules (fields_of s) (length s))

-- the header of a slice that is an image
unfoldable pub header_of : List ℕ → Option Header
header_of s = if keeps_header_rules s then Some (fields_of s) else None

-- "2: image breaks a header rule above"
abbrev pub broken_image : ℕ
broken_image = 2

-- the refusal number of each finding, 0 for none
abbrev pub refusal_of : Option Header → ℕ
refusal_of None = broken_image
refusal_of (Some h) = 0

-- the same header with another U
abbrev pub with_recorded : Header → ℕ → Header
with_recorded h u =
    record {
      size = h.size;
      capacity = h.capacity;
      recorded = u;
      kinds = h.kinds;
      blocks = h.blocks;
      protect = h.protect;
      medium = h.medium;
      warning = h.warning;
    }

-- the same header with another W
abbrev pub with_warning : Header → ℕ → Header
with_warning h w =
    record {
      size = h.size;
      capacity = h.capacity;
      recorded = h.recorded;
      kinds = h.kinds;
      blocks = h.blocks;
      protect = h.protect;
      medium = h.medium;
      warning = w;
    }
