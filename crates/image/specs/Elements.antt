-- The elements of an image with its kind table at K and blocks of B bytes at D.
-- Assumes nothing.
use Rattle.std.specs.Prelude.{ℕ, ◌+◌, ◌*◌, Bool, true, false, List, get_or, set, if◌then◌else◌}
use Rattle.numbers.specs.Choice.{◌≡ᵇ◌, ◌<ᵇ◌}
use Rattle.numbers.specs.Counts.{put_count}
use Rattle.numbers.specs.Over.{over, part}
use Rattle.image.specs.declared.elements.Kind.{Kind}
use Rattle.image.specs.declared.elements.Kind.TheVariants.{Data, Filemark, Unreadable, Marked}

abbrev pub data_kind : ℕ
data_kind = 1

abbrev pub filemark_kind : ℕ
filemark_kind = 2

-- 02, A7: of "every other value" the one that an import stores
abbrev pub unreadable_kind : ℕ
unreadable_kind = 0

-- 02, A6: "Kind 4 becomes "data, marked"."
abbrev pub marked_kind : ℕ
marked_kind = 4

-- 01: "Below U, 1 is data, 2 a filemark, every other value an unreadable block."; 02, A6: "01's "every other value" no longer takes in 4."
unfoldable pub kind_of : ℕ → Kind
kind_of x =
    if x ≡ᵇ data_kind then Data else
    if x ≡ᵇ filemark_kind then Filemark else
    if x ≡ᵇ marked_kind then Marked else
    Unreadable

-- the byte that stands for a kind where one is stored
abbrev pub kind_byte : Kind → ℕ
kind_byte Data = data_kind
kind_byte Filemark = filemark_kind
kind_byte Unreadable = unreadable_kind
kind_byte Marked = marked_kind

-- the kinds that READ copies; 02, A6: "READ copies it as data"
abbrev pub holds_data : Kind → Bool
holds_data Data = true
holds_data Filemark = false
holds_data Unreadable = false
holds_data Marked = true

-- 02, A6: "SPACE counts it as a block": it is no filemark
abbrev pub is_filemark : Kind → Bool
is_filemark Data = false
is_filemark Filemark = true
is_filemark Unreadable = false
is_filemark Marked = false

-- 02, A6: "how many of the blocks copied were marked"
abbrev pub is_marked : Kind → Bool
is_marked Data = false
is_marked Filemark = false
is_marked Unreadable = false
is_marked Marked = true

-- 01: "Element i has its kind at K + i and its bytes at D + i*B."
unfoldable pub kind_at : List ℕ → ℕ → ℕ → Kind
kind_at s kinds i = kind_of (get_or s (kinds + i) 0)

unfoldable pub block_at : List ℕ → ℕ → ℕ → ℕ → List ℕ
block_at s size blocks i = part s (blocks + i * size) size

-- bytes stored as those of element i, with this kind
abbrev pub lay_as : ℕ → List ℕ → ℕ → ℕ → ℕ → ℕ → List ℕ → List ℕ
lay_as kind s size kinds blocks i bytes = set (over s (blocks + i * size) bytes) (kinds + i) kind

-- 01, WRITE: "bytes and kind 1 stored"; 02, A6: "WRITE still stores kind 1.": over a marked block too. The header is not touched
unfoldable pub lay_block : List ℕ → ℕ → ℕ → ℕ → ℕ → List ℕ → List ℕ
lay_block s size kinds blocks i bytes = set (over s (blocks + i * size) bytes) (kinds + i) data_kind

-- 02, A7: "stores an unreadable block as kind 0"
unfoldable pub lay_unreadable : List ℕ → ℕ → ℕ → ℕ → ℕ → List ℕ → List ℕ
lay_unreadable s size kinds blocks i bytes = lay_as unreadable_kind s size kinds blocks i bytes

-- 01, 10h: "filemarks by WRITE's rules, .. block bytes untouched"
unfoldable pub lay_mark : List ℕ → ℕ → ℕ → List ℕ
lay_mark s kinds i = set s (kinds + i) filemark_kind

-- where U stands in the header
abbrev pub recorded_field : ℕ
recorded_field = 8

-- so many elements recorded
abbrev pub set_recorded : List ℕ → ℕ → List ℕ
set_recorded s u = put_count s recorded_field 4 u

-- 01, WRITE: "U = new P": where a run from place p on stored something, U is its new place
unfoldable pub record_to : List ℕ → ℕ → ℕ → List ℕ
record_to s p place = if p <ᵇ place then put_count s recorded_field 4 place else s
