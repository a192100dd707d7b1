-- The words in which the demands on the exchange are stated.
-- Assumes nothing.
use Rattle.std.specs.Prelude.{ℕ, zero, suc, ◌+◌, ◌*◌, ◌≤◌, ◌<◌, true, false, List, [], ◌∷◌, ◌≡◌, length, get_or, Some}
use Rattle.image.specs.declared.elements.Kind.{Kind}
use Rattle.image.specs.declared.elements.Kind.TheVariants.{Data, Filemark, Unreadable, Marked}
use Rattle.image.specs.Elements.{data_kind, filemark_kind, unreadable_kind, kind_at, block_at, is_filemark}
use Rattle.image.specs.Header.{fields_of, header_of, keeps_header_rules, with_recorded, broken_image}
use Rattle.image.specs.Sameness.{SameElement, Outside}
use Rattle.packet_state.specs.declared.state.State.{State}
use Rattle.packet_state.specs.States.{changed_state}
use Rattle.packet_parts.specs.Answers.{Left, answered, good_status, short_buffer}
use Rattle.tap.specs.declared.items.Item.TheVariants.{Ends, Mark, Record, Cut}
use Rattle.tap.specs.declared.items.TapeRecord.{TapeRecord}
use Rattle.tap.specs.Files.{Element, TapeMark, Block, elements_in, reads, file_of, cut_lengths, other_length, too_many}
use Rattle.tap.specs.Items.{item_at}
use Rattle.exchange.specs.Exporting.{elements_of}

-- ---- refusals

-- the item at place `at` is taken, and the next one stands at this place: a tape mark, or a record of B bytes
pub data TakenTo (size : ℕ) (file : List ℕ) (at : ℕ) : ℕ → Type 0 where
  a_mark : (next : ℕ) → item_at file at ≡ Mark next → TakenTo size file at next
  a_record : (r : TapeRecord) → item_at file at ≡ Record r → r.length ≡ size → TakenTo size file at r.next

-- "11, lengths disagree or are cut; 12, record not B bytes; 13, more than C elements; the first met in file order, 11 before 12 before 13": the number due
-- from place `at` on, with room for so many elements; 0 where the file ends first
pub data DueFrom (size : ℕ) (file : List ℕ) : ℕ → ℕ → ℕ → Type 0 where
  cut_here : (room at : ℕ) → item_at file at ≡ Cut → DueFrom size file room at cut_lengths
  other_size : (room at : ℕ) (r : TapeRecord) → item_at file at ≡ Record r → (r.length ≡ size → ⊥) → DueFrom size file room at other_length
  no_room : (at next : ℕ) → TakenTo size file at next → DueFrom size file zero at too_many
  ends_here : (room at used : ℕ) → item_at file at ≡ Ends used → DueFrom size file room at 0
  goes_on : (room at next n : ℕ) → TakenTo size file at next → DueFrom size file room next n → DueFrom size file (suc room) at n

-- "2 comes before these"
pub data DueImport (s file : List ℕ) : ℕ → Type 0 where
  bad_image : (keeps_header_rules s ≡ true → ⊥) → DueImport s file broken_image
  by_items : (n : ℕ) → keeps_header_rules s ≡ true → DueFrom (fields_of s).size file (fields_of s).capacity 0 n → DueImport s file n

-- "export gives 2, then 4 where its output buffer is too short"
pub data DueExport (s file : List ℕ) : ℕ → Type 0 where
  broken : (keeps_header_rules s ≡ true → ⊥) → DueExport s file broken_image
  too_short : keeps_header_rules s ≡ true → length file < length (file_of (elements_of s)) → DueExport s file short_buffer
  written : keeps_header_rules s ≡ true → length (file_of (elements_of s)) ≤ length file → DueExport s file 0

-- ---- there and back

-- "marked blocks as plain ones and every unreadable kind as 0": the kind that comes back
abbrev pub kind_back : Kind → ℕ
kind_back Data = data_kind
kind_back Filemark = filemark_kind
kind_back Unreadable = unreadable_kind
kind_back Marked = data_kind

-- x is the image t with the elements of the image s, and its answer tells them and these bytes
pub record Returned (s t : List ℕ) (bytes : ℕ) (x : Left State) : Type 0 where
  pub told : x.answer ≡ answered good_status (fields_of s).recorded bytes
  pub elements : elements_of x.image ≡ elements_of s
  -- U is that of s, the rest of the header that of t
  pub header : header_of x.image ≡ Some (with_recorded (fields_of t) (fields_of s).recorded)
  pub kinds : (i : ℕ) → i < (fields_of s).recorded → get_or x.image ((fields_of t).kinds + i) 0 ≡ kind_back (kind_at s (fields_of s).kinds i)
  pub blocks : (i : ℕ) → i < (fields_of s).recorded → is_filemark (kind_at s (fields_of s).kinds i) ≡ false
      → block_at x.image (fields_of t).size (fields_of t).blocks i ≡ block_at s (fields_of s).size (fields_of s).blocks i
  -- what lies beyond is untouched
  pub beyond : (i : ℕ) → (fields_of s).recorded ≤ i → i < (fields_of t).capacity → SameElement (fields_of t) t x.image i

-- ---- what an import leaves

-- the elements that an import into the image s finds in a file
abbrev pub found : List ℕ → List ℕ → List Element
found s file = elements_in (reads (fields_of s).size file (fields_of s).capacity 0)

-- "leaves what it doesn't store", and "leaves the packet record as after a cartridge change"
pub record Leaves (s : List ℕ) (st : State) (file : List ℕ) (x : Left State) : Type 0 where
  pub header : header_of x.image ≡ Some (with_recorded (fields_of s) (length (found s file)))
  pub size : length x.image ≡ length s
  -- every byte but U's four, the kinds and the blocks of the elements stored
  pub outside : (m : ℕ) → Outside 8 4 m → Outside (fields_of s).kinds (length (found s file)) m
      → Outside (fields_of s).blocks (length (found s file) * (fields_of s).size) m → get_or x.image m 0 ≡ get_or s m 0
  -- a tape mark stores no bytes
  pub under_marks : (i : ℕ) → i < length (found s file) → get_or (found s file) i TapeMark ≡ TapeMark
      → block_at x.image (fields_of s).size (fields_of s).blocks i ≡ block_at s (fields_of s).size (fields_of s).blocks i
  pub record_is : x.state ≡ changed_state st
  pub file_kept : x.buf ≡ file

-- ---- the length of an export

abbrev pub marks_in : List Element → ℕ
marks_in [] = 0
marks_in (TapeMark ∷ es) = 1 + marks_in es
marks_in (Block unreadable bytes ∷ es) = marks_in es

abbrev pub blocks_in : List Element → ℕ
blocks_in [] = 0
blocks_in (TapeMark ∷ es) = blocks_in es
blocks_in (Block unreadable bytes ∷ es) = 1 + blocks_in es
