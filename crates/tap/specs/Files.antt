-- 02, A7: the elements of a file, and a file of elements.
-- Assumes nothing.
use Rattle.std.specs.Prelude.{ℕ, zero, suc, ◌+◌, ◌%◌, Bool, List, [], ◌∷◌, ◌++◌, ◌≡◌, length, replicate, if◌then◌else◌}
use Rattle.numbers.specs.Choice.{◌≡ᵇ◌}
use Rattle.numbers.specs.Flags.{weight_of}
use Rattle.numbers.specs.Over.{part}
use Rattle.numbers.specs.Words.{word_bytes}
use Rattle.numbers.specs.declared.refusals.Refusal.{Refusal}
use Rattle.numbers.specs.declared.refusals.Refusal.TheVariants.{CutLengths, OtherLength, TooManyItems}
use Rattle.tap.specs.declared.items.Item.{Item}
use Rattle.tap.specs.declared.items.Item.TheVariants.{Ends, Mark, Record, Cut}
use Rattle.tap.specs.declared.items.TapeRecord.{TapeRecord}
use Rattle.tap.specs.Items.{tape_mark, end_mark, high_bit, item_at}

-- an element as a file has it: a tape mark, or a record, unreadable or not, with its bytes
pub data Element : Type 0 where
  TapeMark : Element
  Block : Bool → List ℕ → Element

-- its bytes are so many; a tape mark has none
abbrev pub IsWhole : ℕ → Element → Type 0
IsWhole size TapeMark = Unit {0}
IsWhole size (Block unreadable bytes) = length bytes ≡ size

abbrev pub AllWhole : ℕ → List Element → Type 0
AllWhole size [] = Unit {0}
AllWhole size (e ∷ es) = IsWhole size e × AllWhole size es

-- ---- written

-- "a little-endian length of four bytes before and after each record"; "An odd record has SIMH's pad byte."
unfoldable pub record_bytes : ℕ → List ℕ → List ℕ
record_bytes w bytes = word_bytes w ++ (bytes ++ (replicate (length bytes % 2) 0 ++ word_bytes w))

-- "zero for a tape mark"; "an unreadable one has the high bit of its length set"
unfoldable pub bytes_of : Element → List ℕ
bytes_of TapeMark = word_bytes tape_mark
bytes_of (Block unreadable bytes) = record_bytes (length bytes + weight_of unreadable high_bit) bytes

-- "export ends with the mark"
unfoldable pub file_of : List Element → List ℕ
file_of [] = word_bytes end_mark
file_of (e ∷ es) = bytes_of e ++ file_of es

-- ---- read

-- "11, lengths disagree or are cut; 12, record not B bytes; 13, more than C elements"
abbrev pub cut_lengths : ℕ
cut_lengths = 11

abbrev pub other_length : ℕ
other_length = 12

abbrev pub too_many : ℕ
too_many = 13

-- what a file is found to hold: its elements, and how many of its bytes they take with the end mark; or why it is refused
pub data Reading : Type 0 where
  Refused : Refusal → Reading
  Holds : List Element → ℕ → Reading

abbrev pub with_first : Element → Reading → Reading
with_first e (Refused reason) = Refused reason
with_first e (Holds es used) = Holds (e ∷ es) used

abbrev pub record_in : List ℕ → TapeRecord → Element
record_in file r = Block r.unreadable (part file r.from r.length)

-- of a file with blocks of B bytes
module _ (size : ℕ) (file : List ℕ) where
  -- one item, "11 before 12 before 13": a mark or a record of B bytes is taken, where there is room, and the reading goes on after it
  unfoldable pub met : (Element → ℕ → Reading) → Item → Reading
  met take (Ends used) = Holds [] used
  met take Cut = Refused CutLengths
  met take (Mark next) = take TapeMark next
  met take (Record r) = if r.length ≡ᵇ size then take (record_in file r) r.next else Refused OtherLength

  -- "the first met in file order": the items from place `at` on, with room for so many elements
  unfoldable pub reads : ℕ → ℕ → Reading
  reads zero at = met (λ e next. Refused TooManyItems) (item_at file at)
  reads (suc room) at = met (λ e next. with_first e (reads room next)) (item_at file at)

-- the elements that a file is found to hold; none of one that is refused
abbrev pub elements_in : Reading → List Element
elements_in (Refused reason) = []
elements_in (Holds es used) = es
