-- 02, A7: "Write ours out."
-- Assumes nothing.
use Rattle.std.specs.Prelude.{ℕ, zero, suc, ◌+◌, true, false, not, List, [], ◌∷◌, ◌≡◌, length, if◌then◌else◌, Result}
use Rattle.numbers.specs.Choice.{◌<ᵇ◌}
use Rattle.numbers.specs.Over.{over}
use Rattle.numbers.specs.declared.refusals.Refusal.{Refusal}
use Rattle.image.specs.declared.elements.Kind.{Kind}
use Rattle.image.specs.declared.elements.Kind.TheVariants.{Data, Filemark, Unreadable, Marked}
use Rattle.image.specs.declared.header.Header.{Header}
use Rattle.image.specs.Elements.{kind_at, block_at, is_filemark}
use Rattle.image.specs.Header.{fields_of, keeps_header_rules, broken_image}
use Rattle.packet_state.specs.declared.state.Told.{Told}
use Rattle.packet_state.specs.Answers.{Answer, refusal, answer_of}
use Rattle.packet_parts.specs.Answers.{answered, good_status, short_buffer}
use Rattle.tap.specs.Files.{Element, TapeMark, Block, file_of}

-- "A block becomes a record of B bytes, an unreadable one has the high bit of its length set, a marked one is written as plain data."
abbrev pub element_of : Kind → List ℕ → Element
element_of Data bytes = Block false bytes
element_of Filemark bytes = TapeMark
element_of Unreadable bytes = Block true bytes
element_of Marked bytes = Block false bytes

abbrev pub element_at : List ℕ → Header → ℕ → Element
element_at s h i = element_of (kind_at s h.kinds i) (block_at s h.size h.blocks i)

-- the n elements from place i on
module _ (s : List ℕ) (h : Header) where
  unfoldable pub elements_from : ℕ → ℕ → List Element
  elements_from zero i = []
  elements_from (suc n) i = element_at s h i ∷ elements_from n (i + 1)

-- the elements of an image: those below U, since "Kinds at U and above mean nothing." (01)
unfoldable pub elements_of : List ℕ → List Element
elements_of s = elements_from s (fields_of s) (fields_of s).recorded 0

-- bytes of an element in the file, by its kind: a word, or a block of so many bytes between two words
abbrev pub length_of : Kind → ℕ → ℕ
length_of kind size = if is_filemark kind then 4 else size + 8

-- what an export leaves: the answer, and the file buffer
pub record Exported : Type 0 where
  pub answer : Answer
  pub file : List ℕ

abbrev pub exported : Answer → List ℕ → Exported
exported answer file = record { answer = answer; file = file }

-- "export gives 2, then 4 where its output buffer is too short"; the answer tells U and the bytes written, and those beyond stay
unfoldable pub exports : List ℕ → List ℕ → Exported
exports s file =
    if not (keeps_header_rules s) then exported (refusal broken_image) file else
    if length file <ᵇ length (file_of (elements_of s)) then exported (refusal short_buffer) file else
    exported (answered good_status (fields_of s).recorded (length (file_of (elements_of s)))) (over file 0 (file_of (elements_of s)))

-- ---- the promise of the public call

abbrev pub ExportPromise : List ℕ → List ℕ → Result Told Refusal → List ℕ → Type 0
ExportPromise s file result left = exported (answer_of result) left ≡ exports s file
