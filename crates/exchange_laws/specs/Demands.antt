-- What the exchange with SIMH tape files promises (02, A7), one named type each; proofs/ proves them.
-- Assumes nothing.
use Rattle.std.specs.Prelude.{ℕ, ◌+◌, ◌*◌, ◌≤◌, ◌<◌, true, false, List, ◌++◌, ◌↔◌, ◌≡◌, length, get_or, Result}
use Rattle.numbers.specs.Over.{over}
use Rattle.numbers.specs.declared.refusals.Refusal.{Refusal as Reason}
use Rattle.image.specs.declared.elements.Kind.TheVariants.{Data}
use Rattle.image.specs.Header.{fields_of, keeps_header_rules}
use Rattle.image.specs.Sameness.{IsBlockOf}
use Rattle.packet_state.specs.declared.state.Outcome.{Outcome}
use Rattle.packet_state.specs.declared.state.State.{State}
use Rattle.packet_state.specs.declared.state.Told.{Told}
use Rattle.packet_state.specs.Answers.{refusal}
use Rattle.packet_parts.specs.Answers.{answered, good_status}
use Rattle.packet_laws.specs.Words.{number_of, Refusal}
use Rattle.tap.specs.Files.{Element, TapeMark, Block, AllWhole, file_of}
use Rattle.exchange.specs.Exporting.{elements_of, exported, exports, ExportPromise}
use Rattle.exchange.specs.Importing.{imports, ImportPromise}
use Rattle.exchange_laws.specs.Plates.{all_exported, export_plates, all_imported, import_plates}
use Rattle.exchange_laws.specs.Words.{DueImport, DueExport, Returned, Leaves, found, marks_in, blocks_in}

-- "with image and record unchanged", the file too; an export that is refused leaves its buffer
pub record RefusedKeeps : Type 0 where
  pub imported : (s : List ℕ) (st : State) (file : List ℕ) → (number_of (imports s st file) ≡ 0 → ⊥) → Refusal s st file (imports s st file)
  pub exported : (s file : List ℕ) → ((exports s file).answer.number ≡ 0 → ⊥)
      → ((exports s file).answer ≡ refusal (exports s file).answer.number) × ((exports s file).file ≡ file)

-- "Refusals: 11 ..; 12 ..; 13 ..; the first met in file order .. 2 comes before these; export gives 2, then 4": each number is given exactly where it is due
pub record NumberExactly : Type 0 where
  pub imported : (s : List ℕ) (st : State) (file : List ℕ) (n : ℕ) → (number_of (imports s st file) ≡ n) ↔ DueImport s file n
  pub exported : (s file : List ℕ) (n : ℕ) → ((exports s file).answer.number ≡ n) ↔ DueExport s file n

-- "Export then import returns the elements, marked blocks as plain ones and every unreadable kind as 0.": into any image of the same block size with room for
-- them, the one exported among them, from the whole buffer that the export left
abbrev pub ExportThenImport : Type 0
ExportThenImport =
    (s file t : List ℕ) (st : State) → (exports s file).answer.number ≡ 0 → keeps_header_rules t ≡ true → (fields_of t).size ≡ (fields_of s).size
    → (fields_of s).recorded ≤ (fields_of t).capacity → Returned s t (exports s file).answer.bytes (imports t st (exports s file).file)

-- and the other way: a file that is taken goes out again
pub record ImportThenExport : Type 0 where
  -- whatever it is, the image has its elements
  pub elements : (s : List ℕ) (st : State) (file : List ℕ) → number_of (imports s st file) ≡ 0 → elements_of (imports s st file).image ≡ found s file
  -- one in the form that export writes, whatever stands after its end mark, comes back byte for byte
  pub bytes : (s : List ℕ) (st : State) (es : List Element) (rest buf : List ℕ) → keeps_header_rules s ≡ true → AllWhole (fields_of s).size es
      → length es ≤ (fields_of s).capacity → length (file_of es) ≤ length buf
      → (number_of (imports s st (file_of es ++ rest)) ≡ 0)
      × (exports (imports s st (file_of es ++ rest)).image buf ≡ exported (answered good_status (length es) (length (file_of es))) (over buf 0 (file_of es)))

-- "leaves what it doesn't store, ignores write protection, .. and leaves the packet record as after a cartridge change"
abbrev pub ImportLeaves : Type 0
ImportLeaves = (s : List ℕ) (st : State) (file : List ℕ) → number_of (imports s st file) ≡ 0 → Leaves s st file (imports s st file)

-- a readable record is a block that the drives read: its bytes, as plain data, below U
abbrev pub ImportReads : Type 0
ImportReads =
    (s : List ℕ) (st : State) (file : List ℕ) (i : ℕ) (bytes : List ℕ) → number_of (imports s st file) ≡ 0 → i < length (found s file)
    → get_or (found s file) i TapeMark ≡ Block false bytes
    → IsBlockOf Data (fields_of (imports s st file).image).recorded (imports s st file).image i bytes

-- how many bytes an export takes, and a buffer that is long enough for any
pub record ExportLength : Type 0 where
  pub told : (s file : List ℕ) → (exports s file).answer.number ≡ 0
      → (exports s file).answer.bytes ≡ 4 + (4 * marks_in (elements_of s) + ((fields_of s).size + 8) * blocks_in (elements_of s))
  pub parts : (s : List ℕ) → marks_in (elements_of s) + blocks_in (elements_of s) ≡ (fields_of s).recorded
  pub enough : (s file : List ℕ) → keeps_header_rules s ≡ true → 4 + (fields_of s).recorded * ((fields_of s).size + 8) ≤ length file
      → (exports s file).answer.number ≡ 0

-- 01: "Prove that any two outcomes allowed by it coincide"
pub record Settled : Type 0 where
  pub imported : (s : List ℕ) (st : State) (file : List ℕ) (r r' : Result (Outcome State) Reason) (image image' : List ℕ) → ImportPromise s st file r image
      → ImportPromise s st file r' image' → (r ≡ r') × (image ≡ image')
  pub exported : (s file : List ℕ) (r r' : Result Told Reason) (left left' : List ℕ) → ExportPromise s file r left → ExportPromise s file r' left'
      → (r ≡ r') × (left ≡ left')

-- A7 worked out by hand: exports and imports; so what is supposed above can be so
abbrev pub ExchangePlates : Type 0
ExchangePlates = (all_exported export_plates ≡ true) × (all_imported import_plates ≡ true)
