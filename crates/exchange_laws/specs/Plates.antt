-- 02, A7 worked out by hand, over 01's image of four blocks of 512 bytes, each byte 7: a record of it is 4 + 512 + 4 bytes.
-- Assumes nothing.
use Rattle.std.specs.Prelude.{ℕ, Bool, true, ◌&&◌, List, [], ◌∷◌, ◌++◌, replicate, set, if◌then◌else◌}
use Rattle.numbers.specs.Choice.{◌≡ᵇ◌}
use Rattle.numbers.specs.Over.{over}
use Rattle.numbers.specs.Same.{same}
use Rattle.packet_state.specs.declared.state.State.{State}
use Rattle.packet_parts.specs.Answers.{Left}
use Rattle.packet_laws.specs.Plates.{plate_image, standing}
use Rattle.exchange.specs.Exporting.{Exported, exports}
use Rattle.exchange.specs.Importing.{imports}

-- ---- a file's items

-- 512 as a word, and with its high bit set
abbrev pub plain_word : List ℕ
plain_word = 0x00 ∷ 0x02 ∷ 0x00 ∷ 0x00 ∷ []

abbrev pub high_word : List ℕ
high_word = 0x00 ∷ 0x02 ∷ 0x00 ∷ 0x80 ∷ []

-- a record of 512 bytes b; an unreadable one
abbrev pub plain : ℕ → List ℕ
plain b = plain_word ++ (replicate 512 b ++ plain_word)

abbrev pub unreadable : ℕ → List ℕ
unreadable b = high_word ++ (replicate 512 b ++ high_word)

abbrev pub mark : List ℕ
mark = 0 ∷ 0 ∷ 0 ∷ 0 ∷ []

abbrev pub end : List ℕ
end = 0xff ∷ 0xff ∷ 0xff ∷ 0xff ∷ []

abbrev pub four_marks : List ℕ
four_marks = replicate 16 0

-- records of two bytes, of one with its pad byte and without, and an unreadable one of none
abbrev pub two_bytes : List ℕ
two_bytes = 2 ∷ 0 ∷ 0 ∷ 0 ∷ 5 ∷ 5 ∷ 2 ∷ 0 ∷ 0 ∷ 0 ∷ []

abbrev pub one_byte : List ℕ
one_byte = 1 ∷ 0 ∷ 0 ∷ 0 ∷ 5 ∷ 9 ∷ 1 ∷ 0 ∷ 0 ∷ 0 ∷ []

abbrev pub no_pad : List ℕ
no_pad = 1 ∷ 0 ∷ 0 ∷ 0 ∷ 5 ∷ 1 ∷ 0 ∷ 0 ∷ 0 ∷ []

abbrev pub no_bytes : List ℕ
no_bytes = 0 ∷ 0 ∷ 0 ∷ 0x80 ∷ 0 ∷ 0 ∷ 0 ∷ 0x80 ∷ []

-- ---- plates

-- an export: the image, and how long the buffer of bytes 9 is; then what must come: the number, elements and bytes told, the buffer
pub record ExportPlate : Type 0 where
  pub image : List ℕ
  pub room : ℕ
  pub number : ℕ
  pub elements : ℕ
  pub bytes : ℕ
  pub given : List ℕ

-- an import: the image and the file; then what must come: the number, elements and bytes told, the image
pub record ImportPlate : Type 0 where
  pub image : List ℕ
  pub file : List ℕ
  pub number : ℕ
  pub elements : ℕ
  pub bytes : ℕ
  pub left : List ℕ

-- ---- exports

infix 80 export◌into◌answers◌elements◌bytes◌gives◌
abbrev pub export◌into◌answers◌elements◌bytes◌gives◌ : List ℕ → ℕ → ℕ → ℕ → ℕ → List ℕ → ExportPlate
export image into room answers n elements e bytes b gives x =
    record { image = image; room = room; number = n; elements = e; bytes = b; given = x }

abbrev pub exported_so : ExportPlate → Exported → Bool
exported_so p x =
    (x.answer.number ≡ᵇ p.number) && (x.answer.status ≡ᵇ 0) && (x.answer.blocks ≡ᵇ p.elements) && (x.answer.bytes ≡ᵇ p.bytes)
    && same x.file p.given

abbrev pub all_exported : List ExportPlate → Bool
all_exported [] = true
all_exported (p ∷ ps) = exported_so p (exports p.image (replicate p.room 9)) && all_exported ps

-- a block, a filemark, an unreadable and a marked block, of which so many are recorded
abbrev pub tape : ℕ → List ℕ
tape u = plate_image 0 u (1 ∷ 2 ∷ 3 ∷ 4 ∷ [])

abbrev pub export_plates : List ExportPlate
export_plates =
    -- "an unreadable one has the high bit of its length set, a marked one is written as plain data", "export ends with the mark"
    export tape 4 into 1570 answers 0 elements 4 bytes 1568 gives (plain 7 ++ (mark ++ (unreadable 7 ++ (plain 7 ++ (end ++ (9 ∷ 9 ∷ []))))))
    -- as long as the file
    ∷ export tape 2 into 528 answers 0 elements 2 bytes 528 gives (plain 7 ++ (mark ++ end))
    ∷ export tape 0 into 4 answers 0 elements 0 bytes 4 gives end
    -- "4 where its output buffer is too short"
    ∷ export tape 2 into 527 answers 4 elements 0 bytes 0 gives replicate 527 9
    ∷ export tape 0 into 3 answers 4 elements 0 bytes 0 gives replicate 3 9
    -- "2, then 4"
    ∷ export set (tape 0) 0 1 into 3 answers 2 elements 0 bytes 0 gives replicate 3 9
    ∷ []

-- ---- imports

infix 80 into◌import◌answers◌elements◌bytes◌leaves◌
abbrev pub into◌import◌answers◌elements◌bytes◌leaves◌ : List ℕ → List ℕ → ℕ → ℕ → ℕ → List ℕ → ImportPlate
into image import file answers n elements e bytes b leaves x =
    record { image = image; file = file; number = n; elements = e; bytes = b; left = x }

-- each by a drive at place 3, which stands at 0 after an import, and stays where the file is refused
abbrev pub imported_so : ImportPlate → Left State → Bool
imported_so p x =
    (x.answer.number ≡ᵇ p.number) && (x.answer.status ≡ᵇ 0) && (x.answer.blocks ≡ᵇ p.elements) && (x.answer.bytes ≡ᵇ p.bytes)
    && (x.state.position ≡ᵇ (if p.number ≡ᵇ 0 then 0 else 3)) && same x.image p.left

abbrev pub all_imported : List ImportPlate → Bool
all_imported [] = true
all_imported (p ∷ ps) = imported_so p (imports p.image (standing 3) p.file) && all_imported ps

abbrev pub full : List ℕ
full = tape 4

-- a refused file
infix 80 refuse◌with◌
abbrev pub refuse◌with◌ : List ℕ → ℕ → ImportPlate
refuse file with n = into full import file answers n elements 0 bytes 0 leaves full

abbrev pub import_plates : List ImportPlate
import_plates =
    -- "sets U to the elements read and leaves what it doesn't store": kinds 3 and 4 beyond, and the bytes under the filemark
    into full import (mark ++ (plain 5 ++ end)) answers 0 elements 2 bytes 528 leaves over (plate_image 0 2 (2 ∷ 1 ∷ 3 ∷ 4 ∷ [])) 548 (replicate 512 5)
    -- "stores an unreadable block as kind 0", with its bytes; the file ends without a mark
    ∷ into full import unreadable 5 answers 0 elements 1 bytes 520 leaves over (plate_image 0 1 (0 ∷ 2 ∷ 3 ∷ 4 ∷ [])) 36 (replicate 512 5)
    ∷ into full import [] answers 0 elements 0 bytes 0 leaves plate_image 0 0 (1 ∷ 2 ∷ 3 ∷ 4 ∷ [])
    -- what stands after the end mark is not looked at
    ∷ into full import (end ++ (9 ∷ [])) answers 0 elements 0 bytes 4 leaves plate_image 0 0 (1 ∷ 2 ∷ 3 ∷ 4 ∷ [])
    -- "ignores write protection"
    ∷ into set full 20 1 import mark answers 0 elements 1 bytes 4 leaves set (plate_image 0 1 (2 ∷ 2 ∷ 3 ∷ 4 ∷ [])) 20 1
    -- C elements, and one more
    ∷ into full import (four_marks ++ end) answers 0 elements 4 bytes 20 leaves plate_image 0 4 (2 ∷ 2 ∷ 2 ∷ 2 ∷ [])
    ∷ refuse four_marks ++ mark with 13
    -- "11, lengths disagree or are cut"
    ∷ refuse plain_word ++ (replicate 512 5 ++ (0 ∷ 2 ∷ 0 ∷ [])) with 11
    ∷ refuse plain_word ++ (replicate 512 5 ++ high_word) with 11
    ∷ refuse 0 ∷ 0 ∷ 0 ∷ [] with 11
    ∷ refuse no_pad with 11
    -- "12, record not B bytes"
    ∷ refuse two_bytes with 12
    ∷ refuse one_byte with 12
    ∷ refuse no_bytes with 12
    -- "11 before 12 before 13", where the tape is full
    ∷ refuse four_marks ++ (0 ∷ []) with 11
    ∷ refuse four_marks ++ two_bytes with 12
    -- "the first met in file order"
    ∷ refuse two_bytes ++ (0 ∷ []) with 12
    -- "2 comes before these"
    ∷ into set full 0 1 import (0 ∷ []) answers 2 elements 0 bytes 0 leaves set full 0 1
    ∷ []
