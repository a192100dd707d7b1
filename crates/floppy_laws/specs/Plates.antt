-- 02, A1 worked out by hand: plates of the floppy tape device, one table; and the records for those of A6.
-- Assumes nothing.
use Rattle.std.specs.Prelude.{ℕ, ◌≤◌, Bool, true, ◌&&◌, List, [], ◌∷◌, ◌++◌, length, replicate, take, set}
use Rattle.numbers.specs.Choice.{◌≡ᵇ◌}
use Rattle.numbers.specs.Counts.{count_bytes}
use Rattle.numbers.specs.Same.{same}
use Rattle.image.specs.Header.{fields_of}
use Rattle.packet_parts.specs.Answers.{Left}
use Rattle.packet_parts.specs.Replies.{sense_bytes}
use Rattle.packet_laws.specs.Plates.{plate_image, standing, sent, sense_of}
use Rattle.packet_laws.specs.Words.{number_of, blocks_of, bytes_of}
use Rattle.floppy_parts.specs.declared.tape.Floppy.{Floppy}
use Rattle.floppy_parts.specs.Tape.{reset_tape, listed_tape, floppy_of}
use Rattle.floppy.specs.Packet.{floppy_step}
use Rattle.floppy_laws.specs.Words.{place_of, end_of, sense_in, BeginsWork}

-- C 4, B 512, U 4, kinds 1 3 2 1, with any W
abbrev pub image : ℕ → List ℕ
image w = plate_image w 4 (1 ∷ 3 ∷ 2 ∷ 1 ∷ [])

-- attention cleared, the tape parameters reset, at place p
abbrev pub placed : ℕ → Floppy
placed p = floppy_of (standing p) (reset_tape 4)

-- a buffer of three blocks
abbrev pub room : List ℕ
room = replicate 1536 9

-- 004, table 3-4: the 16 bytes of page 2Bh with this BSEG, SEGTRK and TRKS, and 0 for the rest
abbrev pub page_of : ℕ → ℕ → ℕ → List ℕ
page_of bseg segtrk trks = 0x2b ∷ 0x0e ∷ 0 ∷ 0 ∷ 0 ∷ bseg ∷ (count_bytes 2 segtrk ++ (count_bytes 2 trks ++ replicate 6 0))

-- "its list has 28 bytes"
abbrev pub list_of : ℕ → ℕ → ℕ → List ℕ
list_of bseg segtrk trks = replicate 12 0 ++ page_of bseg segtrk trks

-- at place p, after such a list with WDAM, bit 7 of byte 15 of the page: 02, A6 is asked with it clear and set
abbrev pub placed_deleting : ℕ → Floppy
placed_deleting p = floppy_of (standing p) (listed_tape (set (list_of 1 4 1) 27 0x80))

-- MODE SELECT of a list of 28 bytes, and the record after one of two blocks was sent at 3
abbrev pub select : List ℕ
select = sent 0x15 0 0 0 28 0 0

abbrev pub after_select : Floppy
after_select = (floppy_step (image 0) (placed 3) select (list_of 1 2 1)).state

-- what is sent, with this buffer; and what must come: blocks, bytes, P, product, the buffer's first bytes, and those that 03h would give
pub record Plate : Type 0 where
  pub warning : ℕ
  pub before : Floppy
  pub packet : List ℕ
  pub lent : List ℕ
  pub blocks : ℕ
  pub bytes : ℕ
  pub place : ℕ
  pub product : ℕ
  pub given : List ℕ
  pub sense : List ℕ

-- a plate in one line: early warning W, the record, the packet, the buffer; then what must come
infix 80 W◌from◌send◌with◌blocks◌bytes◌P◌product◌gives◌sense◌
abbrev pub W◌from◌send◌with◌blocks◌bytes◌P◌product◌gives◌sense◌ : ℕ → Floppy → List ℕ → List ℕ → ℕ → ℕ → ℕ → ℕ → List ℕ → List ℕ → Plate
W w from f send packet with buf blocks n bytes b P p product e gives g sense x =
    record { warning = w; before = f; packet = packet; lent = buf; blocks = n; bytes = b; place = p; product = e; given = g; sense = x }

-- what came is what the plate says; "a write leaves U"
abbrev pub agrees : Plate → Left Floppy → Bool
agrees p x =
    (number_of x ≡ᵇ 0) && (blocks_of x ≡ᵇ p.blocks) && (bytes_of x ≡ᵇ p.bytes) && (place_of x.state ≡ᵇ p.place) && (end_of x.state ≡ᵇ p.product)
    && ((fields_of x.image).recorded ≡ᵇ 4) && same (take (length p.given) x.buf) p.given && same (sense_bytes (sense_in x)) p.sense

-- each plate of the table
abbrev pub all_agree : List Plate → Bool
all_agree [] = true
all_agree (p ∷ ps) = agrees p (floppy_step (image p.warning) p.before p.packet p.lent) && all_agree ps

-- on this image the packet begins its work, with such a buffer, and moves a block
abbrev pub BeginsAndMoves : Floppy → List ℕ → Type 0
BeginsAndMoves f packet = BeginsWork (image 0) f packet room × (1 ≤ blocks_of (floppy_step (image 0) f packet room))

abbrev pub plates : List Plate
plates =
    -- "Its residue on an unreadable block leaves out the block in error, so there moved plus residue is one short of asked": READ 3 at 0, one block, P 2
    W 0 from (placed 0) send (sent 0x08 1 0 0 3 0 0) with room blocks 1 bytes 512 P 2 product 4 gives (7 ∷ 7 ∷ []) sense (sense_of 0xf0 0x03 1 0x11 0)
    -- "kind 2 counts as unreadable": READ 2 at 2, no block, P 3, residue 1
    ∷ W 0 from (placed 2) send (sent 0x08 1 0 0 2 0 0) with room blocks 0 bytes 0 P 3 product 4 gives (9 ∷ 9 ∷ []) sense (sense_of 0xf0 0x03 1 0x11 0)
    -- "Reads .. stop at the product as the stream device does at U": READ 2 at 3, one block, P 4, residue 1, 8/00/05; "W plays no part": no EOM
    ∷ W 4 from (placed 3) send (sent 0x08 1 0 0 2 0 0) with room blocks 1 bytes 512 P 4 product 4 gives (7 ∷ 7 ∷ []) sense (sense_of 0xf0 0x08 1 0 5)
    -- "writes stop at the product as the stream device does .. at C; a write leaves U": WRITE 2 at 3, one stored, P 4, key D, EOM, residue 1
    ∷ W 0 from (placed 3) send (sent 0x0a 1 0 0 2 0 0) with room blocks 1 bytes 512 P 4 product 4 gives [] sense (sense_of 0xf0 0x4d 1 0 2)
    -- "W plays no part": WRITE 1 at 3 with W 4 is GOOD
    ∷ W 4 from (placed 3) send (sent 0x0a 1 0 0 1 0 0) with room blocks 1 bytes 512 P 4 product 4 gives [] sense (sense_of 0x70 0 0 0 0)
    -- "10h flushes and stores nothing": whatever its count bytes say
    ∷ W 0 from (placed 1) send (sent 0x10 0 0 0 2 0 0) with room blocks 0 bytes 0 P 1 product 4 gives [] sense (sense_of 0x70 0 0 0 0)
    -- "LOCATE runs to BSEG*SEGTRK*TRKS - 1": LOCATE 3, P 3
    ∷ W 0 from (placed 1) send (sent 0x2b 0 0 0 0 0 3) with room blocks 0 bytes 0 P 3 product 4 gives [] sense (sense_of 0x70 0 0 0 0)
    -- "a locate past the last block is 5/24/00": LOCATE 4 from 1, P stays
    ∷ W 0 from (placed 1) send (sent 0x2b 0 0 0 0 0 4) with room blocks 0 bytes 0 P 1 product 4 gives [] sense (sense_of 0x70 0x05 0 0x24 0)
    -- "one that puts it below P sets P 0": BSEG 1, SEGTRK 2, TRKS 1 at 3
    ∷ W 0 from (placed 3) send select with (list_of 1 2 1) blocks 0 bytes 28 P 0 product 2 gives [] sense (sense_of 0x70 0 0 0 0)
    -- "a list that makes the product exceed C is 5/26/00": SEGTRK 5, nothing is stored
    ∷ W 0 from (placed 3) send select with (list_of 1 5 1) blocks 0 bytes 0 P 3 product 4 gives [] sense (sense_of 0x70 0x05 0 0x26 0)
    -- "The Tape Parameters page 2Bh is read": of a fresh record, 28 bytes, "BSEG is 1, SEGTRK C, TRKS 1 and the rest 0"
    ∷ W 0 from (placed 0) send (sent 0x1a 0 0x2b 0 0xff 0 0) with room blocks 0 bytes 28 P 0 product 4
    gives (0x1b ∷ 0 ∷ 0 ∷ 0 ∷ 0 ∷ 0 ∷ 0 ∷ 0 ∷ 0 ∷ 0 ∷ 0 ∷ 0 ∷ 0x2b ∷ 0x0e ∷ 0 ∷ 0 ∷ 0 ∷ 1 ∷ 0 ∷ 4 ∷ 0 ∷ 1 ∷ 0 ∷ 0 ∷ 0 ∷ 0 ∷ 0 ∷ 0 ∷ 9 ∷ [])
    sense (sense_of 0x70 0 0 0 0)
    -- "After a load .. BSEG is 1, SEGTRK C, TRKS 1": the product was 2
    ∷ W 0 from after_select send (sent 0x1b 0 0 0 1 0 0) with room blocks 0 bytes 0 P 0 product 4 gives [] sense (sense_of 0x70 0 0 0 0)
    ∷ []
