-- 01, "Plates that must print alike": those of the packet drive that are proved together as one table; and the plates of 02, A3.
-- Assumes nothing.
use Rattle.std.specs.Prelude.{ℕ, ◌≤◌, Bool, true, ◌&&◌, List, [], ◌∷◌, replicate, set}
use Rattle.numbers.specs.Choice.{◌≡ᵇ◌}
use Rattle.numbers.specs.Same.{same}
use Rattle.image.specs.Header.{fields_of}
use Rattle.packet_state.specs.declared.state.State.{State}
use Rattle.packet_parts.specs.Answers.{Left}
use Rattle.stream.specs.Packet.{packet_step}
use Rattle.packet_parts.specs.Replies.{sense_bytes}
use Rattle.packet_laws.specs.Plates.{plate_image, standing, sent, sense_of, status_beside}
use Rattle.packet_laws.specs.Words.{blocks_of}
use Rattle.stream_laws.specs.Words.{BeginsWork}

-- "Image C 4, B 512, W 0, kinds 1 2 1, U 3", here with any W
abbrev pub image : ℕ → List ℕ
image w = plate_image w 3 (1 ∷ 2 ∷ 1 ∷ 0 ∷ [])

-- the same with W 0 and a kind of element 2 that is neither 1 nor 2
abbrev pub unreadable_at_two : List ℕ
unreadable_at_two = set (image 0) 34 7

-- READ 2, and the record after it was sent at 0
abbrev pub read_two : List ℕ
read_two = sent 0x08 1 0 0 2 0 0

abbrev pub after_read_two : State
after_read_two = (packet_step (image 0) (standing 0) read_two (replicate 1024 9)).state

-- SPACE 3 blocks, SPACE 2 filemarks
abbrev pub space_three : List ℕ
space_three = sent 0x11 0 0 0 3 0 0

abbrev pub space_two_marks : List ℕ
space_two_marks = sent 0x11 1 0 0 2 0 0

-- what is sent, and what must come: blocks, P, U and the bytes that 03h would give
pub record Plate : Type 0 where
  pub warning : ℕ
  pub before : State
  pub packet : List ℕ
  pub blocks : ℕ
  pub place : ℕ
  pub recorded : ℕ
  pub sense : List ℕ

-- a plate in one line: early warning W, the record, the packet; then what must come
infix 80 W◌from◌send◌blocks◌P◌U◌sense◌
abbrev pub W◌from◌send◌blocks◌P◌U◌sense◌ : ℕ → State → List ℕ → ℕ → ℕ → ℕ → List ℕ → Plate
W w from st send packet blocks n P p U u sense x =
    record { warning = w; before = st; packet = packet; blocks = n; place = p; recorded = u; sense = x }

-- what came is what the plate says
abbrev pub agrees : Plate → Left State → Bool
agrees p x =
    (x.answer.number ≡ᵇ 0) && (x.answer.status ≡ᵇ status_beside p.sense) && (x.answer.blocks ≡ᵇ p.blocks)
    && (x.state.position ≡ᵇ p.place) && ((fields_of x.image).recorded ≡ᵇ p.recorded) && same (sense_bytes x.state.sense) p.sense

-- each plate of the table, with a buffer of two blocks
abbrev pub all_agree : List Plate → Bool
all_agree [] = true
all_agree (p ∷ ps) = agrees p (packet_step (image p.warning) p.before p.packet (replicate 1024 9)) && all_agree ps

-- on this image the packet begins its work, with such a buffer, and moves an element
abbrev pub BeginsAndMoves : State → List ℕ → Type 0
BeginsAndMoves st packet =
    BeginsWork (image 0) st packet (replicate 1024 9) × (1 ≤ blocks_of (packet_step (image 0) st packet (replicate 1024 9)))

abbrev pub plates : List Plate
plates =
    -- "READ 2 at 0: one block, P 2; sense F0 00 80 00 00 00 01 0C, four 00, 00 01, six 00"
    W 0 from (standing 0) send read_two blocks 1 P 2 U 3 sense (0xf0 ∷ 0 ∷ 0x80 ∷ 0 ∷ 0 ∷ 0 ∷ 1 ∷ 0x0c ∷ 0 ∷ 0 ∷ 0 ∷ 0 ∷ 0 ∷ 1 ∷ 0 ∷ 0 ∷ 0 ∷ 0 ∷ 0 ∷ 0 ∷ [])
    -- "Then READ 2: one block, residue 1, P 3, 8/00/05"
    ∷ W 0 from after_read_two send read_two blocks 1 P 3 U 3 sense (sense_of 0xf0 0x08 1 0 5)
    -- "WRITE 2 at 3: one stored, P 4, byte 2 of sense 4Dh, residue 1"
    ∷ W 0 from (standing 3) send (sent 0x0a 1 0 0 2 0 0) blocks 1 P 4 U 4 sense (sense_of 0xf0 0x4d 1 0 2)
    -- "WRITE 1 at 3 with W 1: stored, byte 2 40h, residue 0"
    ∷ W 1 from (standing 3) send (sent 0x0a 1 0 0 1 0 0) blocks 1 P 4 U 4 sense (sense_of 0xf0 0x40 0 0 2)
    -- "WRITE 1 at 0: U 1"
    ∷ W 0 from (standing 0) send (sent 0x0a 1 0 0 1 0 0) blocks 1 P 1 U 1 sense (sense_of 0x70 0 0 0 0)
    -- "SPACE -1 filemark at 3: P 1"
    ∷ W 0 from (standing 3) send (sent 0x11 1 0xff 0xff 0xff 0 0) blocks 0 P 1 U 3 sense (sense_of 0x70 0 0 0 0)
    -- "SPACE 1 block at 1: P 2, residue 1"
    ∷ W 0 from (standing 1) send (sent 0x11 0 0 0 1 0 0) blocks 0 P 2 U 3 sense (sense_of 0xf0 0x80 1 0 1)
    -- "LOCATE 4: P 3, key 8"
    ∷ W 0 from (standing 0) send (sent 0x2b 0 0 0 0 0 4) blocks 0 P 3 U 3 sense (sense_of 0x70 0x08 0 0 5)
    -- "Load byte 05h: 24/00"
    ∷ W 0 from (standing 0) send (sent 0x1b 0 0 0 5 0 0) blocks 0 P 0 U 3 sense (sense_of 0x70 0x05 0 0x24 0)
    ∷ []

-- 02, A3, worked out by hand with C 4 and U 3: W 0; W 1, where U = C - W; W 2, where U = C - W + 1. Byte 2 of the sense is 48h with EOM, 08h without.
abbrev pub end_plates : List Plate
end_plates =
    -- READ 2 at 2: one block, residue 1
    W 0 from (standing 2) send read_two blocks 1 P 3 U 3 sense (sense_of 0xf0 0x08 1 0 5)
    ∷ W 1 from (standing 2) send read_two blocks 1 P 3 U 3 sense (sense_of 0xf0 0x08 1 0 5)
    ∷ W 2 from (standing 2) send read_two blocks 1 P 3 U 3 sense (sense_of 0xf0 0x48 1 0 5)
    -- SPACE 3 blocks at 2: one passed, residue 2
    ∷ W 0 from (standing 2) send space_three blocks 0 P 3 U 3 sense (sense_of 0xf0 0x08 2 0 5)
    ∷ W 1 from (standing 2) send space_three blocks 0 P 3 U 3 sense (sense_of 0xf0 0x08 2 0 5)
    ∷ W 2 from (standing 2) send space_three blocks 0 P 3 U 3 sense (sense_of 0xf0 0x48 2 0 5)
    -- SPACE 2 filemarks at 0: one passed, residue 1
    ∷ W 0 from (standing 0) send space_two_marks blocks 0 P 3 U 3 sense (sense_of 0xf0 0x08 1 0 5)
    ∷ W 1 from (standing 0) send space_two_marks blocks 0 P 3 U 3 sense (sense_of 0xf0 0x08 1 0 5)
    ∷ W 2 from (standing 0) send space_two_marks blocks 0 P 3 U 3 sense (sense_of 0xf0 0x48 1 0 5)
    -- LOCATE 4: not valid, and no EOM past the warning either
    ∷ W 2 from (standing 0) send (sent 0x2b 0 0 0 0 0 4) blocks 0 P 3 U 3 sense (sense_of 0x70 0x08 0 0 5)
    ∷ []
