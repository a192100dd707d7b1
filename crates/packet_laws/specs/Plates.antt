-- What plates of any packet device are made of: an image, a record, a packet, and what must come; and the plates of 02, A2, A6 and A8.
-- Assumes nothing.
use Rattle.std.specs.Prelude.{ℕ, ◌*◌, Bool, true, false, not, ◌&&◌, List, [], ◌∷◌, ◌++◌, ◌≡◌, replicate, set, get_or, if◌then◌else◌}
use Rattle.numbers.specs.Choice.{◌≡ᵇ◌}
use Rattle.numbers.specs.Counts.{count_bytes}
use Rattle.numbers.specs.Over.{part}
use Rattle.numbers.specs.Same.{same}
use Rattle.packet_state.specs.declared.state.Attention.TheVariants.{Nothing}
use Rattle.packet_state.specs.declared.state.State.{State}
use Rattle.packet_state.specs.States.{at_place, with_attention, fresh_state}
use Rattle.packet_parts.specs.Answers.{Left, good_status, check_condition}
use Rattle.packet_parts.specs.Replies.{sense_bytes}
use Rattle.packet_parts.specs.Shell.{Device, answers_to}
use Rattle.packet_work.specs.Settings.{good_list}
use Rattle.packet_laws.specs.Words.{number_of, status_of, blocks_of, bytes_of, marked_of, AsksSpeed, SendsSpeed, AsksDoor, Locks, Unloads}

-- 01: "Image C 4, B 512", with this W, this U and these four kinds
abbrev pub plate_image : ℕ → ℕ → List ℕ → List ℕ
plate_image w u kinds =
    count_bytes 2 32  -- header length
    ++ (count_bytes 2 512  -- B
    ++ (count_bytes 4 4  -- C
    ++ (count_bytes 4 u
    ++ (count_bytes 4 32  -- K
    ++ (count_bytes 4 36  -- D
    ++ (0 ∷ 0 ∷ (count_bytes 2 w  -- not protected, medium 0, W
    ++ (replicate 8 0 ++ (kinds ++ replicate 2048 7)))))))))

-- "attention cleared", at place p
abbrev pub standing : ℕ → State
standing p = with_attention (at_place fresh_state p) Nothing

-- a packet of these first seven bytes
abbrev pub sent : ℕ → ℕ → ℕ → ℕ → ℕ → ℕ → ℕ → List ℕ
sent a b c d e f g = a ∷ b ∷ c ∷ d ∷ e ∷ f ∷ g ∷ 0 ∷ 0 ∷ 0 ∷ 0 ∷ 0 ∷ []

-- the 20 bytes of 03h by those that are not 0: byte 0, byte 2, information, ASC, ASCQ
abbrev pub sense_of : ℕ → ℕ → ℕ → ℕ → ℕ → List ℕ
sense_of first key information asc ascq = first ∷ 0 ∷ key ∷ 0 ∷ 0 ∷ 0 ∷ information ∷ 0x0c ∷ 0 ∷ 0 ∷ 0 ∷ 0 ∷ asc ∷ ascq ∷ replicate 6 0

-- ---- 02, A2, worked out by hand: what a drive tells of its speed

-- 15h's list of 32 bytes: 2Ah 12h and this speed, 0 for the rest
abbrev pub speed_list : ℕ → List ℕ
speed_list speed = replicate 12 0 ++ (0x2a ∷ 0x12 ∷ (replicate 12 0 ++ (count_bytes 2 speed ++ replicate 4 0)))

-- MODE SENSE of page 2Ah, all its 32 bytes; MODE SELECT of such a list
abbrev pub ask_speed : List ℕ
ask_speed = sent 0x1a 0 0x2a 0 32 0 0

abbrev pub send_speed : List ℕ
send_speed = sent 0x15 0 0 0 32 0 0

module _ {R : Type 0} (d : Device R) (s : List ℕ) where
  -- bytes 14-15 of page 2Ah, which 1Ah gives after a header of 12 bytes
  abbrev pub speed_told : R → List ℕ
  speed_told st = part (answers_to d s st ask_speed (replicate 32 9)).buf 26 2

  -- the record after TEST UNIT READY, to which a pending attention is told
  abbrev pub attended : R → R
  attended st = (answers_to d s st (sent 0 0 0 0 0 0 0) []).state

  -- the record after 15h with this speed
  abbrev pub set_to : ℕ → R → R
  set_to speed st = (answers_to d s st send_speed (speed_list speed)).state

  -- of a drive whose fresh record and cartridge change are these
  pub record SpeedPlates (fresh : R) (changed : R → R) : Type 0 where
    -- "The fresh record's speed becomes 250 instead of 0 .. and MODE SENSE bytes 14-15 of a fresh drive follow": 00 FA
    pub starts : speed_told (attended fresh) ≡ 0x00 ∷ 0xfa ∷ []
    -- "Callers that relied on 0 set it themselves by 15h"
    pub zero_set : speed_told (set_to 0 (attended fresh)) ≡ 0x00 ∷ 0x00 ∷ []
    -- 01: "Changing the cartridge .. sets only P 0, loaded, attention medium changed, sense zero": the speed stays, either one
    pub start_kept : speed_told (attended (changed (attended fresh))) ≡ 0x00 ∷ 0xfa ∷ []
    pub zero_kept : speed_told (attended (changed (set_to 0 (attended fresh)))) ≡ 0x00 ∷ 0x00 ∷ []
    -- so what `SpeedFollows` supposes can be so
    pub asks : AsksSpeed d s (attended fresh) ask_speed (replicate 32 9)
    pub sends : SendsSpeed d s (attended fresh) send_speed (speed_list 0) × (good_list (speed_list 0) ≡ true)

-- CHECK CONDITION with a sense, GOOD with none
abbrev pub status_beside : List ℕ → ℕ
status_beside told = if same told (sense_of 0x70 0 0 0 0) then good_status else check_condition

-- ---- 02, A6, worked out by hand: blocks with a deleted mark

-- C 4, B 512, W 0, U 4: a marked block, a plain one, a marked one, an unreadable one; they begin with A0, B0, C0 and D0
abbrev pub marked_image : List ℕ
marked_image = set (set (set (set (plate_image 0 4 (4 ∷ 1 ∷ 4 ∷ 3 ∷ [])) 36 0xa0) 548 0xb0) 1060 0xc0) 1572 0xd0

-- what is sent at a place; and what must come: blocks, how many of them marked, P, the kinds of the image, the first bytes of the four blocks of
-- the buffer, and those that 03h would give
pub record MarkedPlate : Type 0 where
  pub before : ℕ
  pub packet : List ℕ
  pub blocks : ℕ
  pub marked : ℕ
  pub place : ℕ
  pub kinds : List ℕ
  pub given : List ℕ
  pub sense : List ℕ

-- a plate in one line
infix 80 at◌send◌blocks◌marked◌P◌kinds◌gives◌sense◌
abbrev pub at◌send◌blocks◌marked◌P◌kinds◌gives◌sense◌ : ℕ → List ℕ → ℕ → ℕ → ℕ → List ℕ → List ℕ → List ℕ → MarkedPlate
at p send packet blocks n marked m P p' kinds k gives g sense x =
    record { before = p; packet = packet; blocks = n; marked = m; place = p'; kinds = k; given = g; sense = x }

-- the kinds as they were, a buffer that was not filled, and no sense
abbrev pub as_before : List ℕ
as_before = 4 ∷ 1 ∷ 4 ∷ 3 ∷ []

abbrev pub unfilled : List ℕ
unfilled = 9 ∷ 9 ∷ 9 ∷ 9 ∷ []

abbrev pub nothing_told : List ℕ
nothing_told = sense_of 0x70 0 0 0 0

-- of a device whose residue is this where a READ of 4 has copied 3
abbrev pub marked_plates : ℕ → List MarkedPlate
marked_plates residue =
    -- "a READ's answer also says how many of the blocks copied were marked": READ 1, READ 3
    at 0 send (sent 0x08 1 0 0 1 0 0) blocks 1 marked 1 P 1 kinds as_before gives (0xa0 ∷ 9 ∷ 9 ∷ 9 ∷ []) sense nothing_told
    ∷ at 0 send (sent 0x08 1 0 0 3 0 0) blocks 3 marked 2 P 3 kinds as_before gives (0xa0 ∷ 0xb0 ∷ 0xc0 ∷ 9 ∷ []) sense nothing_told
    -- READ 4 stops at the unreadable block and passes it: 3/11/00
    ∷ at 0 send (sent 0x08 1 0 0 4 0 0) blocks 3 marked 2 P 4 kinds as_before gives (0xa0 ∷ 0xb0 ∷ 0xc0 ∷ 9 ∷ []) sense (sense_of 0xf0 0x03 residue 0x11 0)
    -- a plain block, and with the marked one after it
    ∷ at 1 send (sent 0x08 1 0 0 1 0 0) blocks 1 marked 0 P 2 kinds as_before gives (0xb0 ∷ 9 ∷ 9 ∷ 9 ∷ []) sense nothing_told
    ∷ at 1 send (sent 0x08 1 0 0 2 0 0) blocks 2 marked 1 P 3 kinds as_before gives (0xb0 ∷ 0xc0 ∷ 9 ∷ 9 ∷ []) sense nothing_told
    -- "WRITE still stores kind 1.": over a marked block
    ∷ at 2 send (sent 0x0a 1 0 0 1 0 0) blocks 1 marked 0 P 3 kinds (4 ∷ 1 ∷ 1 ∷ 3 ∷ []) gives unfilled sense nothing_told
    -- another packet says 0: TEST UNIT READY at a marked block
    ∷ at 2 send (sent 0x00 0 0 0 0 0 0) blocks 0 marked 0 P 2 kinds as_before gives unfilled sense nothing_told
    ∷ []

-- "SPACE counts it as a block", where a device has it: SPACE 3 blocks on and 2 back, over a marked block, a plain one and a marked one; SPACE 1 filemark, which
-- finds none: 8/00/05
abbrev pub marked_spaces : List MarkedPlate
marked_spaces =
    at 0 send (sent 0x11 0 0 0 3 0 0) blocks 0 marked 0 P 3 kinds as_before gives unfilled sense nothing_told
    ∷ at 3 send (sent 0x11 0 0xff 0xff 0xfe 0 0) blocks 0 marked 0 P 1 kinds as_before gives unfilled sense nothing_told
    ∷ at 0 send (sent 0x11 1 0 0 1 0 0) blocks 0 marked 0 P 4 kinds as_before gives unfilled sense (sense_of 0xf0 0x08 1 0 5)
    ∷ []

module _ {R : Type 0} (d : Device R) (placed : ℕ → R) where
  -- what came is what the plate says
  abbrev pub marked_agrees : MarkedPlate → Left R → Bool
  marked_agrees p x =
      (number_of x ≡ᵇ 0) && (status_of x ≡ᵇ status_beside p.sense) && (blocks_of x ≡ᵇ p.blocks) && (bytes_of x ≡ᵇ p.blocks * 512)
      && (marked_of x ≡ᵇ p.marked) && ((d.shared x.state).position ≡ᵇ p.place) && same (part x.image 32 4) p.kinds
      && same (get_or x.buf 0 0 ∷ get_or x.buf 512 0 ∷ get_or x.buf 1024 0 ∷ get_or x.buf 1536 0 ∷ []) p.given
      && same (sense_bytes (d.shared x.state).sense) p.sense

  -- each plate of the table, with a buffer of four blocks
  abbrev pub all_marked_agree : List MarkedPlate → Bool
  all_marked_agree [] = true
  all_marked_agree (p ∷ ps) = marked_agrees p (answers_to d marked_image (placed p.before) p.packet (replicate 2048 9)) && all_marked_agree ps

-- ---- 02, A8, worked out by hand: locking the door

-- 1Eh and 1Bh with this byte 4: 1Eh locks by bit 0, 1Bh loads by bit 0; of 1Bh 2 is retension and 4 EOT
abbrev pub prevent : ℕ → List ℕ
prevent byte4 = sent 0x1e 0 0 0 byte4 0 0

abbrev pub load : ℕ → List ℕ
load byte4 = sent 0x1b 0 0 0 byte4 0 0

-- what is sent to a record, and what must come: P, loaded, locked, and the bytes that 03h would give
pub record DoorPlate (R : Type 0) : Type 0 where
  pub before : R
  pub packet : List ℕ
  pub place : ℕ
  pub loaded : Bool
  pub locked : Bool
  pub told : List ℕ

-- a plate in one line
infix 80 from◌send◌P◌loaded◌locked◌sense◌
abbrev pub from◌send◌P◌loaded◌locked◌sense◌ : {R : Type 0} → R → List ℕ → ℕ → Bool → Bool → List ℕ → DoorPlate R
from st send packet P p loaded l locked k sense x = record { before = st; packet = packet; place = p; loaded = l; locked = k; told = x }

-- 5/53/02, 6/28/00 and 6/29/00
abbrev pub prevented : List ℕ
prevented = sense_of 0x70 0x05 0 0x53 0x02

abbrev pub medium_changed : List ℕ
medium_changed = sense_of 0x70 0x06 0 0x28 0

abbrev pub was_reset : List ℕ
was_reset = sense_of 0x70 0x06 0 0x29 0

abbrev pub alike : Bool → Bool → Bool
alike a b = if a then b else not b

-- of a drive that stands at 2, and one whose fresh record and cartridge change are these
module _ {R : Type 0} (d : Device R) (s : List ℕ) (stands_at_two fresh : R) (changed : R → R) where
  -- the record after this packet, which takes no bytes and gives none
  abbrev pub after : R → List ℕ → R
  after st packet = (answers_to d s st packet []).state

  abbrev pub locked_at_two : R
  locked_at_two = after stands_at_two (prevent 1)

  abbrev pub unlocked : R
  unlocked = after (after locked_at_two (load 0)) (prevent 0)

  abbrev pub emptied : R
  emptied = after unlocked (load 0)

  abbrev pub empty_locked : R
  empty_locked = after emptied (prevent 1)

  abbrev pub door_plates : List (DoorPlate R)
  door_plates =
      -- lock; "Unloading while locked ends with 5/53/02; the position stays."; unlock; unload
      from stands_at_two send (prevent 1) P 2 loaded true locked true sense nothing_told
      ∷ from locked_at_two send (load 0) P 2 loaded true locked true sense prevented
      ∷ from (after locked_at_two (load 0)) send (prevent 0) P 2 loaded true locked false sense nothing_told
      ∷ from unlocked send (load 0) P 0 loaded false locked false sense nothing_told
      -- an unload with retension, and with EOT, is one too
      ∷ from locked_at_two send (load 2) P 2 loaded true locked true sense prevented
      ∷ from locked_at_two send (load 4) P 2 loaded true locked true sense prevented
      -- "1Eh has no not-ready check": on a drive that is not loaded; an unload of it is stopped too, a load is not
      ∷ from emptied send (prevent 1) P 0 loaded false locked true sense nothing_told
      ∷ from empty_locked send (load 0) P 0 loaded false locked true sense prevented
      ∷ from empty_locked send (load 1) P 0 loaded true locked true sense nothing_told
      ∷ from locked_at_two send (load 1) P 0 loaded true locked true sense nothing_told
      -- "byte 4 bit 0": the others are ignored
      ∷ from locked_at_two send (prevent 0xfe) P 2 loaded true locked false sense nothing_told
      ∷ from stands_at_two send (prevent 0xff) P 2 loaded true locked true sense nothing_told
      -- "kept through a cartridge change": the pending attention is told first, then the unload is stopped
      ∷ from (changed locked_at_two) send (load 0) P 0 loaded true locked true sense medium_changed
      ∷ from (after (changed locked_at_two) (load 0)) send (load 0) P 0 loaded true locked true sense prevented
      ∷ from (changed unlocked) send (load 0) P 0 loaded true locked false sense medium_changed
      -- a pending attention ends 1Eh as any other packet
      ∷ from (changed stands_at_two) send (prevent 1) P 0 loaded true locked false sense medium_changed
      ∷ from (changed locked_at_two) send (prevent 0) P 0 loaded true locked true sense medium_changed
      -- "false when fresh"
      ∷ from fresh send (load 0) P 0 loaded true locked false sense was_reset
      ∷ []

  -- what came is what the plate says
  abbrev pub door_agrees : DoorPlate R → Left R → Bool
  door_agrees p x =
      (number_of x ≡ᵇ 0) && (status_of x ≡ᵇ status_beside p.told) && (blocks_of x ≡ᵇ 0) && (bytes_of x ≡ᵇ 0)
      && ((d.shared x.state).position ≡ᵇ p.place) && alike (d.shared x.state).loaded p.loaded && alike (d.shared x.state).locked p.locked
      && same (sense_bytes (d.shared x.state).sense) p.told

  -- each plate of the table
  abbrev pub all_doors_agree : List (DoorPlate R) → Bool
  all_doors_agree [] = true
  all_doors_agree (p ∷ ps) = door_agrees p (answers_to d s p.before p.packet []) && all_doors_agree ps

  -- byte 6 of page 2Ah, which 1Ah gives after a header of 12 bytes
  abbrev pub door_told : R → ℕ
  door_told st = get_or (answers_to d s st ask_speed (replicate 32 9)).buf 18 0

  pub record DoorPlates : Type 0 where
    pub table : all_doors_agree door_plates ≡ true
    -- "Page 2Ah shows LOCK (01h) always and LOCKED (02h) while locked, in byte 6.", beside 01's 08h
    pub open_shown : door_told stands_at_two ≡ 0x09
    pub locked_shown : door_told locked_at_two ≡ 0x0b
    pub unlocked_shown : door_told unlocked ≡ 0x09
    -- so what `LockFollows` and `LockedStays` suppose can be so
    pub locks : Locks d s emptied (prevent 1) []
    pub unloads : Unloads d s locked_at_two (load 0) [] × ((d.shared locked_at_two).locked ≡ true)
    pub open_unloads : Unloads d s unlocked (load 0) [] × ((d.shared unlocked).locked ≡ false)
    pub asks : AsksDoor d s locked_at_two ask_speed (replicate 32 9)
