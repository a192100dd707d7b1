-- The promises of the floppy tape device, one named type each; proofs/ proves them.
-- Assumes nothing.
use Rattle.std.specs.Prelude.{ℕ, ◌+◌, ◌*◌, ◌≤◌, ◌<◌, true, false, List, ◌∷◌, ◌↔◌, ◌≡◌, get_or, Result, replicate}
use Rattle.numbers.specs.declared.refusals.Refusal.{Refusal}
use Rattle.numbers.specs.Member.{is_in}
use Rattle.numbers.specs.Outcomes.{Settles}
use Rattle.numbers.specs.Over.{part}
use Rattle.image.specs.declared.elements.Kind.{Kind}
use Rattle.image.specs.declared.elements.Kind.TheVariants.{Data, Marked}
use Rattle.image.specs.Header.{fields_of, header_length}
use Rattle.opcodes.specs.declared.Command.TheVariants.{Read, Write, ModeSelect, LoadUnload, Locate}
use Rattle.packet_state.specs.declared.state.Attention.TheVariants.{Nothing}
use Rattle.packet_state.specs.declared.state.Outcome.{Outcome}
use Rattle.packet_state.specs.States.{speeds, with_locked, with_speed, with_sense}
use Rattle.packet_state.specs.Senses.{invalid_field, wrong_list}
use Rattle.packet_parts.specs.Answers.{good_status}
use Rattle.packet_parts.specs.Requests.{load_bit}
use Rattle.packet_laws.specs.Plates.{standing, sent, SpeedPlates as SpeedPlatesOf, marked_image, marked_plates, all_marked_agree, DoorPlates as DoorPlatesOf}
use Rattle.packet_laws.specs.Promises.{CutPacket as CutPacketOf, RefusedKeeps as RefusedKeepsOf, NumberExactly as NumberExactlyOf}
use Rattle.packet_laws.specs.Promises.{BeginsExactly as BeginsExactlyOf, SpeedFollows as SpeedFollowsOf, MarkedCounted as MarkedCountedOf}
use Rattle.packet_laws.specs.Promises.{LockFollows as LockFollowsOf, LockedStays as LockedStaysOf}
use Rattle.packet_laws.specs.Words.{number_of, status_of, blocks_of, bytes_of, residue_of}
use Rattle.floppy_parts.specs.declared.tape.Floppy.{Floppy}
use Rattle.floppy_parts.specs.Headers.{is_full}
use Rattle.floppy_parts.specs.Replies.{tape_list}
use Rattle.floppy_parts.specs.Requests.{floppy_request, blocks_asked, block_number}
use Rattle.floppy_parts.specs.Rules.{keeps_floppy_rules}
use Rattle.floppy_parts.specs.Tape.{product, reset_tape, listed_tape, floppy_of}
use Rattle.floppy.specs.Packet.{FreshPromise, ChangedPromise, PacketPromise, floppy_device, floppy_step, fresh_floppy, changed_floppy}
use Rattle.floppy_laws.specs.History.{ReadsBackAs}
use Rattle.floppy_laws.specs.Plates.{image, placed, placed_deleting, list_of, select, all_agree, plates, BeginsAndMoves}
use Rattle.floppy_laws.specs.Words.{place_of, end_of, sense_in, moved_to, BeginsWork, TakesList, IsData, IsDataAs, ReadEnds, WriteEnds}
use Rattle.floppy_laws.specs.Words.{StoppedAtBadBlock, Kept}

-- What every packet device promises: "1: packet is not 12 bytes", whatever the image, the record and the buffer; nothing changes.
abbrev pub CutPacket : Type 0
CutPacket = CutPacketOf floppy_device

-- "A refused call gives its number, and image, buffers and record are then as they were."
abbrev pub RefusedKeeps : Type 0
RefusedKeeps = RefusedKeepsOf floppy_device

-- "Given exactly when": every packet is given the one number that the table has for it, with "2 also when U is below C" and "3 also when the product exceeds C
-- or P exceeds the product".
abbrev pub NumberExactly : Type 0
NumberExactly = NumberExactlyOf floppy_device

-- A packet begins exactly when its number is 0 and none of the endings before the work holds.
abbrev pub BeginsExactly : Type 0
BeginsExactly = BeginsExactlyOf floppy_device

-- 02, A2: 1Ah gives the record's speed, 15h sets it exactly where its list is good, and no other packet changes it.
abbrev pub SpeedFollows : Type 0
SpeedFollows = SpeedFollowsOf floppy_device

-- 02, A6: a READ's answer says how many of the blocks that it copied have kind 4, every other answer 0.
abbrev pub MarkedCounted : Type 0
MarkedCounted = MarkedCountedOf floppy_device

-- 02, A8: 1Eh sets the lock as its bit says, loaded or not, no other packet turns it, and page 2Ah shows it.
abbrev pub LockFollows : Type 0
LockFollows = LockFollowsOf floppy_device

-- 02, A8: while locked, no packet but 1Eh with bit 0 clear unlocks, and no packet at all unloads. An unload of a locked drive ends with 5/53/02, and only the
-- sense is new; an open drive unloads; and the lock stops nothing else.
abbrev pub LockedStays : Type 0
LockedStays = LockedStaysOf floppy_device

-- 02, A8: "a locked flag, false when fresh and kept through a cartridge change", also through one that is refused
pub record LockStarts : Type 0 where
  pub fresh : (s : List ℕ) (f : Floppy) → is_full s ≡ true → (fresh_floppy s f).state.shared.locked ≡ false
  pub changed : (s : List ℕ) (f : Floppy) → (changed_floppy s f).state.shared.locked ≡ f.shared.locked

-- What an accepted packet leaves is again accepted: U is still C, the product within C, and P within the product.
abbrev pub StaysGood : Type 0
StaysGood =
    (s : List ℕ) (f : Floppy) (packet buf : List ℕ) → number_of (floppy_step s f packet buf) ≡ 0
    → (is_full (floppy_step s f packet buf).image ≡ true)
    × (keeps_floppy_rules (fields_of (floppy_step s f packet buf).image) (floppy_step s f packet buf).state ≡ true)

-- So is what the fresh record and the cartridge change leave, where they are not refused and the speed is one of the five.
pub record StartsGood : Type 0 where
  pub fresh : (s : List ℕ) (f : Floppy) → is_full s ≡ true → keeps_floppy_rules (fields_of s) (fresh_floppy s f).state ≡ true
  pub changed : (s : List ℕ) (f : Floppy) → is_full s ≡ true → is_in f.shared.speed speeds ≡ true
      → keeps_floppy_rules (fields_of s) (changed_floppy s f).state ≡ true

-- "Its residue on an unreadable block leaves out the block in error, so there moved plus residue is one short of asked; demand 2 keeps its sum for every other
-- ending.": a READ is one short exactly where it stopped at such a block.
pub record MovedPlusResidue : Type 0 where
  pub write : (s : List ℕ) (f : Floppy) (packet buf : List ℕ) → BeginsWork s f packet buf → (floppy_request packet).command ≡ Write
      → blocks_of (floppy_step s f packet buf) + residue_of (sense_in (floppy_step s f packet buf)) ≡ blocks_asked (floppy_request packet)
  pub read : (s : List ℕ) (f : Floppy) (packet buf : List ℕ) → BeginsWork s f packet buf → (floppy_request packet).command ≡ Read
      → (StoppedAtBadBlock s f (blocks_asked (floppy_request packet)) (floppy_step s f packet buf) → ⊥)
      → blocks_of (floppy_step s f packet buf) + residue_of (sense_in (floppy_step s f packet buf)) ≡ blocks_asked (floppy_request packet)
  pub read_short : (s : List ℕ) (f : Floppy) (packet buf : List ℕ) → BeginsWork s f packet buf → (floppy_request packet).command ≡ Read
      → StoppedAtBadBlock s f (blocks_asked (floppy_request packet)) (floppy_step s f packet buf)
      → blocks_of (floppy_step s f packet buf) + residue_of (sense_in (floppy_step s f packet buf)) + 1 ≡ blocks_asked (floppy_request packet)

-- A READ that begins copies all N and ends GOOD, or ends with the sense of what stands at P plus the blocks told.
abbrev pub ReadTellsWhy : Type 0
ReadTellsWhy =
    (s : List ℕ) (f : Floppy) (packet buf : List ℕ) → BeginsWork s f packet buf → (floppy_request packet).command ≡ Read
    → ReadEnds s f (blocks_asked (floppy_request packet)) (floppy_step s f packet buf)

-- A WRITE that begins stores all N and ends GOOD, or so many that it stands at the product.
abbrev pub WriteTellsWhy : Type 0
WriteTellsWhy =
    (s : List ℕ) (f : Floppy) (packet buf : List ℕ) → BeginsWork s f packet buf → (floppy_request packet).command ≡ Write
    → WriteEnds f (blocks_asked (floppy_request packet)) (floppy_step s f packet buf)

-- "bytes are those filled or taken in the data buffer": B for each block.
pub record BytesAreBlocks : Type 0 where
  pub read : (s : List ℕ) (f : Floppy) (packet buf : List ℕ) → BeginsWork s f packet buf → (floppy_request packet).command ≡ Read
      → bytes_of (floppy_step s f packet buf) ≡ blocks_of (floppy_step s f packet buf) * (fields_of s).size
  pub write : (s : List ℕ) (f : Floppy) (packet buf : List ℕ) → BeginsWork s f packet buf → (floppy_request packet).command ≡ Write
      → bytes_of (floppy_step s f packet buf) ≡ blocks_of (floppy_step s f packet buf) * (fields_of s).size

-- A READ or WRITE that begins changes P and the sense of the record, nothing else: no tape parameter.
pub record RecordKept : Type 0 where
  pub read : (s : List ℕ) (f : Floppy) (packet buf : List ℕ) → BeginsWork s f packet buf → (floppy_request packet).command ≡ Read
      → (floppy_step s f packet buf).state ≡ moved_to f (floppy_step s f packet buf)
  pub write : (s : List ℕ) (f : Floppy) (packet buf : List ℕ) → BeginsWork s f packet buf → (floppy_request packet).command ≡ Write
      → (floppy_step s f packet buf).state ≡ moved_to f (floppy_step s f packet buf)

-- 02, A6: "READ copies it as data": each block that a READ moves is a data block of the image, marked or not, and stands whole in the buffer.
abbrev pub ReadGives : Type 0
ReadGives =
    (s : List ℕ) (f : Floppy) (packet buf : List ℕ) → BeginsWork s f packet buf → (floppy_request packet).command ≡ Read
    → (k : ℕ) → k < blocks_of (floppy_step s f packet buf)
    → IsData s (place_of f + k) (part (floppy_step s f packet buf).buf (k * (fields_of s).size) (fields_of s).size)

-- The same from the other side: a READ of one block or more that begins at a data block below the product, marked or not, moves it.
abbrev pub ReadMoves : Type 0
ReadMoves =
    (s : List ℕ) (f : Floppy) (packet buf bytes : List ℕ) → BeginsWork s f packet buf → (floppy_request packet).command ≡ Read
    → IsData s (place_of f) bytes → place_of f < end_of f → 1 ≤ blocks_asked (floppy_request packet)
    → 1 ≤ blocks_of (floppy_step s f packet buf)

-- 02, A6: "WRITE still stores kind 1.": each block that a WRITE counts is data, not marked, with the buffer's bytes, in the image that it leaves, whatever the
-- tape parameters say.
abbrev pub BlocksStored : Type 0
BlocksStored =
    (s : List ℕ) (f : Floppy) (packet buf : List ℕ) → BeginsWork s f packet buf → (floppy_request packet).command ≡ Write
    → (j : ℕ) → j < blocks_of (floppy_step s f packet buf)
    → IsDataAs Data (floppy_step s f packet buf).image (place_of f + j) (part buf (j * (fields_of s).size) (fields_of s).size)

-- A written block reads back the same until something is stored at its own place: nothing before it harms it here. So does a data block
-- that is in the image, a marked one as marked.
pub record ReadsBack : Type 0 where
  pub written : (s : List ℕ) (f : Floppy) (packet buf : List ℕ) → BeginsWork s f packet buf → (floppy_request packet).command ≡ Write
      → (j : ℕ) → j < blocks_of (floppy_step s f packet buf)
      → ReadsBackAs Data (place_of f + j) (part buf (j * (fields_of s).size) (fields_of s).size)
      (floppy_step s f packet buf).image (floppy_step s f packet buf).state
  pub recorded : (kind : Kind) (i : ℕ) (bytes s : List ℕ) (f : Floppy) → IsDataAs kind s i bytes → ReadsBackAs kind i bytes s f

-- "a write leaves U": no packet moves U or any other byte of the header.
pub record RecordedKept : Type 0 where
  pub bytes : (s : List ℕ) (f : Floppy) (packet buf : List ℕ) (m : ℕ) → m < header_length → get_or (floppy_step s f packet buf).image m 0 ≡ get_or s m 0
  pub fields : (s : List ℕ) (f : Floppy) (packet buf : List ℕ) → fields_of (floppy_step s f packet buf).image ≡ fields_of s

-- "bytes beyond the transfer stay", in the buffer and in the image; the neighbours of the blocks written are unharmed.
abbrev pub BeyondKept : Type 0
BeyondKept =
    (s : List ℕ) (f : Floppy) (packet buf : List ℕ) → number_of (floppy_step s f packet buf) ≡ 0
    → Kept s f packet buf (floppy_step s f packet buf)

-- "LOCATE runs to BSEG*SEGTRK*TRKS - 1 .. a locate past the last block is 5/24/00": one that begins names a block below the product, and the device then
-- stands there; one past it, with no attention pending, changes the sense alone.
pub record LocateExactly : Type 0 where
  pub below : (s : List ℕ) (f : Floppy) (packet buf : List ℕ) → BeginsWork s f packet buf → (floppy_request packet).command ≡ Locate
      → block_number (floppy_request packet) < end_of f
  pub there : (s : List ℕ) (f : Floppy) (packet buf : List ℕ) → BeginsWork s f packet buf → (floppy_request packet).command ≡ Locate
      → place_of (floppy_step s f packet buf).state ≡ block_number (floppy_request packet)
  pub past : (s : List ℕ) (f : Floppy) (packet buf : List ℕ) → number_of (floppy_step s f packet buf) ≡ 0 → (floppy_request packet).command ≡ Locate
      → f.shared.attention ≡ Nothing → end_of f ≤ block_number (floppy_request packet)
      → (floppy_step s f packet buf).state ≡ floppy_of (with_sense f.shared invalid_field) f.tape

-- "page 2Bh is .. set; its list has 28 bytes": such a list is taken exactly when its page bytes are right and its product is at most C; then the parameters
-- are the list's, and P is 0 where the product fell below it, else it stays. Nothing else but a load sets them.
pub record SelectExactly : Type 0 where
  pub taken : (s : List ℕ) (f : Floppy) (packet list : List ℕ) → BeginsWork s f packet list → (floppy_request packet).command ≡ ModeSelect
      → (floppy_request packet).length ≡ tape_list → (status_of (floppy_step s f packet list) ≡ good_status) ↔ TakesList (fields_of s) list
  pub set : (s : List ℕ) (f : Floppy) (packet list : List ℕ) → BeginsWork s f packet list → (floppy_request packet).command ≡ ModeSelect
      → (floppy_request packet).length ≡ tape_list → TakesList (fields_of s) list
      → (floppy_step s f packet list).state.tape ≡ listed_tape list
  pub below : (s : List ℕ) (f : Floppy) (packet list : List ℕ) → BeginsWork s f packet list → (floppy_request packet).command ≡ ModeSelect
      → (floppy_request packet).length ≡ tape_list → TakesList (fields_of s) list
      → product (listed_tape list) < place_of f → place_of (floppy_step s f packet list).state ≡ 0
  pub above : (s : List ℕ) (f : Floppy) (packet list : List ℕ) → BeginsWork s f packet list → (floppy_request packet).command ≡ ModeSelect
      → (floppy_request packet).length ≡ tape_list → TakesList (fields_of s) list
      → place_of f ≤ product (listed_tape list) → place_of (floppy_step s f packet list).state ≡ place_of f
  -- "a list that makes the product exceed C is 5/26/00": only the sense is new
  pub left : (s : List ℕ) (f : Floppy) (packet list : List ℕ) → BeginsWork s f packet list → (floppy_request packet).command ≡ ModeSelect
      → (floppy_request packet).length ≡ tape_list → (TakesList (fields_of s) list → ⊥)
      → (floppy_step s f packet list).state ≡ floppy_of (with_sense f.shared wrong_list) f.tape
  -- "After a load .. BSEG is 1, SEGTRK C, TRKS 1 and the rest 0"
  pub load : (s : List ℕ) (f : Floppy) (packet buf : List ℕ) → BeginsWork s f packet buf → (floppy_request packet).command ≡ LoadUnload
      → load_bit (floppy_request packet) ≡ true → (floppy_step s f packet buf).state.tape ≡ reset_tape (fields_of s).capacity
  pub unload : (s : List ℕ) (f : Floppy) (packet buf : List ℕ) → (floppy_request packet).command ≡ LoadUnload
      → load_bit (floppy_request packet) ≡ false → (floppy_step s f packet buf).state.tape ≡ f.tape
  pub others : (s : List ℕ) (f : Floppy) (packet buf : List ℕ) → ((floppy_request packet).command ≡ ModeSelect → ⊥)
      → ((floppy_request packet).command ≡ LoadUnload → ⊥) → (floppy_step s f packet buf).state.tape ≡ f.tape

-- "Prove that any two outcomes allowed by it coincide": what the promises of `packet`, `fresh` and `changed` allow.
pub record Settled : Type 0 where
  pub packet : (s : List ℕ) (f : Floppy) (packet buf : List ℕ) (r r' : Result (Outcome Floppy) Refusal) (image image' buf' buf'' : List ℕ)
      → PacketPromise s f packet buf r image buf' → PacketPromise s f packet buf r' image' buf''
      → (r ≡ r') × (image ≡ image') × (buf' ≡ buf'')
  pub fresh : (s : List ℕ) (f : Floppy) → Settles (FreshPromise s f)
  pub changed : (s : List ℕ) (f : Floppy) → Settles (ChangedPromise s f)

-- Plates worked out by hand from A1's words, proved together as one table.
abbrev pub PlatesPrint : Type 0
PlatesPrint = all_agree plates ≡ true

-- 02, A2: what a fresh device tells of its speed, and one whose host wants 0; made fresh where it stood at 3 with speed 0.
abbrev pub SpeedPlates : Type 0
SpeedPlates =
    SpeedPlatesOf floppy_device (image 0) (fresh_floppy (image 0) (floppy_of (with_speed (standing 3) 0) (reset_tape 4))).state
    (λ f. (changed_floppy (image 0) f).state)

-- 02, A6: READ and WRITE over marked blocks, and "WRITE still stores kind 1." whether WDAM is clear or set; "Its residue on an unreadable block leaves out the
-- block in error": 0 of 4.
pub record MarkedPlates : Type 0 where
  pub clear : all_marked_agree floppy_device placed (marked_plates 0) ≡ true
  pub deleting : (placed_deleting 0).tape.reported.deleted ≡ true
  pub set : all_marked_agree floppy_device placed_deleting (marked_plates 0) ≡ true

-- 02, A8: the lock, worked out by hand; made fresh where it was locked at 3.
abbrev pub DoorPlates : Type 0
DoorPlates =
    DoorPlatesOf floppy_device (image 0) (placed 2) (fresh_floppy (image 0) (floppy_of (with_locked (standing 3) true) (reset_tape 4))).state
    (λ f. (changed_floppy (image 0) f).state)

-- What is asked above can be so: a READ and a WRITE that begin and move a block, a list of 28 bytes that is taken and one that is not, a marked block.
pub record WorkBegins : Type 0 where
  pub read : BeginsAndMoves (placed 0) (sent 0x08 1 0 0 3 0 0)
  pub write : BeginsAndMoves (placed 3) (sent 0x0a 1 0 0 2 0 0)
  pub taken : BeginsWork (image 0) (placed 3) select (list_of 1 2 1) × TakesList (fields_of (image 0)) (list_of 1 2 1)
  pub left : BeginsWork (image 0) (placed 3) select (list_of 1 5 1) × (TakesList (fields_of (image 0)) (list_of 1 5 1) → ⊥)
  pub marked : IsDataAs Marked marked_image 0 (0xa0 ∷ replicate 511 7)
