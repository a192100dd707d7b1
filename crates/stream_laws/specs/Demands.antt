-- The demands on the packet drive, one named type each; proofs/ proves them.
-- Assumes nothing.
use Rattle.std.specs.Prelude.{ℕ, ◌+◌, ◌*◌, ◌≤◌, ◌<◌, true, false, List, [], ◌∷◌, ◌≡◌, Result, replicate}
use Rattle.numbers.specs.declared.refusals.Refusal.{Refusal}
use Rattle.numbers.specs.Member.{is_in}
use Rattle.numbers.specs.Outcomes.{Settles}
use Rattle.numbers.specs.Over.{part}
use Rattle.image.specs.declared.elements.Kind.{Kind}
use Rattle.image.specs.declared.elements.Kind.TheVariants.{Data, Filemark, Marked}
use Rattle.image.specs.Header.{fields_of, keeps_header_rules, with_recorded}
use Rattle.opcodes.specs.declared.Command.TheVariants.{Read, Write, WriteFilemarks, Locate}
use Rattle.packet_state.specs.declared.state.Outcome.{Outcome}
use Rattle.packet_state.specs.declared.state.State.{State}
use Rattle.packet_state.specs.Senses.{unreadable_block}
use Rattle.packet_state.specs.States.{fresh_state, changed_state, speeds, keeps_record_rules, at_place, with_sense}
use Rattle.packet_parts.specs.Answers.{Left}
use Rattle.packet_laws.specs.Plates.{standing, sent, sense_of, SpeedPlates as SpeedPlatesOf, marked_image, marked_plates, marked_spaces, all_marked_agree}
use Rattle.packet_laws.specs.Plates.{load, from◌send◌P◌loaded◌locked◌sense◌, locked_at_two, all_doors_agree, DoorPlates as DoorPlatesOf}
use Rattle.packet_laws.specs.Promises.{CutPacket as CutPacketOf, RefusedKeeps as RefusedKeepsOf, NumberExactly as NumberExactlyOf}
use Rattle.packet_laws.specs.Promises.{BeginsExactly as BeginsExactlyOf, SpeedFollows as SpeedFollowsOf, MarkedCounted as MarkedCountedOf}
use Rattle.packet_laws.specs.Promises.{LockFollows as LockFollowsOf, LockedStays as LockedStaysOf}
use Rattle.packet_laws.specs.Words.{number_of, blocks_of, bytes_of, residue_of}
use Rattle.stream_parts.specs.Requests.{request_of}
use Rattle.stream_parts.specs.Warning.{past_warning}
use Rattle.stream.specs.Packet.{FreshPromise, ChangedPromise, PacketPromise, stream_device, packet_step}
use Rattle.stream_laws.specs.EndOfData.{step_before, reads_or_spaces, tells_end, carrying_eom}
use Rattle.stream_laws.specs.History.{ReadsBackAs}
use Rattle.stream_laws.specs.Plates.{image, unreadable_at_two, read_two, all_agree, plates, end_plates, BeginsAndMoves}
use Rattle.stream_laws.specs.Words.{BeginsWork, Moves, stores, IsRecorded, IsRecordedAs, IsElement, Kept, AlikeBelowU}
use Rattle.stream_laws.specs.Words.{ReadEnds, WriteEnds, passed_beside, GoodRead, BlocksGood, MarksGood, SameBelowU}

-- What every packet device promises: "1: packet is not 12 bytes", whatever the image, the record and the buffer; nothing changes.
abbrev pub CutPacket : Type 0
CutPacket = CutPacketOf stream_device

-- "A refused call gives its number, and image, buffers and record are then as they were."
abbrev pub RefusedKeeps : Type 0
RefusedKeeps = RefusedKeepsOf stream_device

-- "Given exactly when": every packet is given the one number that 01's table has for it.
abbrev pub NumberExactly : Type 0
NumberExactly = NumberExactlyOf stream_device

-- A packet begins exactly when its number is 0 and none of the endings before the work holds, 01's and the lock's.
abbrev pub BeginsExactly : Type 0
BeginsExactly = BeginsExactlyOf stream_device

-- 02, A2: 1Ah gives the record's speed, 15h sets it exactly where its list is good, and no other packet changes it.
abbrev pub SpeedFollows : Type 0
SpeedFollows = SpeedFollowsOf stream_device

-- 02, A6: a READ's answer says how many of the blocks that it copied have kind 4, every other answer 0.
abbrev pub MarkedCounted : Type 0
MarkedCounted = MarkedCountedOf stream_device

-- 02, A8: 1Eh sets the lock as its bit says, loaded or not, no other packet turns it, and page 2Ah shows it.
abbrev pub LockFollows : Type 0
LockFollows = LockFollowsOf stream_device

-- 02, A8: while locked, no packet but 1Eh with bit 0 clear unlocks, and no packet at all unloads. An unload of a locked drive ends with 5/53/02, and only the
-- sense is new; an open drive unloads; and the lock stops nothing else.
abbrev pub LockedStays : Type 0
LockedStays = LockedStaysOf stream_device

-- 02, A8: "a locked flag, false when fresh and kept through a cartridge change"
pub record LockStarts : Type 0 where
  pub fresh : fresh_state.locked ≡ false
  pub changed : (st : State) → (changed_state st).locked ≡ st.locked

-- "For every read or write that begins, blocks moved plus residue equal blocks asked."
abbrev pub MovedPlusResidue : Type 0
MovedPlusResidue =
    (s : List ℕ) (st : State) (packet buf : List ℕ) → BeginsWork s st packet buf → Moves (request_of packet).command
    → blocks_of (packet_step s st packet buf) + residue_of (packet_step s st packet buf).state.sense ≡ (request_of packet).count

-- "Filemark: .. stop, key 0, filemark, 00/01. Unreadable: .. stop, 3/11/00. P = U: stop, 8/00/05": a READ that begins copies all N and ends GOOD, or
-- ends with the sense of what stands in the image at P plus the blocks told.
abbrev pub ReadTellsWhy : Type 0
ReadTellsWhy =
    (s : List ℕ) (st : State) (packet buf : List ℕ) → BeginsWork s st packet buf → (request_of packet).command ≡ Read
    → ReadEnds s st.position (request_of packet).count (packet_step s st packet buf)

-- "At P = C: stop": a WRITE or WRITE FILEMARK that begins stores all N, or so many that it stands at C, and ends with the sense that 01 has for it.
abbrev pub WriteTellsWhy : Type 0
WriteTellsWhy =
    (s : List ℕ) (st : State) (packet buf : List ℕ) → BeginsWork s st packet buf → stores packet ≡ true
    → WriteEnds s st.position (request_of packet).count (packet_step s st packet buf)

-- "Data: copied, P + 1. Filemark: P + 1 .. Unreadable: P + 1": where a READ leaves the drive can be told from its answer and sense alone.
abbrev pub ReadStands : Type 0
ReadStands =
    (s : List ℕ) (st : State) (packet buf : List ℕ) → BeginsWork s st packet buf → (request_of packet).command ≡ Read
    → (packet_step s st packet buf).state.position
    ≡ st.position + blocks_of (packet_step s st packet buf) + passed_beside (packet_step s st packet buf).state.sense

-- "bytes and kind 1 stored, P + 1", "filemarks by WRITE's rules": P plus the blocks told.
abbrev pub WriteStands : Type 0
WriteStands =
    (s : List ℕ) (st : State) (packet buf : List ℕ) → BeginsWork s st packet buf → stores packet ≡ true
    → (packet_step s st packet buf).state.position ≡ st.position + blocks_of (packet_step s st packet buf)

-- "bytes are those filled or taken in the data buffer": B for each block read or written, none for a filemark.
pub record BytesAreBlocks : Type 0 where
  pub read : (s : List ℕ) (st : State) (packet buf : List ℕ) → BeginsWork s st packet buf → (request_of packet).command ≡ Read
      → bytes_of (packet_step s st packet buf) ≡ blocks_of (packet_step s st packet buf) * (fields_of s).size
  pub write : (s : List ℕ) (st : State) (packet buf : List ℕ) → BeginsWork s st packet buf → (request_of packet).command ≡ Write
      → bytes_of (packet_step s st packet buf) ≡ blocks_of (packet_step s st packet buf) * (fields_of s).size
  pub filemarks : (s : List ℕ) (st : State) (packet buf : List ℕ) → BeginsWork s st packet buf → (request_of packet).command ≡ WriteFilemarks
      → bytes_of (packet_step s st packet buf) ≡ 0

-- READ, WRITE and WRITE FILEMARK that begin change P and the sense of the record, nothing else.
abbrev pub RecordKept : Type 0
RecordKept =
    (s : List ℕ) (st : State) (packet buf : List ℕ) → BeginsWork s st packet buf → Moves (request_of packet).command
    → (packet_step s st packet buf).state ≡ with_sense (at_place st (packet_step s st packet buf).state.position) (packet_step s st packet buf).state.sense

-- A READ that begins is all that 01 and 02, A3 and A6 ask of it, and nothing of it is left open: two drives that do what they ask leave the same.
pub record ReadSettled : Type 0 where
  pub good : (s : List ℕ) (st : State) (packet buf : List ℕ) → BeginsWork s st packet buf → (request_of packet).command ≡ Read
      → GoodRead s st (request_of packet).count buf (packet_step s st packet buf)
  pub one : (s : List ℕ) (st : State) (n : ℕ) (buf : List ℕ) (x y : Left State) → GoodRead s st n buf x → GoodRead s st n buf y → x ≡ y

-- The same of WRITE and WRITE FILEMARK, but for what means nothing: what the image has at U and above.
pub record WriteSettled : Type 0 where
  pub blocks_good : (s : List ℕ) (st : State) (packet buf : List ℕ) → BeginsWork s st packet buf → (request_of packet).command ≡ Write
      → BlocksGood s st (request_of packet).count buf (packet_step s st packet buf)
  pub marks_good : (s : List ℕ) (st : State) (packet buf : List ℕ) → BeginsWork s st packet buf → (request_of packet).command ≡ WriteFilemarks
      → MarksGood s st (request_of packet).count buf (packet_step s st packet buf)
  pub blocks_one : (s : List ℕ) (st : State) (n : ℕ) (buf : List ℕ) (x y : Left State) → BlocksGood s st n buf x → BlocksGood s st n buf y → SameBelowU x y
  pub marks_one : (s : List ℕ) (st : State) (n : ℕ) (buf : List ℕ) (x y : Left State) → MarksGood s st n buf x → MarksGood s st n buf y → SameBelowU x y

-- 02, A3: "So 8/00/05 on READ and SPACE carries EOM when U > C - W. The cases with W 0 stay."
pub record EndOfDataEom : Type 0 where
  -- READ's and SPACE's 8/00/05 carries EOM exactly then
  pub shown : (s : List ℕ) (st : State) (packet buf : List ℕ)
      → reads_or_spaces (request_of packet).command ≡ true → tells_end (packet_step s st packet buf) ≡ true
      → (packet_step s st packet buf).state.sense.eom ≡ past_warning (fields_of s) (fields_of s).recorded
  -- LOCATE's never does
  pub located : (s : List ℕ) (st : State) (packet buf : List ℕ)
      → (request_of packet).command ≡ Locate → tells_end (packet_step s st packet buf) ≡ true
      → (packet_step s st packet buf).state.sense.eom ≡ false
  -- all else is as before: answer, record, image and buffer of every packet
  pub else_before : (s : List ℕ) (st : State) (packet buf : List ℕ)
      → packet_step s st packet buf ≡ carrying_eom (request_of packet).command (fields_of s) (step_before s st packet buf)
  -- 01: "8/00/05, no EOM": before, none did
  pub none_before : (s : List ℕ) (st : State) (packet buf : List ℕ) → tells_end (step_before s st packet buf) ≡ true
      → (step_before s st packet buf).state.sense.eom ≡ false
  -- "The cases with W 0 stay.": there none does now
  pub unwarned : (s : List ℕ) (st : State) (packet buf : List ℕ) → (fields_of s).warning ≡ 0 → tells_end (packet_step s st packet buf) ≡ true
      → (packet_step s st packet buf).state.sense.eom ≡ false

-- "Prove that any two outcomes allowed by it coincide": what the promises of `packet`, `fresh` and `changed` allow.
pub record Settled : Type 0 where
  pub packet : (s : List ℕ) (st : State) (packet buf : List ℕ) (r r' : Result (Outcome State) Refusal) (image image' buf' buf'' : List ℕ)
      → PacketPromise s st packet buf r image buf' → PacketPromise s st packet buf r' image' buf''
      → (r ≡ r') × (image ≡ image') × (buf' ≡ buf'')
  pub fresh : Settles FreshPromise
  pub changed : (st : State) → Settles (ChangedPromise st)

-- 02, A2: "Refusals: none new": rule 3 holds of the fresh record over every cartridge, and of the changed one where its speed is one of the five.
pub record StartsGood : Type 0 where
  pub fresh : (end : ℕ) → keeps_record_rules end fresh_state ≡ true
  pub changed : (end : ℕ) (st : State) → is_in st.speed speeds ≡ true → keeps_record_rules end (changed_state st) ≡ true

-- What an accepted packet leaves is again accepted: the image keeps the header rules, with the same header but U, and the record keeps rule 3 for it.
abbrev pub StaysGood : Type 0
StaysGood =
    (s : List ℕ) (st : State) (packet buf : List ℕ) → number_of (packet_step s st packet buf) ≡ 0
    → (keeps_header_rules (packet_step s st packet buf).image ≡ true)
    × (fields_of (packet_step s st packet buf).image ≡ with_recorded (fields_of s) (fields_of (packet_step s st packet buf).image).recorded)
    × (keeps_record_rules (fields_of (packet_step s st packet buf).image).recorded (packet_step s st packet buf).state ≡ true)

-- "bytes beyond the transfer stay", in the buffer and in the image.
abbrev pub BeyondKept : Type 0
BeyondKept =
    (s : List ℕ) (st : State) (packet buf : List ℕ) → number_of (packet_step s st packet buf) ≡ 0
    → Kept s st packet buf (packet_step s st packet buf)

-- "Kinds at U and above mean nothing.": images that are alike below U are answered alike, and stay alike.
pub record BeyondIgnored : Type 0 where
  pub answer : (s t : List ℕ) (st : State) (packet buf : List ℕ) → AlikeBelowU s t → (packet_step t st packet buf).answer ≡ (packet_step s st packet buf).answer
  pub state : (s t : List ℕ) (st : State) (packet buf : List ℕ) → AlikeBelowU s t → (packet_step t st packet buf).state ≡ (packet_step s st packet buf).state
  pub given : (s t : List ℕ) (st : State) (packet buf : List ℕ) → AlikeBelowU s t → (packet_step t st packet buf).buf ≡ (packet_step s st packet buf).buf
  pub left : (s t : List ℕ) (st : State) (packet buf : List ℕ) → AlikeBelowU s t
      → AlikeBelowU (packet_step s st packet buf).image (packet_step t st packet buf).image

-- "Data: copied, P + 1"; 02, A6: "READ copies it as data": each block that a READ moves is a data block of the image, marked or not, and stands whole in the
-- buffer.
abbrev pub ReadGives : Type 0
ReadGives =
    (s : List ℕ) (st : State) (packet buf : List ℕ) → BeginsWork s st packet buf → (request_of packet).command ≡ Read
    → (k : ℕ) → k < blocks_of (packet_step s st packet buf)
    → IsRecorded s (st.position + k) (part (packet_step s st packet buf).buf (k * (fields_of s).size) (fields_of s).size)

-- The same from the other side: a READ of one block or more that begins at a data block, marked or not, moves it.
abbrev pub ReadMoves : Type 0
ReadMoves =
    (s : List ℕ) (st : State) (packet buf bytes : List ℕ) → BeginsWork s st packet buf → (request_of packet).command ≡ Read
    → IsRecorded s st.position bytes → 1 ≤ (request_of packet).count
    → 1 ≤ blocks_of (packet_step s st packet buf)

-- "bytes and kind 1 stored"; 02, A6: "WRITE still stores kind 1.": each block that a WRITE counts is recorded data, not marked, with the buffer's bytes, in the
-- image that it leaves.
abbrev pub BlocksStored : Type 0
BlocksStored =
    (s : List ℕ) (st : State) (packet buf : List ℕ) → BeginsWork s st packet buf → (request_of packet).command ≡ Write
    → (j : ℕ) → j < blocks_of (packet_step s st packet buf)
    → IsRecordedAs Data (packet_step s st packet buf).image (st.position + j) (part buf (j * (fields_of s).size) (fields_of s).size)

-- "10h: N (bytes 2-4) filemarks": each element that a WRITE FILEMARK counts is a filemark below the new U, in the image that it leaves.
abbrev pub MarksStored : Type 0
MarksStored =
    (s : List ℕ) (st : State) (packet buf : List ℕ) → BeginsWork s st packet buf → (request_of packet).command ≡ WriteFilemarks
    → (j : ℕ) → j < blocks_of (packet_step s st packet buf)
    → IsElement (packet_step s st packet buf).image (st.position + j) Filemark

-- "Blocks are elements copied or stored": a packet that counts none leaves the image as it was, U too.
abbrev pub NoneStored : Type 0
NoneStored = (s : List ℕ) (st : State) (packet buf : List ℕ) → blocks_of (packet_step s st packet buf) ≡ 0 → (packet_step s st packet buf).image ≡ s

-- "A written block reads back the same until something is stored at or before its place": block j of a WRITE is element P + j, of kind 1 with its bytes,
-- through every later history, and every READ that moves it gives these bytes. So does a data block that is in the image, a marked one as marked.
pub record ReadsBack : Type 0 where
  pub written : (s : List ℕ) (st : State) (packet buf : List ℕ) → BeginsWork s st packet buf → (request_of packet).command ≡ Write
      → (j : ℕ) → j < blocks_of (packet_step s st packet buf)
      → ReadsBackAs Data (st.position + j) (part buf (j * (fields_of s).size) (fields_of s).size)
      (packet_step s st packet buf).image (packet_step s st packet buf).state
  pub recorded : (kind : Kind) (i : ℕ) (bytes s : List ℕ) (st : State) → IsRecordedAs kind s i bytes → ReadsBackAs kind i bytes s st

-- 01: "A small set is proved together as one table (*)"
abbrev pub PlatesPrint : Type 0
PlatesPrint = all_agree plates ≡ true

-- 02, A3: the end of data on a tape without early warning, at its place and past it, met by READ and by SPACE over blocks and over filemarks; and LOCATE.
abbrev pub EndOfDataPlates : Type 0
EndOfDataPlates = all_agree end_plates ≡ true

-- 02, A2: what a fresh drive tells of its speed, and one whose host wants 0.
abbrev pub SpeedPlates : Type 0
SpeedPlates = SpeedPlatesOf stream_device (image 0) fresh_state changed_state

-- 02, A6: READ, WRITE and SPACE over marked blocks; "information N minus blocks copied": 1 of 4.
abbrev pub MarkedPlates : Type 0
MarkedPlates = (all_marked_agree stream_device standing (marked_plates 1) ≡ true) × (all_marked_agree stream_device standing marked_spaces ≡ true)

-- 02, A8: the lock, worked out by hand; and "53/02 stands after the fields check of 1Bh": a load with EOT is a bad field, locked or not.
pub record DoorPlates : Type 0 where
  pub door : DoorPlatesOf stream_device (image 0) (standing 2) fresh_state changed_state
  pub field : all_doors_agree stream_device (image 0) (standing 2) fresh_state changed_state
      (from (locked_at_two stream_device (image 0) (standing 2) fresh_state changed_state) send (load 5) P 2 loaded true locked true
      sense (sense_of 0x70 0x05 0 0x24 0) ∷ []) ≡ true

-- What is asked above can be so: a READ, a WRITE and a WRITE FILEMARK that begin and move an element, a READ that meets an unreadable block, a marked block.
pub record WorkBegins : Type 0 where
  pub read : BeginsAndMoves (standing 0) read_two
  pub write : BeginsAndMoves (standing 3) (sent 0x0a 1 0 0 1 0 0)
  pub filemarks : BeginsAndMoves (standing 3) (sent 0x10 0 0 0 1 0 0)
  pub unreadable : (packet_step unreadable_at_two (standing 2) read_two (replicate 1024 9)).state.sense ≡ unreadable_block 2
  pub marked : IsRecordedAs Marked marked_image 0 (0xa0 ∷ replicate 511 7)
