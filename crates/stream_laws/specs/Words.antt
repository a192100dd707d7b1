-- The words in which the demands are stated.
-- Assumes nothing.
use Rattle.std.specs.Prelude.{ℕ, ◌+◌, ◌*◌, ◌-◌, ◌≤◌, ◌<◌, Bool, true, false, ◌||◌, List, ◌≡◌, length, get_or, if◌then◌else◌}
use Rattle.numbers.specs.Choice.{◌≡ᵇ◌}
use Rattle.numbers.specs.Over.{part}
use Rattle.image.specs.declared.elements.Kind.{Kind}
use Rattle.image.specs.declared.elements.Kind.TheVariants.{Data, Filemark, Unreadable}
use Rattle.image.specs.declared.header.Header.{Header}
use Rattle.image.specs.Elements.{recorded_field, kind_at}
use Rattle.image.specs.Header.{fields_of, keeps_header_rules, with_recorded}
use Rattle.image.specs.Sameness.{IsBlock, IsBlockOf, SameElement, Alike, Outside}
use Rattle.opcodes.specs.declared.Command.{Command}
use Rattle.opcodes.specs.declared.Command.TheVariants.{Unknown, TestUnitReady, Rewind, RequestSense, Read, Write, WriteFilemarks, Space, Inquiry}
use Rattle.opcodes.specs.declared.Command.TheVariants.{ModeSelect, ModeSense, LoadUnload, Locate, ReadPosition, PreventAllow}
use Rattle.packet_state.specs.declared.state.Sense.{Sense}
use Rattle.packet_state.specs.declared.state.State.{State}
use Rattle.packet_state.specs.Senses.{no_sense, filemark_detected, unreadable_block, end_of_data, volume_overflow, early_warning}
use Rattle.packet_state.specs.States.{at_place, with_sense}
use Rattle.packet_parts.specs.Answers.{Left, good_status, check_condition}
use Rattle.packet_laws.specs.Words.{number_of, status_of, blocks_of, bytes_of, marked_of, marked_among, gives, Begins}
use Rattle.stream_parts.specs.Requests.{request_of}
use Rattle.stream_parts.specs.Warning.{past_warning}
use Rattle.stream.specs.Packet.{stream_device, packet_step}

-- ---- the work

-- the packet is not refused, and nothing ends it before the work
abbrev pub BeginsWork : List ℕ → State → List ℕ → List ℕ → Type 0
BeginsWork s st packet buf = Begins stream_device s st packet buf

-- the commands that move blocks
pub data Moves : Command → Type 0 where
  by_read : Moves Read
  by_write : Moves Write
  by_filemarks : Moves WriteFilemarks

-- the commands that store on the cartridge: 0Ah, 10h
abbrev pub stores_on : Command → Bool
stores_on Unknown = false
stores_on TestUnitReady = false
stores_on Rewind = false
stores_on RequestSense = false
stores_on Read = false
stores_on Write = true
stores_on WriteFilemarks = true
stores_on Space = false
stores_on Inquiry = false
stores_on ModeSelect = false
stores_on ModeSense = false
stores_on LoadUnload = false
stores_on Locate = false
stores_on ReadPosition = false
stores_on PreventAllow = false

abbrev pub stores : List ℕ → Bool
stores packet = stores_on (request_of packet).command

-- ---- elements of an image

-- element i is recorded data with these bytes
abbrev pub IsRecorded : List ℕ → ℕ → List ℕ → Type 0
IsRecorded s i bytes = IsBlock (fields_of s).recorded s i bytes

-- the same, of this one of the kinds that hold data
abbrev pub IsRecordedAs : Kind → List ℕ → ℕ → List ℕ → Type 0
IsRecordedAs kind s i bytes = IsBlockOf kind (fields_of s).recorded s i bytes

-- element i is below U and of this kind
abbrev pub IsElement : List ℕ → ℕ → Kind → Type 0
IsElement s i kind = (i < (fields_of s).recorded) × (kind_at s (fields_of s).kinds i ≡ kind)

-- the images s and t have one header, and elements that read the same below U
abbrev pub AlikeBelowU : List ℕ → List ℕ → Type 0
AlikeBelowU s t = Alike (fields_of s).recorded s t

-- a READ that moves element i, as its block k, gives these bytes
abbrev pub EveryReadGives : List ℕ → State → ℕ → List ℕ → Type 0
EveryReadGives s st i bytes =
    (packet buf : List ℕ) → BeginsWork s st packet buf → (request_of packet).command ≡ Read
    → (k : ℕ) → k < blocks_of (packet_step s st packet buf) → st.position + k ≡ i
    → part (packet_step s st packet buf).buf (k * (fields_of s).size) (fields_of s).size ≡ bytes

-- ---- how a run ends: status, sense and new P

-- the ways in which a READ of N blocks from place P on ends, after so many blocks
pub data ReadWay (s : List ℕ) (p n blocks : ℕ) : ℕ → Sense → ℕ → Type 0 where
  -- all N are copied
  all_copied : blocks ≡ n → ReadWay s p n blocks good_status no_sense (p + blocks)
  -- "Filemark: P + 1, stop, key 0, filemark, 00/01." "A stop is valid with information N minus blocks copied."
  met_filemark : blocks < n → IsElement s (p + blocks) Filemark → ReadWay s p n blocks check_condition (filemark_detected (n - blocks)) (p + blocks + 1)
  -- "Unreadable: P + 1, stop, 3/11/00."
  met_bad_block : blocks < n → IsElement s (p + blocks) Unreadable → ReadWay s p n blocks check_condition (unreadable_block (n - blocks)) (p + blocks + 1)
  -- "P = U: stop, 8/00/05"; 02, A3: "carries EOM when U > C - W"
  met_end : blocks < n → p + blocks ≡ (fields_of s).recorded
      → ReadWay s p n blocks check_condition (end_of_data (past_warning (fields_of s) (fields_of s).recorded) (n - blocks)) (p + blocks)

abbrev pub ReadEnds : List ℕ → ℕ → ℕ → Left State → Type 0
ReadEnds s p n x = ReadWay s p n (blocks_of x) (status_of x) x.state.sense x.state.position

-- the ways in which a WRITE or WRITE FILEMARK of N elements from place P on ends, after so many
pub data WriteWay (h : Header) (p n blocks : ℕ) : ℕ → Sense → ℕ → Type 0 where
  -- all N are stored, and the new P is not above C - W where N >= 1
  all_stored : blocks ≡ n → (1 ≤ n → p + blocks ≤ h.capacity - h.warning) → WriteWay h p n blocks good_status no_sense (p + blocks)
  -- "If all N >= 1 are stored and P > C - W: CHECK CONDITION, key 0, EOM, 00/02, valid, information 0."
  beyond_warning : blocks ≡ n → 1 ≤ n → h.capacity - h.warning < p + blocks → p + blocks ≤ h.capacity
      → WriteWay h p n blocks check_condition early_warning (p + blocks)
  -- "At P = C: stop, key D, EOM, 00/02, valid, information the rest."
  met_capacity : blocks < n → p + blocks ≡ h.capacity → WriteWay h p n blocks check_condition (volume_overflow (n - blocks)) (p + blocks)

abbrev pub WriteEnds : List ℕ → ℕ → ℕ → Left State → Type 0
WriteEnds s p n x = WriteWay (fields_of s) p n (blocks_of x) (status_of x) x.state.sense x.state.position

-- the elements that a READ passed beside the blocks that it copied, as its sense tells: a filemark, or the unreadable block of key 3
abbrev pub passed_beside : Sense → ℕ
passed_beside x = if x.filemark || (x.key ≡ᵇ 3) then 1 else 0

-- each block that x counts is data of the image s from place p on, and stands whole in x's buffer
abbrev pub CountsData : List ℕ → ℕ → Left State → Type 0
CountsData s p x = (k : ℕ) → k < blocks_of x → IsRecorded s (p + k) (part x.buf (k * (fields_of s).size) (fields_of s).size)

-- ---- what is kept

-- byte m is none of U's four, none of the kinds of the elements moved, none of the block bytes taken
pub record Untouched (h : Header) (st : State) (x : Left State) (m : ℕ) : Type 0 where
  pub not_recorded : Outside recorded_field 4 m
  pub not_kind : Outside (h.kinds + st.position) (blocks_of x) m
  pub not_block : Outside (h.blocks + st.position * h.size) (bytes_of x) m

-- what a packet changes, at most
pub record Kept (s : List ℕ) (st : State) (packet buf : List ℕ) (x : Left State) : Type 0 where
  -- the buffer keeps its length and every byte beyond those filled, and all of them where the command gives none
  pub buf_length : length x.buf ≡ length buf
  pub buf_beyond : (i : ℕ) → bytes_of x ≤ i → get_or x.buf i 0 ≡ get_or buf i 0
  pub buf_kept : gives (request_of packet).command ≡ false → x.buf ≡ buf
  -- the image keeps its length and every byte that belongs to no element stored, and all of them where the command stores none
  pub image_length : length x.image ≡ length s
  pub image_beyond : (m : ℕ) → Untouched (fields_of s) st x m → get_or x.image m 0 ≡ get_or s m 0
  pub image_kept : stores packet ≡ false → x.image ≡ s
  -- "U = new P" where elements were stored
  pub recorded_new : stores packet ≡ true → 1 ≤ blocks_of x → (fields_of x.image).recorded ≡ x.state.position
  -- the elements before the position are as they were
  pub elements_before : (i : ℕ) → i < st.position → SameElement (fields_of s) s x.image i

-- ---- what READ, WRITE and WRITE FILEMARK owe

-- all that 01 and 02, A3 and A6 ask of a READ of N blocks, of any drive: x is what it leaves
pub record GoodRead (s : List ℕ) (st : State) (n : ℕ) (buf : List ℕ) (x : Left State) : Type 0 where
  pub accepted : number_of x ≡ 0
  -- status, sense and new P go by the blocks, which are data; the bytes by the blocks, and those marked by their kinds
  pub ends : ReadEnds s st.position n x
  pub counts : CountsData s st.position x
  pub bytes : bytes_of x ≡ blocks_of x * (fields_of s).size
  pub marked : marked_of x ≡ marked_among (part s ((fields_of s).kinds + st.position) (blocks_of x))
  -- the rest stays
  pub state_kept : x.state ≡ with_sense (at_place st x.state.position) x.state.sense
  pub image_kept : x.image ≡ s
  pub buf_length : length x.buf ≡ length buf
  pub buf_beyond : (i : ℕ) → bytes_of x ≤ i → get_or x.buf i 0 ≡ get_or buf i 0

-- all that 01 and 02, A6 ask of a WRITE or WRITE FILEMARK of N elements, of any drive: x is what it leaves. `Holds` says what element P + j is then, and
-- `each` how many bytes of the buffer it takes.
pub record GoodWrite (Holds : List ℕ → ℕ → Type 0) (each : ℕ) (s : List ℕ) (st : State) (n : ℕ) (buf : List ℕ) (x : Left State) : Type 0 where
  pub accepted : number_of x ≡ 0
  -- status, sense and new P go by the blocks, which are stored; "U = new P"; the bytes by the blocks
  pub ends : WriteEnds s st.position n x
  pub stored : (j : ℕ) → j < blocks_of x → Holds x.image j
  pub recorded : 1 ≤ blocks_of x → fields_of x.image ≡ with_recorded (fields_of s) x.state.position
  pub bytes : bytes_of x ≡ blocks_of x * each
  pub no_marked : marked_of x ≡ 0
  -- the rest stays
  pub state_kept : x.state ≡ with_sense (at_place st x.state.position) x.state.sense
  pub image_good : keeps_header_rules x.image ≡ true
  pub image_kept : blocks_of x ≡ 0 → x.image ≡ s
  pub elements_before : (i : ℕ) → i < st.position → SameElement (fields_of s) s x.image i
  pub image_length : length x.image ≡ length s
  pub image_beyond : (m : ℕ) → Untouched (fields_of s) st x m → get_or x.image m 0 ≡ get_or s m 0
  pub buf_kept : x.buf ≡ buf

-- WRITE: block j of the buffer, as data, of kind 1; WRITE FILEMARK: a filemark
abbrev pub BlocksGood : List ℕ → State → ℕ → List ℕ → Left State → Type 0
BlocksGood s st n buf x =
    GoodWrite (λ t j. IsRecordedAs Data t (st.position + j) (part buf (j * (fields_of s).size) (fields_of s).size)) (fields_of s).size s st n buf x

abbrev pub MarksGood : List ℕ → State → ℕ → List ℕ → Left State → Type 0
MarksGood s st n buf x = GoodWrite (λ t j. IsElement t (st.position + j) Filemark) 0 s st n buf x

-- x and y are the same, but for what their images have at U and above
pub record SameBelowU (x y : Left State) : Type 0 where
  pub answer : x.answer ≡ y.answer
  pub state : x.state ≡ y.state
  pub buf : x.buf ≡ y.buf
  pub images : AlikeBelowU x.image y.image
