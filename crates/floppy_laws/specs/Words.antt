-- The words in which the promises of the floppy tape device are stated.
-- Assumes nothing.
use Rattle.std.specs.Prelude.{ℕ, ◌+◌, ◌*◌, ◌-◌, ◌≤◌, ◌<◌, false, List, ◌≡◌, length, get_or}
use Rattle.numbers.specs.Over.{part}
use Rattle.image.specs.declared.elements.Kind.{Kind}
use Rattle.image.specs.declared.header.Header.{Header}
use Rattle.image.specs.Elements.{kind_at, holds_data}
use Rattle.image.specs.Header.{fields_of}
use Rattle.image.specs.Sameness.{IsBlock, IsBlockOf, SameElement, Outside}
use Rattle.opcodes.specs.declared.Command.TheVariants.{Read, Write}
use Rattle.packet_state.specs.declared.state.Sense.{Sense}
use Rattle.packet_state.specs.Senses.{no_sense, unreadable_block, end_of_data, volume_overflow}
use Rattle.packet_state.specs.States.{at_place, with_sense}
use Rattle.packet_parts.specs.Answers.{Left, good_status, check_condition}
use Rattle.packet_laws.specs.Words.{status_of, blocks_of, bytes_of, gives, Begins}
use Rattle.floppy_parts.specs.declared.tape.Floppy.{Floppy}
use Rattle.floppy_parts.specs.Requests.{floppy_request}
use Rattle.floppy_parts.specs.Replies.{tape_page, tape_page_length}
use Rattle.floppy_parts.specs.Tape.{product, page_byte, listed_tape, floppy_of}
use Rattle.floppy.specs.Packet.{floppy_device, floppy_step}

-- ---- the record

abbrev pub place_of : Floppy → ℕ
place_of f = f.shared.position

-- the blocks that the device has
abbrev pub end_of : Floppy → ℕ
end_of f = product f.tape

abbrev pub sense_in : Left Floppy → Sense
sense_in x = x.state.shared.sense

-- the record f with the place and the sense that x leaves
abbrev pub moved_to : Floppy → Left Floppy → Floppy
moved_to f x = floppy_of (with_sense (at_place f.shared (place_of x.state)) (sense_in x)) f.tape

-- ---- the work

-- the packet is not refused, and nothing ends it before the work
abbrev pub BeginsWork : List ℕ → Floppy → List ℕ → List ℕ → Type 0
BeginsWork s f packet buf = Begins floppy_device s f packet buf

-- "its list has 28 bytes": page bytes, and a product of at most C
pub record TakesList (h : Header) (list : List ℕ) : Type 0 where
  pub code : page_byte list 0 ≡ tape_page
  pub after : page_byte list 1 ≡ tape_page_length
  pub within : product (listed_tape list) ≤ h.capacity

-- ---- elements of an image

-- element i holds data: these bytes
abbrev pub IsData : List ℕ → ℕ → List ℕ → Type 0
IsData s i bytes = IsBlock (fields_of s).capacity s i bytes

-- the same, of this one of the kinds that hold data
abbrev pub IsDataAs : Kind → List ℕ → ℕ → List ℕ → Type 0
IsDataAs kind s i bytes = IsBlockOf kind (fields_of s).capacity s i bytes

-- element i is below the product and holds no data: "kind 2 counts as unreadable"
abbrev pub Unreadable : List ℕ → Floppy → ℕ → Type 0
Unreadable s f i = (i < end_of f) × (holds_data (kind_at s (fields_of s).kinds i) ≡ false)

-- a READ that moves element i, as its block k, gives these bytes
abbrev pub EveryReadGives : List ℕ → Floppy → ℕ → List ℕ → Type 0
EveryReadGives s f i bytes =
    (packet buf : List ℕ) → BeginsWork s f packet buf → (floppy_request packet).command ≡ Read
    → (k : ℕ) → k < blocks_of (floppy_step s f packet buf) → place_of f + k ≡ i
    → part (floppy_step s f packet buf).buf (k * (fields_of s).size) (fields_of s).size ≡ bytes

-- ---- how a run ends: status, sense and new P

-- the ways in which a READ of n blocks from place p on ends, after so many blocks
pub data ReadWay (s : List ℕ) (f : Floppy) (p n blocks : ℕ) : ℕ → Sense → ℕ → Type 0 where
  all_copied : blocks ≡ n → ReadWay s f p n blocks good_status no_sense (p + blocks)
  -- "Its residue on an unreadable block leaves out the block in error"
  met_bad_block : blocks < n → Unreadable s f (p + blocks) → ReadWay s f p n blocks check_condition (unreadable_block (n - blocks - 1)) (p + blocks + 1)
  -- "Reads .. stop at the product as the stream device does at U"; "W plays no part": no EOM
  met_end : blocks < n → p + blocks ≡ end_of f → ReadWay s f p n blocks check_condition (end_of_data false (n - blocks)) (p + blocks)

abbrev pub ReadEnds : List ℕ → Floppy → ℕ → Left Floppy → Type 0
ReadEnds s f n x = ReadWay s f (place_of f) n (blocks_of x) (status_of x) (sense_in x) (place_of x.state)

-- the ways in which a WRITE of n blocks from place p on ends, after so many; "W plays no part"
pub data WriteWay (f : Floppy) (p n blocks : ℕ) : ℕ → Sense → ℕ → Type 0 where
  all_stored : blocks ≡ n → p + blocks ≤ end_of f → WriteWay f p n blocks good_status no_sense (p + blocks)
  -- "writes stop at the product as the stream device does .. at C"
  met_end : blocks < n → p + blocks ≡ end_of f → WriteWay f p n blocks check_condition (volume_overflow (n - blocks)) (p + blocks)

abbrev pub WriteEnds : Floppy → ℕ → Left Floppy → Type 0
WriteEnds f n x = WriteWay f (place_of f) n (blocks_of x) (status_of x) (sense_in x) (place_of x.state)

-- a READ of n blocks stopped at a block that it could not read
pub record StoppedAtBadBlock (s : List ℕ) (f : Floppy) (n : ℕ) (x : Left Floppy) : Type 0 where
  pub short : blocks_of x < n
  pub bad : Unreadable s f (place_of f + blocks_of x)

-- ---- what is kept

-- byte m is none of the kinds of the elements moved, none of the block bytes taken
pub record Untouched (h : Header) (f : Floppy) (x : Left Floppy) (m : ℕ) : Type 0 where
  pub not_kind : Outside (h.kinds + place_of f) (blocks_of x) m
  pub not_block : Outside (h.blocks + place_of f * h.size) (bytes_of x) m

-- what a packet changes, at most
pub record Kept (s : List ℕ) (f : Floppy) (packet buf : List ℕ) (x : Left Floppy) : Type 0 where
  -- the buffer keeps its length and every byte beyond those filled, and all of them where the command gives none
  pub buf_length : length x.buf ≡ length buf
  pub buf_beyond : (i : ℕ) → bytes_of x ≤ i → get_or x.buf i 0 ≡ get_or buf i 0
  pub buf_kept : gives (floppy_request packet).command ≡ false → x.buf ≡ buf
  -- the image keeps its length and every byte that belongs to no block written, and all of them where the command is no WRITE
  pub image_length : length x.image ≡ length s
  pub image_beyond : (m : ℕ) → Untouched (fields_of s) f x m → get_or x.image m 0 ≡ get_or s m 0
  pub image_kept : ((floppy_request packet).command ≡ Write → ⊥) → x.image ≡ s
  -- the elements before and after those written are as they were
  pub elements_kept : (i : ℕ) → i < (fields_of s).capacity → Outside (place_of f) (blocks_of x) i → SameElement (fields_of s) s x.image i
