-- The words in which the promises of a packet device are stated.
-- Assumes nothing.
use Rattle.std.specs.Prelude.{ℕ, ◌+◌, ◌≤◌, ◌<◌, Bool, true, false, List, [], ◌∷◌, ◌≡◌, length, if◌then◌else◌}
use Rattle.numbers.specs.Choice.{◌≡ᵇ◌}
use Rattle.image.specs.Header.{fields_of, broken_image}
use Rattle.opcodes.specs.declared.Command.{Command}
use Rattle.opcodes.specs.declared.Command.TheVariants.{Unknown, TestUnitReady, Rewind, RequestSense, Read, Write, WriteFilemarks, Space, Inquiry}
use Rattle.opcodes.specs.declared.Command.TheVariants.{ModeSelect, ModeSense, LoadUnload, Locate, ReadPosition, PreventAllow}
use Rattle.packet_state.specs.declared.state.Attention.TheVariants.{Nothing}
use Rattle.packet_state.specs.declared.state.Sense.{Sense}
use Rattle.packet_state.specs.declared.state.State.{State}
use Rattle.packet_state.specs.declared.state.Verdict.TheVariants.{Works}
use Rattle.packet_parts.specs.Answers.{Left, answered, not_twelve_bytes, unruly_record, short_buffer}
use Rattle.packet_parts.specs.Replies.{device_page, short_list, full_list}
use Rattle.packet_parts.specs.Requests.{packet_length, page_code, load_bit}
use Rattle.packet_parts.specs.Shell.{Device, found_by, ends_first, answers_to}

-- ---- an answer's parts

abbrev pub number_of : {R : Type 0} → Left R → ℕ
number_of x = x.answer.number

abbrev pub status_of : {R : Type 0} → Left R → ℕ
status_of x = x.answer.status

abbrev pub blocks_of : {R : Type 0} → Left R → ℕ
blocks_of x = x.answer.blocks

abbrev pub bytes_of : {R : Type 0} → Left R → ℕ
bytes_of x = x.answer.bytes

abbrev pub marked_of : {R : Type 0} → Left R → ℕ
marked_of x = x.answer.marked

-- the information where the sense is valid, else 0
abbrev pub residue_of : Sense → ℕ
residue_of x = if x.valid then x.information else 0

-- the commands that give bytes: 03h, 08h, 12h, 1Ah, 34h
abbrev pub gives : Command → Bool
gives Unknown = false
gives TestUnitReady = false
gives Rewind = false
gives RequestSense = true
gives Read = true
gives Write = false
gives WriteFilemarks = false
gives Space = false
gives Inquiry = true
gives ModeSelect = false
gives ModeSense = true
gives LoadUnload = false
gives Locate = false
gives ReadPosition = true
gives PreventAllow = false

-- how many of these bytes of a kind table are 4: 02, A6: "Kind 4 becomes "data, marked"."
abbrev pub marked_among : List ℕ → ℕ
marked_among [] = 0
marked_among (x ∷ xs) = (if x ≡ᵇ 4 then 1 else 0) + marked_among xs

-- ---- refusals

-- 01: "A refusal returns its number, status 0, 0 blocks and bytes .., and alters nothing"; it tells of no marked block either
pub record Refusal {R : Type 0} (s : List ℕ) (st : R) (buf : List ℕ) (x : Left R) : Type 0 where
  pub status_zero : status_of x ≡ 0
  pub no_blocks : blocks_of x ≡ 0
  pub no_bytes : bytes_of x ≡ 0
  pub no_marked : marked_of x ≡ 0
  pub state_kept : x.state ≡ st
  pub image_kept : x.image ≡ s
  pub buf_kept : x.buf ≡ buf

module _ {R : Type 0} (d : Device R) (s : List ℕ) (st : R) (packet buf : List ℕ) where
  -- the bytes of room that the packet needs
  abbrev pub room_for : ℕ
  room_for = (d.asks (fields_of s) st (d.request packet)).needed

  -- 01: "attention, opcode, fields, not ready, protection", and the lock of 02, A8: one of these ends the packet before refusal 4 is looked at
  abbrev pub Unended : Type 0
  Unended = ends_first d (fields_of s) st (d.request packet) ≡ false

  -- the packet, the image and the record pass 1, 2 and 3
  pub record Passes : Type 0 where
    pub twelve : length packet ≡ packet_length
    pub good : d.accepts s ≡ true
    pub ruly : d.keeps_rules (fields_of s) st ≡ true

  -- 01's table of refusal numbers, each with no earlier one holding; 0 where none is given
  pub data Due : ℕ → Type 0 where
    not_twelve : (length packet ≡ packet_length → ⊥) → Due not_twelve_bytes
    bad_image : length packet ≡ packet_length → d.accepts s ≡ false → Due broken_image
    bad_record : length packet ≡ packet_length → d.accepts s ≡ true → d.keeps_rules (fields_of s) st ≡ false → Due unruly_record
    too_short : Passes → Unended → length buf < room_for → Due short_buffer
    accepted : Passes → (Unended → room_for ≤ length buf) → Due 0

  -- the packet is not refused, and nothing ends it before the work
  pub record Begins : Type 0 where
    pub unrefused : number_of (answers_to d s st packet buf) ≡ 0
    pub works : found_by d (fields_of s) st (d.request packet) (length buf) ≡ Works

  -- 1Ah of page 2Ah that begins, and asks for the first n bytes of the page, which stands after the header
  pub record AsksPage (n : ℕ) : Type 0 where
    pub begins : Begins
    pub mode_sense : (d.request packet).command ≡ ModeSense
    pub page : page_code (d.request packet) ≡ device_page
    pub asked : short_list + n ≤ (d.request packet).length

  -- ---- 02, A2: the speed

  -- "MODE SENSE bytes 14-15": it asks for all up to byte 15 of the page
  abbrev pub AsksSpeed : Type 0
  AsksSpeed = AsksPage 16

  -- "by 15h": with a list of 32 bytes that begins
  pub record SendsSpeed : Type 0 where
    pub begins : Begins
    pub mode_select : (d.request packet).command ≡ ModeSelect
    pub whole : (d.request packet).length ≡ full_list

  -- ---- 02, A8: the lock

  -- "Page 2Ah shows .. in byte 6": it asks for all up to that byte
  abbrev pub AsksDoor : Type 0
  AsksDoor = AsksPage 7

  -- "Unloading": 1Bh with the load bit clear, past 1, 2 and 3 and with no attention pending
  pub record Unloads : Type 0 where
    pub passes : Passes
    pub attended : (d.shared st).attention ≡ Nothing
    pub load_unload : (d.request packet).command ≡ LoadUnload
    pub load_clear : load_bit (d.request packet) ≡ false

  -- "PREVENT/ALLOW MEDIUM REMOVAL (1Eh ..)", past 1, 2 and 3 and with no attention pending
  pub record Locks : Type 0 where
    pub passes : Passes
    pub attended : (d.shared st).attention ≡ Nothing
    pub prevent_allow : (d.request packet).command ≡ PreventAllow

  -- what is left where the packet ends with this status and moves nothing, and of the record the shared part is new
  abbrev pub leaves_only : ℕ → State → Left R
  leaves_only status next = record { answer = answered status 0 0; state = d.with_shared st next; image = s; buf = buf }

-- the device's work refuses nothing: a packet that comes to it is given 0
pub record Working {R : Type 0} (d : Device R) : Type 0 where
  pub accepted : (s : List ℕ) (st : R) (packet buf : List ℕ) → Passes d s st packet buf → room_for d s st packet buf ≤ length buf
      → number_of (d.work s (fields_of s) st (d.request packet) buf) ≡ 0
