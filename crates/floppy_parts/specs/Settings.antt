-- 02, A1: what sets the tape parameters.
-- Assumes nothing.
use Rattle.std.specs.Prelude.{ℕ, Bool, ◌&&◌, List, if◌then◌else◌}
use Rattle.numbers.specs.Choice.{◌≡ᵇ◌, ◌≤ᵇ◌}
use Rattle.image.specs.declared.header.Header.{Header}
use Rattle.opcodes.specs.declared.Command.{Command}
use Rattle.opcodes.specs.declared.Command.TheVariants.{Unknown, TestUnitReady, Rewind, RequestSense, Read, Write, WriteFilemarks, Space, Inquiry}
use Rattle.opcodes.specs.declared.Command.TheVariants.{ModeSelect, ModeSense, LoadUnload, Locate, ReadPosition, PreventAllow}
use Rattle.packet_parts.specs.declared.requests.Request.{Request}
use Rattle.packet_parts.specs.Requests.{load_bit}
use Rattle.floppy_parts.specs.declared.tape.Tape.{Tape}
use Rattle.floppy_parts.specs.Replies.{tape_page, tape_page_length, tape_list}
use Rattle.floppy_parts.specs.Tape.{product, page_byte, reset_tape, listed_tape}

-- page 2Bh, "a list that makes the product exceed C is 5/26/00"
unfoldable pub good_tape_list : Header → List ℕ → Bool
good_tape_list h list =
    (page_byte list 0 ≡ᵇ tape_page) && (page_byte list 1 ≡ᵇ tape_page_length) && (product (listed_tape list) ≤ᵇ h.capacity)

-- ---- the tape parameters after a packet

-- "page 2Bh is read and set": by a good list of 28 bytes
unfoldable pub selected_tape : Header → Tape → ℕ → List ℕ → Tape
selected_tape h t asked list = if (asked ≡ᵇ tape_list) && good_tape_list h list then listed_tape list else t

-- "After a load .. BSEG is 1, SEGTRK C, TRKS 1 and the rest 0"
unfoldable pub loaded_tape : Header → Tape → Bool → Tape
loaded_tape h t load = if load then reset_tape h.capacity else t

unfoldable pub tape_after : Command → Header → Tape → Request → List ℕ → Tape
tape_after Unknown h t q list = t
tape_after TestUnitReady h t q list = t
tape_after Rewind h t q list = t
tape_after RequestSense h t q list = t
tape_after Read h t q list = t
tape_after Write h t q list = t
tape_after WriteFilemarks h t q list = t
tape_after Space h t q list = t
tape_after Inquiry h t q list = t
tape_after ModeSelect h t q list = selected_tape h t q.length list
tape_after ModeSense h t q list = t
tape_after LoadUnload h t q list = loaded_tape h t (load_bit q)
tape_after Locate h t q list = t
tape_after ReadPosition h t q list = t
tape_after PreventAllow h t q list = t
