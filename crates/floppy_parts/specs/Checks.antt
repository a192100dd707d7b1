-- What each command of the floppy tape device asks before its work.
-- Assumes nothing.
use Rattle.std.specs.Prelude.{ℕ, min, Bool, false, not, ◌||◌}
use Rattle.numbers.specs.Choice.{◌≡ᵇ◌, ◌≤ᵇ◌}
use Rattle.image.specs.declared.header.Header.{Header}
use Rattle.opcodes.specs.declared.Command.{Command}
use Rattle.opcodes.specs.declared.Command.TheVariants.{Unknown, TestUnitReady, Rewind, RequestSense, Read, Write, WriteFilemarks, Space, Inquiry}
use Rattle.opcodes.specs.declared.Command.TheVariants.{ModeSelect, ModeSense, LoadUnload, Locate, ReadPosition, PreventAllow}
use Rattle.packet_parts.specs.declared.requests.Request.{Request}
use Rattle.packet_parts.specs.declared.verdicts.Asked.{Asked}
use Rattle.packet_parts.specs.Replies.{sense_length, inquiry_length, header_alone, device_page, short_list, full_list}
use Rattle.packet_parts.specs.Requests.{fixed_blocks, page_code, load_bit, block_bytes}
use Rattle.packet_parts.specs.Verdicts.{no_command, always, settings, loading, on_tape, storing}
use Rattle.floppy_parts.specs.Replies.{tape_page, tape_list, mode_length}
use Rattle.floppy_parts.specs.Requests.{blocks_asked, block_number}

-- 15h: "list length (byte 4, a field) 0, 12 or 32, else 5/1A/00", and page 2Bh's: "its list has 28 bytes"
abbrev pub bad_length : ℕ → Bool
bad_length n = not ((n ≡ᵇ 0) || (n ≡ᵇ short_list) || (n ≡ᵇ tape_list) || (n ≡ᵇ full_list))

-- 1Ah: "page (byte 2, six bits) 00h or 2Ah, else 24/00", and 2Bh
abbrev pub bad_page : ℕ → Bool
bad_page page = not ((page ≡ᵇ header_alone) || (page ≡ᵇ device_page) || (page ≡ᵇ tape_page))

-- by command: a bad field, a bad list length, whether it unloads, the room needed. 08h, 0Ah: "byte 1 bit 0 must be 1"; 1Bh unloads with the load bit clear;
-- 2Bh: "LOCATE runs to BSEG*SEGTRK*TRKS - 1 .. a locate past the last block is 5/24/00", where the product is `end`; A8: "1Eh has no not-ready check"; 01h,
-- 11h and 34h are no commands of this device
unfoldable pub asked_by : Command → Header → ℕ → Request → Asked
asked_by Unknown h end q = no_command
asked_by TestUnitReady h end q = on_tape false 0
asked_by Rewind h end q = no_command
asked_by RequestSense h end q = always (min q.length sense_length)
asked_by Read h end q = on_tape (not (fixed_blocks q)) (block_bytes h (blocks_asked q))
asked_by Write h end q = storing (not (fixed_blocks q)) (block_bytes h (blocks_asked q))
asked_by WriteFilemarks h end q = storing false 0
asked_by Space h end q = no_command
asked_by Inquiry h end q = always (min q.length inquiry_length)
asked_by ModeSelect h end q = settings false (bad_length q.length) q.length
asked_by ModeSense h end q = settings (bad_page (page_code q)) false (min q.length (mode_length q))
asked_by LoadUnload h end q = loading false (not (load_bit q))
asked_by Locate h end q = on_tape (end ≤ᵇ block_number q) 0
asked_by ReadPosition h end q = no_command
asked_by PreventAllow h end q = settings false false 0
