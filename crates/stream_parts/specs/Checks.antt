-- What each command of the stream device asks before its work.
-- Assumes nothing.
use Rattle.std.specs.Prelude.{ℕ, min, Bool, false, not, ◌&&◌, ◌||◌}
use Rattle.numbers.specs.Choice.{◌≡ᵇ◌}
use Rattle.image.specs.declared.header.Header.{Header}
use Rattle.opcodes.specs.declared.Command.{Command}
use Rattle.opcodes.specs.declared.Command.TheVariants.{Unknown, TestUnitReady, Rewind, RequestSense, Read, Write, WriteFilemarks, Space, Inquiry}
use Rattle.opcodes.specs.declared.Command.TheVariants.{ModeSelect, ModeSense, LoadUnload, Locate, ReadPosition, PreventAllow}
use Rattle.packet_parts.specs.declared.requests.Request.{Request}
use Rattle.packet_parts.specs.declared.verdicts.Asked.{Asked}
use Rattle.packet_parts.specs.Replies.{sense_length, inquiry_length, header_alone, device_page, short_list, full_list}
use Rattle.packet_parts.specs.Requests.{fixed_blocks, page_code, load_bit, block_bytes}
use Rattle.packet_parts.specs.Verdicts.{no_command, always, settings, loading, on_tape, storing}
use Rattle.stream_parts.specs.Replies.{mode_length, position_length}
use Rattle.stream_parts.specs.Requests.{space_code, over_blocks, over_filemarks, to_end_of_data, eot_bit, partition_bit}

-- 11h: "Other codes 24/00."
abbrev pub bad_code : ℕ → Bool
bad_code code = not ((code ≡ᵇ over_blocks) || (code ≡ᵇ over_filemarks) || (code ≡ᵇ to_end_of_data))

-- 15h: "list length (byte 4, a field) 0, 12 or 32, else 5/1A/00"
abbrev pub bad_length : ℕ → Bool
bad_length n = not ((n ≡ᵇ 0) || (n ≡ᵇ short_list) || (n ≡ᵇ full_list))

-- 1Ah: "page (byte 2, six bits) 00h or 2Ah, else 24/00"
abbrev pub bad_page : ℕ → Bool
bad_page page = not ((page ≡ᵇ header_alone) || (page ≡ᵇ device_page))

-- by command: a bad field, a bad list length, whether it unloads, the room needed. 08h, 0Ah: "byte 1 bit 0 must be 1"; 1Bh: "Load with EOT 24/00.", and with
-- the load bit clear it unloads; 2Bh: "byte 1 bit 1 set 24/00"; 02, A8: "1Eh has no not-ready check"
unfoldable pub asked_by : Command → Header → Request → Asked
asked_by Unknown h q = no_command
asked_by TestUnitReady h q = on_tape false 0
asked_by Rewind h q = on_tape false 0
asked_by RequestSense h q = always (min q.length sense_length)
asked_by Read h q = on_tape (not (fixed_blocks q)) (block_bytes h q.count)
asked_by Write h q = storing (not (fixed_blocks q)) (block_bytes h q.count)
asked_by WriteFilemarks h q = storing false 0
asked_by Space h q = on_tape (bad_code (space_code q)) 0
asked_by Inquiry h q = always (min q.length inquiry_length)
asked_by ModeSelect h q = settings false (bad_length q.length) q.length
asked_by ModeSense h q = settings (bad_page (page_code q)) false (min q.length (mode_length q))
asked_by LoadUnload h q = loading (load_bit q && eot_bit q) (not (load_bit q))
asked_by Locate h q = on_tape (partition_bit q) 0
asked_by ReadPosition h q = on_tape false position_length
asked_by PreventAllow h q = settings false false 0
