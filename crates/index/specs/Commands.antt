-- 02, A4: the packets for which the entries answer.
-- Assumes nothing.
use Rattle.std.specs.Prelude.{Bool, true, false, ◌&&◌}
use Rattle.numbers.specs.Choice.{◌≡ᵇ◌}
use Rattle.opcodes.specs.declared.Command.{Command}
use Rattle.opcodes.specs.declared.Command.TheVariants.{Unknown, TestUnitReady, Rewind, RequestSense, Read, Write, WriteFilemarks, Space, Inquiry}
use Rattle.opcodes.specs.declared.Command.TheVariants.{ModeSelect, ModeSense, LoadUnload, Locate, ReadPosition, PreventAllow}
use Rattle.packet_state.specs.declared.state.Verdict.{Verdict}
use Rattle.packet_state.specs.declared.state.Verdict.TheVariants.{Refuses, Ends, Works}
use Rattle.packet_parts.specs.declared.requests.Request.{Request}
use Rattle.stream_parts.specs.Requests.{space_code, over_filemarks}

abbrev pub is_space : Command → Bool
is_space Unknown = false
is_space TestUnitReady = false
is_space Rewind = false
is_space RequestSense = false
is_space Read = false
is_space Write = false
is_space WriteFilemarks = false
is_space Space = true
is_space Inquiry = false
is_space ModeSelect = false
is_space ModeSense = false
is_space LoadUnload = false
is_space Locate = false
is_space ReadPosition = false
is_space PreventAllow = false

-- nothing ends or refuses the packet before its work
abbrev pub is_work : Verdict → Bool
is_work (Refuses number) = false
is_work (Ends sense) = false
is_work Works = true

-- "SPACE over filemarks" that comes to its work
abbrev pub by_entries : Verdict → Request → Bool
by_entries v q = is_work v && is_space q.command && (space_code q ≡ᵇ over_filemarks)
