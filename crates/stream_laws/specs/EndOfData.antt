-- 02, A3, "End of data near the end of tape": the drive as it was before, and what 8/00/05 carries now.
-- Assumes nothing.
use Rattle.std.specs.Prelude.{ℕ, Bool, true, false, ◌&&◌, List, if◌then◌else◌}
use Rattle.numbers.specs.Choice.{◌≡ᵇ◌}
use Rattle.image.specs.declared.header.Header.{Header}
use Rattle.image.specs.Header.{with_warning}
use Rattle.opcodes.specs.declared.Command.{Command}
use Rattle.opcodes.specs.declared.Command.TheVariants.{Unknown, TestUnitReady, Rewind, RequestSense, Read, Write, WriteFilemarks, Space, Inquiry}
use Rattle.opcodes.specs.declared.Command.TheVariants.{ModeSelect, ModeSense, LoadUnload, Locate, ReadPosition, PreventAllow}
use Rattle.packet_state.specs.declared.state.State.{State}
use Rattle.packet_state.specs.Senses.{with_eom}
use Rattle.packet_state.specs.States.{with_sense}
use Rattle.packet_parts.specs.Answers.{Left, check_condition}
use Rattle.packet_parts.specs.Shell.{Device, with_work, answers_to}
use Rattle.packet_laws.specs.Words.{status_of}
use Rattle.stream_parts.specs.Warning.{past_warning}
use Rattle.stream.specs.Packet.{stream_device}
use Rattle.stream.specs.Work.{work_of}

-- ---- before A3

-- the commands for which 01 names W: 0Ah, 10h, 34h
abbrev pub asks_warning : Command → Bool
asks_warning Unknown = false
asks_warning TestUnitReady = false
asks_warning Rewind = false
asks_warning RequestSense = false
asks_warning Read = false
asks_warning Write = true
asks_warning WriteFilemarks = true
asks_warning Space = false
asks_warning Inquiry = false
asks_warning ModeSelect = false
asks_warning ModeSense = false
asks_warning LoadUnload = false
asks_warning Locate = false
asks_warning ReadPosition = true
asks_warning PreventAllow = false

-- every other command was answered as if W were 0
abbrev pub seen_before : Command → Header → Header
seen_before c h = if asks_warning c then h else with_warning h 0

-- the stream device without A3
abbrev pub device_before : Device State
device_before = with_work stream_device (λ s h st q buf. work_of q.command s (seen_before q.command h) st q buf)

abbrev pub step_before : List ℕ → State → List ℕ → List ℕ → Left State
step_before s st packet buf = answers_to device_before s st packet buf

-- ---- now

-- "on READ and SPACE"
abbrev pub reads_or_spaces : Command → Bool
reads_or_spaces Unknown = false
reads_or_spaces TestUnitReady = false
reads_or_spaces Rewind = false
reads_or_spaces RequestSense = false
reads_or_spaces Read = true
reads_or_spaces Write = false
reads_or_spaces WriteFilemarks = false
reads_or_spaces Space = true
reads_or_spaces Inquiry = false
reads_or_spaces ModeSelect = false
reads_or_spaces ModeSense = false
reads_or_spaces LoadUnload = false
reads_or_spaces Locate = false
reads_or_spaces ReadPosition = false
reads_or_spaces PreventAllow = false

-- the key of 8/00/05, which no other sense has
abbrev pub blank_check : ℕ
blank_check = 8

-- the packet ended with 8/00/05
abbrev pub tells_end : Left State → Bool
tells_end x = (status_of x ≡ᵇ check_condition) && (x.state.sense.key ≡ᵇ blank_check)

-- what a packet leaves, with this EOM in its sense
abbrev pub showing : Bool → Left State → Left State
showing eom x = record { answer = x.answer; state = with_sense x.state (with_eom x.state.sense eom); image = x.image; buf = x.buf }

-- "So 8/00/05 on READ and SPACE carries EOM when U > C - W."; all else of x stays
abbrev pub carrying_eom : Command → Header → Left State → Left State
carrying_eom c h x = if reads_or_spaces c && tells_end x then showing (past_warning h h.recorded) x else x
