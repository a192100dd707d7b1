-- The commands of a packet device, each under its first byte; every other first byte is unknown.
-- Assumes nothing.
use Rattle.std.specs.Prelude.{ℕ, List, [], ◌∷◌, if◌then◌else◌}
use Rattle.numbers.specs.Choice.{◌≡ᵇ◌}
use Rattle.opcodes.specs.declared.Command.{Command}
use Rattle.opcodes.specs.declared.Command.TheVariants.{Unknown, TestUnitReady, Rewind, RequestSense, Read, Write, WriteFilemarks, Space}
use Rattle.opcodes.specs.declared.Command.TheVariants.{Inquiry, ModeSelect, ModeSense, LoadUnload, Locate, ReadPosition, PreventAllow}

pub record Supported : Type 0 where
  pub opcode : ℕ
  pub command : Command

infix 70 ◌is◌
abbrev ◌is◌ : ℕ → Command → Supported
o is c = record { opcode = o; command = c }

-- the thirteen commands of 01's "The packet record and answers"; 02, A8: "Add PREVENT/ALLOW MEDIUM REMOVAL (1Eh ..)"
abbrev pub stream_commands : List Supported
stream_commands =
    0x00 is TestUnitReady
    ∷ 0x01 is Rewind
    ∷ 0x03 is RequestSense
    ∷ 0x08 is Read
    ∷ 0x0a is Write
    ∷ 0x10 is WriteFilemarks
    ∷ 0x11 is Space
    ∷ 0x12 is Inquiry
    ∷ 0x15 is ModeSelect
    ∷ 0x1a is ModeSense
    ∷ 0x1b is LoadUnload
    ∷ 0x2b is Locate
    ∷ 0x34 is ReadPosition
    ∷ 0x1e is PreventAllow
    ∷ []

-- 02, A1: the ten commands of the floppy tape device, "blocks by number, no filemarks"; and that of A8
abbrev pub floppy_commands : List Supported
floppy_commands =
    0x00 is TestUnitReady
    ∷ 0x03 is RequestSense
    ∷ 0x08 is Read
    ∷ 0x0a is Write
    ∷ 0x10 is WriteFilemarks
    ∷ 0x12 is Inquiry
    ∷ 0x15 is ModeSelect
    ∷ 0x1a is ModeSense
    ∷ 0x1b is LoadUnload
    ∷ 0x2b is Locate
    ∷ 0x1e is PreventAllow
    ∷ []

abbrev pub look_up : List Supported → ℕ → Command
look_up [] x = Unknown
look_up (c ∷ cs) x = if c.opcode ≡ᵇ x then c.command else look_up cs x

-- 01: "Unknown opcode 5/20/00; the opcode's class comes from a table of 256 entries, one for each first byte."
unfoldable pub stream_command : ℕ → Command
stream_command x = look_up stream_commands x

unfoldable pub floppy_command : ℕ → Command
floppy_command x = look_up floppy_commands x

-- the numbers that a table holds for the commands, those of 01 in the order of their opcodes; 0 is unknown
unfoldable pub command_of_class : ℕ → Command
command_of_class k =
    if k ≡ᵇ 1 then TestUnitReady else
    if k ≡ᵇ 2 then Rewind else
    if k ≡ᵇ 3 then RequestSense else
    if k ≡ᵇ 4 then Read else
    if k ≡ᵇ 5 then Write else
    if k ≡ᵇ 6 then WriteFilemarks else
    if k ≡ᵇ 7 then Space else
    if k ≡ᵇ 8 then Inquiry else
    if k ≡ᵇ 9 then ModeSelect else
    if k ≡ᵇ 10 then ModeSense else
    if k ≡ᵇ 11 then LoadUnload else
    if k ≡ᵇ 12 then Locate else
    if k ≡ᵇ 13 then ReadPosition else
    if k ≡ᵇ 14 then PreventAllow else
    Unknown
