-- The work of a packet that begins, under its command.
-- Assumes nothing.
use Prim.Native.Nat.{ℕ, ◌≤◌}
use mathlib.Core.List.{List}
use mathlib.Core.Path.{◌≡◌}
use lib.ListN.{length}
use Rattle.image.specs.Header.{fields_of}
use Rattle.opcodes.specs.declared.Command.{Command}
use Rattle.packet_laws.proofs.Refusals.{begins-room, begins-work}
use Rattle.floppy_parts.specs.declared.tape.Floppy.{Floppy}
use Rattle.floppy_parts.specs.Checks.{asked_by}
use Rattle.floppy_parts.specs.Requests.{floppy_request}
use Rattle.floppy_parts.specs.Tape.{product, beside}
use Rattle.floppy_parts.specs.Settings.{tape_after}
use Rattle.floppy.specs.Packet.{floppy_device, floppy_step}
use Rattle.floppy.specs.Work.{work_of}
use Rattle.floppy_laws.specs.Words.{BeginsWork}

module _ (s : List ℕ) (f : Floppy) (packet buf : List ℕ) (b : BeginsWork s f packet buf) where
  pub step_is : (c : Command) → (floppy_request packet).command ≡ c
      → floppy_step s f packet buf
      ≡ beside (work_of c s (fields_of s) f.shared f.tape (floppy_request packet) buf) (tape_after c (fields_of s) f.tape (floppy_request packet) buf)
  step_is c e = rw (← e) (begins-work floppy_device s f packet buf b)

  pub room_is : (c : Command) → (floppy_request packet).command ≡ c
      → (asked_by c (fields_of s) (product f.tape) (floppy_request packet)).needed ≤ length buf
  room_is c e = rw (← e) (begins-room floppy_device s f packet buf b)
