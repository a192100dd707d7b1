-- The work of a packet that begins, and "blocks moved plus residue equal blocks asked", command by command.
-- Assumes nothing.
use Prim.Native.Nat.{ℕ, ◌+◌, ◌≤◌}
use mathlib.Core.Bool.{true, false≢true}
use mathlib.Core.List.{List}
use mathlib.Core.Path.{◌≡◌}
use lib.ListN.{length}
use Rattle.image.specs.Header.{fields_of}
use Rattle.opcodes.specs.declared.Command.{Command}
use Rattle.opcodes.specs.declared.Command.TheVariants.{Unknown, TestUnitReady, Rewind, RequestSense, Read, Write, WriteFilemarks, Space, Inquiry}
use Rattle.opcodes.specs.declared.Command.TheVariants.{ModeSelect, ModeSense, LoadUnload, Locate, ReadPosition, PreventAllow}
use Rattle.transfer.proofs.ReadLaws.{read-ended}
use Rattle.transfer.proofs.WriteLaws.{lay-ended}
use Rattle.packet_state.specs.declared.state.State.{State}
use Rattle.packet_parts.specs.declared.requests.Request.{Request}
use Rattle.packet_laws.specs.Words.{blocks_of, residue_of}
use Rattle.packet_laws.proofs.Endings.{ends_is}
use Rattle.packet_laws.proofs.Refusals.{begins-room, begins-work}
use Rattle.stream_parts.specs.Checks.{asked_by}
use Rattle.stream_parts.specs.Requests.{request_of}
use Rattle.stream.specs.Packet.{stream_device, packet_step}
use Rattle.stream.specs.Work.{work_of, read_work, read_ends, write_work, write_ends, mark_work}
use Rattle.stream_laws.specs.Words.{BeginsWork, Moves, by_read, by_write, by_filemarks, stores_on}
use Rattle.stream_laws.specs.Demands.{MovedPlusResidue}
use Rattle.stream_laws.proofs.Endings.{read_residue, write_residue}

module _ (s : List ℕ) (st : State) (packet buf : List ℕ) (b : BeginsWork s st packet buf) where
  -- the packet's outcome under its command
  pub step_is : (c : Command) → (request_of packet).command ≡ c → packet_step s st packet buf ≡ work_of c s (fields_of s) st (request_of packet) buf
  step_is c e = rw (← e) (begins-work stream_device s st packet buf b)

  pub room_is : (c : Command) → (request_of packet).command ≡ c → (asked_by c (fields_of s) (request_of packet)).needed ≤ length buf
  room_is c e = rw (← e) (begins-room stream_device s st packet buf b)

-- what both commands that store have
pub by_store : (P : Command → Type 0) → P Write → P WriteFilemarks → (c : Command) → stores_on c ≡ true → P c
by_store P a b Write e = a
by_store P a b WriteFilemarks e = b
by_store P a b Unknown e = absurd (false≢true e)
by_store P a b TestUnitReady e = absurd (false≢true e)
by_store P a b Rewind e = absurd (false≢true e)
by_store P a b RequestSense e = absurd (false≢true e)
by_store P a b Read e = absurd (false≢true e)
by_store P a b Space e = absurd (false≢true e)
by_store P a b Inquiry e = absurd (false≢true e)
by_store P a b ModeSelect e = absurd (false≢true e)
by_store P a b ModeSense e = absurd (false≢true e)
by_store P a b LoadUnload e = absurd (false≢true e)
by_store P a b Locate e = absurd (false≢true e)
by_store P a b ReadPosition e = absurd (false≢true e)
by_store P a b PreventAllow e = absurd (false≢true e)

moved_by : (s : List ℕ) (st : State) (q : Request) (buf : List ℕ) {c : Command} → Moves c
    → blocks_of (work_of c s (fields_of s) st q buf) + residue_of (work_of c s (fields_of s) st q buf).state.sense ≡ q.count
unfolding work_of read_work read_ends write_work write_ends mark_work
moved_by s st q buf by_read =
    let h = fields_of s in
    simp ends_is (read_residue h q.count _ (read-ended s h.size h.kinds h.blocks h.recorded q.count 0 st.position buf))
moved_by s st q buf by_write =
    let h = fields_of s in
    simp ends_is (write_residue h q.count _ (lay-ended _ _ _ q.count 0 st.position s))
moved_by s st q buf by_filemarks =
    let h = fields_of s in
    simp ends_is (write_residue h q.count _ (lay-ended _ _ _ q.count 0 st.position s))

pub moved_plus_residue : MovedPlusResidue
moved_plus_residue s st packet buf b m = rw (begins-work stream_device s st packet buf b) (moved_by s st (request_of packet) buf m)
