-- Marked blocks: READ counts those that it copies, and no other command tells of any.
-- Assumes nothing.
use Prim.Native.Nat.{ℕ}
use mathlib.Core.List.{List}
use mathlib.Core.Path.{◌≡◌, refl}
use Rattle.image.specs.declared.header.Header.{Header}
use Rattle.image.specs.Header.{fields_of}
use Rattle.image.proofs.HeaderLaws.{good_header}
use Rattle.opcodes.specs.declared.Command.{Command}
use Rattle.opcodes.specs.declared.Command.TheVariants.{Unknown, TestUnitReady, Rewind, RequestSense, Read, Write, WriteFilemarks, Space, Inquiry}
use Rattle.opcodes.specs.declared.Command.TheVariants.{ModeSelect, ModeSense, LoadUnload, Locate, ReadPosition, PreventAllow}
use Rattle.packet_state.specs.declared.state.Outcome.{Outcome}
use Rattle.packet_state.specs.declared.state.State.{State}
use Rattle.packet_parts.specs.declared.requests.Request.{Request}
use Rattle.packet_parts.specs.Replies.{reply_ends}
use Rattle.packet_work.specs.Settings.{load_work, lock_work}
use Rattle.packet_laws.specs.Words.{marked_of}
use Rattle.packet_laws.proofs.Endings.{ends_unmarked}
use Rattle.packet_laws.proofs.Marked.{CountsMarked, read_counts, read_within, marked_counted as any-device}
use Rattle.floppy_parts.specs.declared.tape.Tape.{Tape}
use Rattle.floppy_parts.specs.Requests.{blocks_asked}
use Rattle.floppy_parts.specs.Tape.{product}
use Rattle.floppy_parts.proofs.FullLaws.{full_image}
use Rattle.floppy_parts.proofs.RuledLaws.{ruled_of}
use Rattle.floppy.specs.Packet.{floppy_device}
use Rattle.floppy.specs.Work.{read_ends, read_work, write_ends, write_work, work_of}
use Rattle.floppy_laws.specs.Demands.{MarkedCounted}
use Rattle.floppy_laws.proofs.Refusals.{working}
use Rattle.floppy_laws.proofs.Selecting.{Selected, speed-set, speed-wrong, tape-set, tape-wrong, nothing-set, selected}

module _ (s : List ℕ) (h : Header) (st : State) (t : Tape) (q : Request) (buf : List ℕ) where
  list_unmarked : {out : Outcome State} {tape : Tape} → Selected h st t buf q.length out tape → out.answer.marked ≡ 0
  list_unmarked (speed-set e g) = ends_unmarked _ _ _ _
  list_unmarked (speed-wrong e) = ends_unmarked _ _ _ _
  list_unmarked (tape-set e x) = ends_unmarked _ _ _ _
  list_unmarked (tape-wrong e x) = ends_unmarked _ _ _ _
  list_unmarked (nothing-set e) = ends_unmarked _ _ _ _

  unmarked : (c : Command) → (c ≡ Read → ⊥) → marked_of (work_of c s h st t q buf) ≡ 0
  unfolding work_of write_work write_ends load_work lock_work reply_ends
  unmarked Unknown n = ends_unmarked _ _ _ _
  unmarked TestUnitReady n = ends_unmarked _ _ _ _
  unmarked Rewind n = ends_unmarked _ _ _ _
  unmarked RequestSense n = ends_unmarked _ _ _ _
  unmarked Read n = absurd (n refl)
  unmarked Write n = ends_unmarked _ _ _ _
  unmarked WriteFilemarks n = ends_unmarked _ _ _ _
  unmarked Space n = ends_unmarked _ _ _ _
  unmarked Inquiry n = ends_unmarked _ _ _ _
  unmarked ModeSelect n = list_unmarked (selected h st t buf q.length)
  unmarked ModeSense n = ends_unmarked _ _ _ _
  unmarked LoadUnload n = ends_unmarked _ _ _ _
  unmarked Locate n = ends_unmarked _ _ _ _
  unmarked ReadPosition n = ends_unmarked _ _ _ _
  unmarked PreventAllow n = ends_unmarked _ _ _ _

counts_marked : CountsMarked floppy_device
unfolding work_of read_work read_ends
counts_marked =
    record {
      within = λ s f packet buf p c.
          let r = ruled_of _ _ p.ruly in
          rw c (read_within s (fields_of s) _ f.shared _ buf _ (good_header s (full_image s p.good).0) r.within r.place);
      counts = λ s h f q buf c. rw c (read_counts s h (product f.tape) f.shared (blocks_asked q) buf _);
      others = λ s h f q buf n. unmarked s h f.shared f.tape q buf q.command n;
    }

pub marked_counted : MarkedCounted
marked_counted = any-device floppy_device working counts_marked
