-- Marked blocks: READ counts those that it copies, and no other command tells of any.
-- Assumes nothing.
use Prim.Native.Nat.{ℕ}
use mathlib.Core.Bool.{not}
use mathlib.Core.List.{List}
use mathlib.Core.Path.{◌≡◌, refl}
use lib.Dec.{eqb, ltb}
use Rattle.numbers.proofs.Cases.{either}
use Rattle.image.specs.declared.header.Header.{Header}
use Rattle.image.specs.Header.{fields_of}
use Rattle.image.proofs.HeaderLaws.{good_header, sound}
use Rattle.opcodes.specs.declared.Command.{Command}
use Rattle.opcodes.specs.declared.Command.TheVariants.{Unknown, TestUnitReady, Rewind, RequestSense, Read, Write, WriteFilemarks, Space, Inquiry}
use Rattle.opcodes.specs.declared.Command.TheVariants.{ModeSelect, ModeSense, LoadUnload, Locate, ReadPosition, PreventAllow}
use Rattle.packet_state.specs.declared.state.Outcome.{Outcome}
use Rattle.packet_state.specs.declared.state.State.{State}
use Rattle.packet_state.proofs.RecordLaws.{ruly_of}
use Rattle.packet_parts.specs.declared.requests.Request.{Request}
use Rattle.packet_parts.specs.Replies.{full_list, reply_ends}
use Rattle.packet_work.specs.Settings.{load_work, lock_work}
use Rattle.packet_laws.specs.Words.{marked_of}
use Rattle.packet_laws.proofs.Endings.{ends_unmarked}
use Rattle.packet_laws.proofs.Marked.{CountsMarked, read_counts, read_within, speed_unmarked, marked_counted as any-device}
use Rattle.stream_parts.specs.Requests.{space_code, to_end_of_data}
use Rattle.stream.specs.Packet.{stream_device}
use Rattle.stream.specs.Work.{read_ends, read_work, write_ends, write_work, mark_work, space_work, select_work, locate_work, work_of}
use Rattle.stream_laws.specs.Demands.{MarkedCounted}
use Rattle.stream_laws.proofs.Refusals.{working}

module _ (s : List ℕ) (h : Header) (st : State) (q : Request) (buf : List ℕ) where
  abbrev Unmarked : Outcome State → Type 0
  Unmarked out = out.answer.marked ≡ 0

  unmarked : (c : Command) → (c ≡ Read → ⊥) → marked_of (work_of c s h st q buf) ≡ 0
  unfolding work_of write_work write_ends mark_work space_work select_work locate_work load_work lock_work reply_ends
  unmarked Unknown n = ends_unmarked _ _ _ _
  unmarked TestUnitReady n = ends_unmarked _ _ _ _
  unmarked Rewind n = ends_unmarked _ _ _ _
  unmarked RequestSense n = ends_unmarked _ _ _ _
  unmarked Read n = absurd (n refl)
  unmarked Write n = ends_unmarked _ _ _ _
  unmarked WriteFilemarks n = ends_unmarked _ _ _ _
  unmarked Space n = either Unmarked (eqb (space_code q) to_end_of_data) _ _ (λ e. ends_unmarked _ _ _ _) (λ e. ends_unmarked _ _ _ _)
  unmarked Inquiry n = ends_unmarked _ _ _ _
  unmarked ModeSelect n = either Unmarked (not (eqb q.length full_list)) _ _ (λ e. ends_unmarked _ _ _ _) (λ e. speed_unmarked st buf)
  unmarked ModeSense n = ends_unmarked _ _ _ _
  unmarked LoadUnload n = ends_unmarked _ _ _ _
  unmarked Locate n = either Unmarked (ltb h.recorded q.target) _ _ (λ e. ends_unmarked _ _ _ _) (λ e. ends_unmarked _ _ _ _)
  unmarked ReadPosition n = ends_unmarked _ _ _ _
  unmarked PreventAllow n = ends_unmarked _ _ _ _

counts_marked : CountsMarked stream_device
unfolding work_of read_work read_ends
counts_marked =
    record {
      within = λ s st packet buf p c.
          let good = good_header s p.good in
          rw c (read_within s (fields_of s) _ st _ buf _ good (sound s _ good).recorded_within (ruly_of _ _ p.ruly).place);
      counts = λ s h st q buf c. rw c (read_counts s h h.recorded st q.count buf _);
      others = λ s h st q buf n. unmarked s h st q buf q.command n;
    }

pub marked_counted : MarkedCounted
marked_counted = any-device stream_device working counts_marked
