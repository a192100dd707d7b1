-- What the work of each command leaves of the shared record, and the page that 1Ah gives of it.
-- Assumes nothing.
use Prim.Native.Nat.{ℕ}
use mathlib.Core.List.{List}
use mathlib.Core.Path.{refl}
use borrow.Author.Tests.{eq-eqb}
use Rattle.image.specs.declared.header.Header.{Header}
use Rattle.opcodes.specs.declared.Command.{Command}
use Rattle.opcodes.specs.declared.Command.TheVariants.{Unknown, TestUnitReady, Rewind, RequestSense, Read, Write, WriteFilemarks, Space, Inquiry}
use Rattle.opcodes.specs.declared.Command.TheVariants.{ModeSelect, ModeSense, LoadUnload, Locate, ReadPosition, PreventAllow}
use Rattle.packet_state.specs.declared.state.Outcome.{Outcome}
use Rattle.packet_state.specs.declared.state.State.{State}
use Rattle.packet_parts.specs.declared.requests.Request.{Request}
use Rattle.packet_parts.specs.Replies.{device_page, reply_ends}
use Rattle.packet_parts.specs.Requests.{page_code}
use Rattle.packet_laws.proofs.Pages.{GivesPage}
use Rattle.packet_laws.proofs.Records.{Keeps, ends_keeps, moved, load_keeps, lock_keeps, KeepsRecord}
use Rattle.floppy_parts.specs.declared.tape.Tape.{Tape}
use Rattle.floppy_parts.specs.Checks.{asked_by}
use Rattle.floppy_parts.specs.Replies.{floppy_mode}
use Rattle.floppy.specs.Packet.{floppy_device}
use Rattle.floppy.specs.Work.{read_ends, read_work, write_ends, write_work, work_of}
use Rattle.floppy_laws.proofs.Selecting.{Selected, speed-set, speed-wrong, tape-set, tape-wrong, nothing-set, selected}

module _ (s : List ℕ) (h : Header) (st : State) (t : Tape) (q : Request) (buf : List ℕ) where
  list_keeps : {out : Outcome State} {tape : Tape} → Selected h st t buf q.length out tape → Keeps ModeSelect q buf st out.state
  list_keeps (speed-set e g) = ends_keeps _ _ _ _ (record { speed = λ n. absurd (n refl e g); loaded = λ n l. l; locked = λ n. refl })
  list_keeps (speed-wrong e) = moved _ _ _ _ refl refl refl
  list_keeps (tape-set e x) = moved _ _ _ _ refl refl refl
  list_keeps (tape-wrong e x) = moved _ _ _ _ refl refl refl
  list_keeps (nothing-set e) = moved _ _ _ _ refl refl refl

  work_keeps : (c : Command) → Keeps c q buf st (work_of c s h st t q buf).state
  unfolding work_of read_work read_ends write_work write_ends reply_ends
  work_keeps Unknown = moved _ _ _ _ refl refl refl
  work_keeps TestUnitReady = moved _ _ _ _ refl refl refl
  work_keeps Rewind = moved _ _ _ _ refl refl refl
  work_keeps RequestSense = moved _ _ _ _ refl refl refl
  work_keeps Read = moved _ _ _ _ refl refl refl
  work_keeps Write = moved _ _ _ _ refl refl refl
  work_keeps WriteFilemarks = moved _ _ _ _ refl refl refl
  work_keeps Space = moved _ _ _ _ refl refl refl
  work_keeps Inquiry = moved _ _ _ _ refl refl refl
  work_keeps ModeSelect = list_keeps (selected h st t buf q.length)
  work_keeps ModeSense = moved _ _ _ _ refl refl refl
  work_keeps LoadUnload = load_keeps q buf st
  work_keeps Locate = moved _ _ _ _ refl refl refl
  work_keeps ReadPosition = moved _ _ _ _ refl refl refl
  work_keeps PreventAllow = lock_keeps q buf st

pub keeps_record : KeepsRecord floppy_device
keeps_record = record { shares = λ f x. refl; keeps = λ s h f q buf. work_keeps s h f.shared f.tape q buf q.command }

pub gives_page : GivesPage floppy_device
unfolding work_of asked_by
gives_page =
    record {
      byte4 = λ f. floppy_mode;
      unit = λ f. f.tape.bseg;
      needs = λ h f q c e. rw (c, eq-eqb (page_code q) device_page e);
      gives = λ s h f q buf c e. rw (c, eq-eqb (page_code q) device_page e);
    }
