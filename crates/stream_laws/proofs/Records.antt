-- What the work of each command leaves of the record, and the page that 1Ah gives of it.
-- Assumes nothing.
use Prim.Native.Nat.{ℕ}
use mathlib.Core.List.{List}
use mathlib.Core.Path.{refl}
use borrow.Author.Tests.{eqb-true, eq-eqb}
use lib.Dec.{eqb, ltb}
use Rattle.numbers.proofs.Cases.{test, either}
use Rattle.image.specs.declared.header.Header.{Header}
use Rattle.opcodes.specs.declared.Command.{Command}
use Rattle.opcodes.specs.declared.Command.TheVariants.{Unknown, TestUnitReady, Rewind, RequestSense, Read, Write, WriteFilemarks, Space, Inquiry}
use Rattle.opcodes.specs.declared.Command.TheVariants.{ModeSelect, ModeSense, LoadUnload, Locate, ReadPosition, PreventAllow}
use Rattle.packet_state.specs.declared.state.Outcome.{Outcome}
use Rattle.packet_state.specs.declared.state.State.{State}
use Rattle.packet_parts.specs.declared.requests.Request.{Request}
use Rattle.packet_parts.specs.Replies.{device_page, full_list, reply_ends}
use Rattle.packet_parts.specs.Requests.{page_code}
use Rattle.packet_laws.proofs.Pages.{GivesPage}
use Rattle.packet_laws.proofs.Records.{Keeps, moved, speed_keeps, load_keeps, lock_keeps, KeepsRecord}
use Rattle.stream_parts.specs.Checks.{asked_by}
use Rattle.stream_parts.specs.Requests.{space_code, to_end_of_data}
use Rattle.stream.specs.Packet.{stream_device}
use Rattle.stream.specs.Work.{read_ends, read_work, write_ends, write_work, mark_work, space_work, select_work, locate_work, work_of}

module _ (s : List ℕ) (h : Header) (st : State) (q : Request) (buf : List ℕ) where
  abbrev KeptBy : Command → Outcome State → Type 0
  KeptBy c out = Keeps c q buf st out.state

  work_keeps : (c : Command) → Keeps c q buf st (work_of c s h st q buf).state
  unfolding work_of read_work read_ends write_work write_ends mark_work space_work select_work locate_work reply_ends
  work_keeps Unknown = moved _ _ _ _ refl refl refl
  work_keeps TestUnitReady = moved _ _ _ _ refl refl refl
  work_keeps Rewind = moved _ _ _ _ refl refl refl
  work_keeps RequestSense = moved _ _ _ _ refl refl refl
  work_keeps Read = moved _ _ _ _ refl refl refl
  work_keeps Write = moved _ _ _ _ refl refl refl
  work_keeps WriteFilemarks = moved _ _ _ _ refl refl refl
  work_keeps Space =
      either (KeptBy Space) (eqb (space_code q) to_end_of_data) _ _ (λ e. moved _ _ _ _ refl refl refl) (λ e. moved _ _ _ _ refl refl refl)
  work_keeps Inquiry = moved _ _ _ _ refl refl refl
  work_keeps ModeSelect =
      test (eqb q.length full_list) (λ e. rw e (speed_keeps q buf st (eqb-true _ _ e))) (λ e. rw e (moved _ _ _ _ refl refl refl))
  work_keeps ModeSense = moved _ _ _ _ refl refl refl
  work_keeps LoadUnload = load_keeps q buf st
  work_keeps Locate =
      either (KeptBy Locate) (ltb h.recorded q.target) _ _ (λ e. moved _ _ _ _ refl refl refl) (λ e. moved _ _ _ _ refl refl refl)
  work_keeps ReadPosition = moved _ _ _ _ refl refl refl
  work_keeps PreventAllow = lock_keeps q buf st

pub keeps_record : KeepsRecord stream_device
keeps_record = record { shares = λ st x. refl; keeps = λ s h st q buf. work_keeps s h st q buf q.command }

pub gives_page : GivesPage stream_device
unfolding work_of asked_by
gives_page =
    record {
      byte4 = λ st. 0;
      unit = λ st. 64;
      needs = λ h st q c e. rw (c, eq-eqb (page_code q) device_page e);
      gives = λ s h st q buf c e. rw (c, eq-eqb (page_code q) device_page e);
    }
