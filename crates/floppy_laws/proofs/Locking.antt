-- The lock: what 1Eh and an unload ask and do, and what the fresh record and the cartridge change leave of it.
-- Assumes nothing.
use Prim.Native.Nat.{ℕ}
use mathlib.Core.Bool.{false, not}
use mathlib.Core.List.{List}
use mathlib.Core.Path.{◌≡◌, refl, ap}
use Rattle.numbers.proofs.Cases.{either}
use Rattle.image.specs.declared.header.Header.{Header}
use Rattle.opcodes.specs.declared.Command.{Command}
use Rattle.opcodes.specs.declared.Command.TheVariants.{Unknown, TestUnitReady, Rewind, RequestSense, Read, Write, WriteFilemarks, Space, Inquiry}
use Rattle.opcodes.specs.declared.Command.TheVariants.{ModeSelect, ModeSense, LoadUnload, Locate, ReadPosition, PreventAllow}
use Rattle.packet_state.specs.declared.state.State.{State}
use Rattle.packet_state.specs.States.{changed_state}
use Rattle.packet_parts.specs.declared.requests.Request.{Request}
use Rattle.packet_parts.specs.Answers.{Left, ends}
use Rattle.packet_parts.specs.Requests.{load_bit}
use Rattle.packet_work.specs.Settings.{load_work, lock_work}
use Rattle.packet_laws.proofs.Locking.{LocksDoor}
use Rattle.packet_laws.proofs.Locking as any-device
use Rattle.packet_laws.proofs.Records.{not_clear}
use Rattle.floppy_parts.specs.declared.tape.Floppy.{Floppy}
use Rattle.floppy_parts.specs.Checks.{asked_by}
use Rattle.floppy_parts.specs.Headers.{is_full}
use Rattle.floppy_parts.specs.Settings.{loaded_tape, tape_after}
use Rattle.floppy.specs.Packet.{floppy_device, mounted, changed_floppy}
use Rattle.floppy.specs.Work.{work_of}
use Rattle.floppy_laws.specs.Demands.{LockFollows, LockedStays, LockStarts}
use Rattle.floppy_laws.proofs.Records.{keeps_record, gives_page}
use Rattle.floppy_laws.proofs.Refusals.{working}

-- only 1Bh with the load bit clear asks for the lock
no_unload : (c : Command) (h : Header) (end : ℕ) (q : Request) → (c ≡ LoadUnload → load_bit q ≡ false → ⊥) → (asked_by c h end q).unloads ≡ false
unfolding asked_by
no_unload Unknown h end q n = refl
no_unload TestUnitReady h end q n = refl
no_unload Rewind h end q n = refl
no_unload RequestSense h end q n = refl
no_unload Read h end q n = refl
no_unload Write h end q n = refl
no_unload WriteFilemarks h end q n = refl
no_unload Space h end q n = refl
no_unload Inquiry h end q n = refl
no_unload ModeSelect h end q n = refl
no_unload ModeSense h end q n = refl
no_unload LoadUnload h end q n = ap not (not_clear (load_bit q) (n refl))
no_unload Locate h end q n = refl
no_unload ReadPosition h end q n = refl
no_unload PreventAllow h end q n = refl

locks_door : LocksDoor floppy_device
unfolding work_of asked_by load_work lock_work ends tape_after loaded_tape
locks_door =
    record {
      page = gives_page;
      stays = keeps_record;
      asks_lock = λ h f q c. rw c;
      asks_unload = λ h f q c l. rw (c, l);
      asks_else = λ h f q n. no_unload q.command h _ q n;
      asks_same = λ h f x q. refl;
      locks = λ s f packet buf c. rw c;
      unloads = λ s f packet buf c l. rw (c, l);
    }

pub lock_follows : LockFollows
lock_follows = any-device.lock_follows floppy_device working locks_door

pub locked_stays : LockedStays
locked_stays = any-device.locked_stays floppy_device working locks_door

-- P holds of what a change leaves of the shared record where it holds of the record as it was and as 01 changes it
pub changed_by : (P : State → Type 0) (s : List ℕ) (f : Floppy) → P f.shared → P (changed_state f.shared) → P (changed_floppy s f).state.shared
unfolding mounted ends
changed_by P s f was now = either (λ (x : Left Floppy). P x.state.shared) (not (is_full s)) _ _ (λ e. was) (λ e. now)

pub lock_starts : LockStarts
unfolding mounted ends
lock_starts =
    record {
      fresh = λ s f e. rw e;
      changed = λ s f. changed_by (λ x. x.locked ≡ f.shared.locked) s f refl refl;
    }
