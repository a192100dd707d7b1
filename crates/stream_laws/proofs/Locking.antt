-- The lock: what 1Eh and an unload ask and do.
-- Assumes nothing.
use mathlib.Core.Bool.{false, not}
use mathlib.Core.Path.{◌≡◌, refl, ap}
use Rattle.image.specs.declared.header.Header.{Header}
use Rattle.opcodes.specs.declared.Command.{Command}
use Rattle.opcodes.specs.declared.Command.TheVariants.{Unknown, TestUnitReady, Rewind, RequestSense, Read, Write, WriteFilemarks, Space, Inquiry}
use Rattle.opcodes.specs.declared.Command.TheVariants.{ModeSelect, ModeSense, LoadUnload, Locate, ReadPosition, PreventAllow}
use Rattle.packet_parts.specs.declared.requests.Request.{Request}
use Rattle.packet_parts.specs.Answers.{ends}
use Rattle.packet_parts.specs.Requests.{load_bit}
use Rattle.packet_work.specs.Settings.{load_work, lock_work}
use Rattle.packet_laws.proofs.Locking.{LocksDoor}
use Rattle.packet_laws.proofs.Locking as any-device
use Rattle.packet_laws.proofs.Records.{not_clear}
use Rattle.stream_parts.specs.Checks.{asked_by}
use Rattle.stream.specs.Packet.{stream_device}
use Rattle.stream.specs.Work.{work_of}
use Rattle.stream_laws.specs.Demands.{LockFollows, LockedStays, LockStarts}
use Rattle.stream_laws.proofs.Records.{keeps_record, gives_page}
use Rattle.stream_laws.proofs.Refusals.{working}

-- only 1Bh with the load bit clear asks for the lock
no_unload : (c : Command) (h : Header) (q : Request) → (c ≡ LoadUnload → load_bit q ≡ false → ⊥) → (asked_by c h q).unloads ≡ false
unfolding asked_by
no_unload Unknown h q n = refl
no_unload TestUnitReady h q n = refl
no_unload Rewind h q n = refl
no_unload RequestSense h q n = refl
no_unload Read h q n = refl
no_unload Write h q n = refl
no_unload WriteFilemarks h q n = refl
no_unload Space h q n = refl
no_unload Inquiry h q n = refl
no_unload ModeSelect h q n = refl
no_unload ModeSense h q n = refl
no_unload LoadUnload h q n = ap not (not_clear (load_bit q) (n refl))
no_unload Locate h q n = refl
no_unload ReadPosition h q n = refl
no_unload PreventAllow h q n = refl

locks_door : LocksDoor stream_device
unfolding work_of asked_by load_work lock_work ends
locks_door =
    record {
      page = gives_page;
      stays = keeps_record;
      asks_lock = λ h st q c. rw c;
      asks_unload = λ h st q c l. rw (c, l);
      asks_else = λ h st q n. no_unload q.command h q n;
      asks_same = λ h st x q. refl;
      locks = λ s st packet buf c. rw c;
      unloads = λ s st packet buf c l. rw (c, l);
    }

pub lock_follows : LockFollows
lock_follows = any-device.lock_follows stream_device working locks_door

pub locked_stays : LockedStays
locked_stays = any-device.locked_stays stream_device working locks_door

pub lock_starts : LockStarts
lock_starts = record { fresh = refl; changed = λ st. refl }
