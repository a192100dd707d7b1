-- Refused packets and packets that begin, as for every packet device, and that every outcome is settled.
-- Assumes nothing.
use Prim.Native.Nat.{ℕ}
use mathlib.Core.List.{List, []}
use mathlib.Core.Path.{◌≡◌, refl, sym, ◌∙◌}
use Rattle.image.specs.declared.header.Header.{Header}
use Rattle.opcodes.specs.declared.Command.{Command}
use Rattle.opcodes.specs.declared.Command.TheVariants.{Unknown, TestUnitReady, Rewind, RequestSense, Read, Write, WriteFilemarks, Space, Inquiry}
use Rattle.opcodes.specs.declared.Command.TheVariants.{ModeSelect, ModeSense, LoadUnload, Locate, ReadPosition, PreventAllow}
use Rattle.packet_state.specs.declared.state.State.{State}
use Rattle.packet_parts.specs.declared.requests.Request.{Request}
use Rattle.packet_laws.specs.Words.{number_of, Working}
use Rattle.packet_laws.proofs.Refusals as any-device
use Rattle.packet_laws.proofs.Settling.{left_settled}
use Rattle.floppy_parts.specs.declared.tape.Tape.{Tape}
use Rattle.floppy.specs.Packet.{floppy_device}
use Rattle.floppy.specs.Work.{read_ends, read_work, write_ends, write_work, work_of}
use Rattle.floppy_laws.specs.Demands.{CutPacket, RefusedKeeps, NumberExactly, BeginsExactly, Settled}

-- ---- the work refuses nothing

work_number : (c : Command) (s : List ℕ) (h : Header) (st : State) (t : Tape) (q : Request) (buf : List ℕ) → number_of (work_of c s h st t q buf) ≡ 0
unfolding work_of read_work read_ends write_work write_ends
work_number Unknown s h st t q buf = refl
work_number TestUnitReady s h st t q buf = refl
work_number Rewind s h st t q buf = refl
work_number RequestSense s h st t q buf = refl
work_number Read s h st t q buf = refl
work_number Write s h st t q buf = refl
work_number WriteFilemarks s h st t q buf = refl
work_number Space s h st t q buf = refl
work_number Inquiry s h st t q buf = refl
work_number ModeSelect s h st t q buf = refl
work_number ModeSense s h st t q buf = refl
work_number LoadUnload s h st t q buf = refl
work_number Locate s h st t q buf = refl
work_number ReadPosition s h st t q buf = refl
work_number PreventAllow s h st t q buf = refl

pub working : Working floppy_device
working = record { accepted = λ s f packet buf p l. work_number _ _ _ _ _ _ _ }

-- ---- so the laws of every packet device hold

pub cut_packet : CutPacket
cut_packet = any-device.cut_packet floppy_device working

pub refused_keeps : RefusedKeeps
refused_keeps = any-device.refused_keeps floppy_device working

pub number_exactly : NumberExactly
number_exactly = any-device.number_exactly floppy_device working

pub begins_exactly : BeginsExactly
begins_exactly = any-device.begins_exactly floppy_device working

pub settled : Settled
settled =
    record {
      packet = λ s f packet buf r r' i i' b b' p q. left_settled f r r' i i' b b' (p ∙ sym q);
      fresh = λ s f r r' p q. (left_settled f r r' s s [] [] (p ∙ sym q)).0;
      changed = λ s f r r' p q. (left_settled f r r' s s [] [] (p ∙ sym q)).0;
    }
