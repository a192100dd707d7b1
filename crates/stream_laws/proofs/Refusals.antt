-- Refused packets and packets that begin, as for every packet device, and that every outcome is settled.
-- Assumes nothing.
use mathlib.Core.Path.{sym, ◌∙◌}
use Rattle.numbers.proofs.Cases.{settles}
use Rattle.packet_state.specs.States.{fresh_state, changed_state}
use Rattle.packet_laws.specs.Words.{Working}
use Rattle.packet_laws.proofs.Refusals as any-device
use Rattle.packet_laws.proofs.Settling.{left_settled}
use Rattle.stream.specs.Packet.{stream_device}
use Rattle.stream_laws.specs.Demands.{CutPacket, RefusedKeeps, NumberExactly, BeginsExactly, Settled}
use Rattle.stream_laws.proofs.Leaving.{work_leaves}

-- the work refuses nothing
pub working : Working stream_device
working = record { accepted = λ s st packet buf p l. (work_leaves s st _ buf p.good p.ruly _ l).unrefused }

pub cut_packet : CutPacket
cut_packet = any-device.cut_packet stream_device working

pub refused_keeps : RefusedKeeps
refused_keeps = any-device.refused_keeps stream_device working

pub number_exactly : NumberExactly
number_exactly = any-device.number_exactly stream_device working

pub begins_exactly : BeginsExactly
begins_exactly = any-device.begins_exactly stream_device working

pub settled : Settled
settled =
    record {
      packet = λ s st packet buf r r' i i' b b' p q. left_settled st r r' i i' b b' (p ∙ sym q);
      fresh = settles fresh_state;
      changed = λ st. settles (changed_state st);
    }
