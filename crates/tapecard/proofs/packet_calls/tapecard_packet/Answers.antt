-- `packet_calls::tapecard_packet` meets its contract.
use Rattle.tapecard.proofs.CallLaws.{packet_call_left}
use Rattle.tapecard.proofs.packet_calls.tapecard_packet.Goals as goal

pub returns : goal.returns
returns c = packet_call_left _ _ _ _ _ _ _ c.decode_state.ensures c.leave.ensures _ _ _ c.packet-left.ensures
