-- `index_calls::tapecard_index_packet` meets its contract.
use Rattle.tapecard.proofs.CallLaws.{index_call_left}
use Rattle.tapecard.proofs.index_calls.tapecard_index_packet.Goals as goal

pub returns : goal.returns
returns c = index_call_left _ _ _ _ _ _ _ c.decode_state.ensures c.leave.ensures _ _ _ _ _ c.packet-left.ensures
