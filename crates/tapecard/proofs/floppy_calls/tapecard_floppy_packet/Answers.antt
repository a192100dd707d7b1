-- `floppy_calls::tapecard_floppy_packet` meets its contract.
use Rattle.tapecard.proofs.CallLaws.{floppy_call_left}
use Rattle.tapecard.proofs.floppy_calls.tapecard_floppy_packet.Goals as goal

pub returns : goal.returns
returns c = floppy_call_left _ _ _ _ _ _ c.decode_floppy.ensures c.leave.ensures _ _ _ _ c.packet-left.ensures
