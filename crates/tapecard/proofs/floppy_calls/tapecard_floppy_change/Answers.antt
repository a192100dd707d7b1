-- `floppy_calls::tapecard_floppy_change` meets its contract.
use Rattle.tapecard.proofs.CallLaws.{floppy_change_left}
use Rattle.tapecard.proofs.floppy_calls.tapecard_floppy_change.Goals as goal

pub returns : goal.returns
returns c = floppy_change_left _ _ _ _ _ _ c.decode_floppy.ensures c.leave.ensures c.changed-left.ensures
