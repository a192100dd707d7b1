-- `floppy_calls::tapecard_floppy_fresh` meets its contract.
use Rattle.tapecard.proofs.CallLaws.{floppy_fresh_left}
use Rattle.tapecard.proofs.floppy_calls.tapecard_floppy_fresh.Goals as goal

pub returns : goal.returns
returns c = floppy_fresh_left _ _ _ _ _ _ c.decode_floppy.ensures c.leave.ensures c.fresh-left.ensures
