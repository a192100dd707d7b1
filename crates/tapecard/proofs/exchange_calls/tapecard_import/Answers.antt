-- `exchange_calls::tapecard_import` meets its contract.
use Rattle.tapecard.proofs.CallLaws.{import_call_left}
use Rattle.tapecard.proofs.exchange_calls.tapecard_import.Goals as goal

pub returns : goal.returns
returns c = import_call_left _ _ _ _ _ _ _ c.decode_state.ensures c.leave.ensures _ c.import-left.ensures
