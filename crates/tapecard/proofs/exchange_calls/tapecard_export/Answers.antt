-- `exchange_calls::tapecard_export` meets its contract.
use Rattle.tapecard.proofs.CallLaws.{export_call_left}
use Rattle.tapecard.proofs.exchange_calls.tapecard_export.Goals as goal

pub returns : goal.returns
returns c =
    export_call_left _ _ _ _ _ c.export.ensures c.encode_answer.ensures
