-- `index_calls::tapecard_index_make` meets its contract.
use Rattle.tapecard.proofs.CallLaws.{index_make_left}
use Rattle.tapecard.proofs.index_calls.tapecard_index_make.Goals as goal

pub returns : goal.returns
returns c =
    index_make_left _ _ _ _ _ c.make.ensures c.encode_answer.ensures
