use Rattle.index.proofs.LoopLaws.{halved_done}
use Rattle.index.proofs.entries.entries_below.Goals as goal

pub returns-clause-value : goal.returns-clause-value
returns-clause-value c = let g = c.loop-low.invariant in
    halved_done _ _ _ _ _ g (search)
