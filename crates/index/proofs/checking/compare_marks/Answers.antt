use Rattle.index.proofs.LoopLaws.{compare_next}
use Rattle.index.proofs.checking.compare_marks.Goals as goal

pub loop-at-preserved : goal.loop-at-preserved
loop-at-preserved c =
    compare_next _ _ _ _ _ _ _ _ _ c.loop-at.invariant c.loop-at-test.true c.kind_at.ensures c.is_filemark.ensures
    _ c.compare_entry.ensures _ c.in_ok-n.was
