use native.Mathlib.Omega.{arith}
use Rattle.index.proofs.LoopLaws.{put_next, put_done}
use Rattle.index.proofs.entries.put_marks.Goals as goal

pub loop-at-preserved : goal.loop-at-preserved
loop-at-preserved c =
    put_next _ _ _ _ _ _ _ _ _ _ _ _ c.loop-at.invariant c.loop-at-test.true (omega arith) c.kind_at.ensures c.is_filemark.ensures
    c.put_entry-n.ensures.value c.put_entry-n.ensures.index_after

pub returns-clause-value : goal.returns-clause-value
returns-clause-value c = (put_done _ _ _ _ _ _ _ _ c.loop-at.invariant (search)).0

pub returns-clause-index_after : goal.returns-clause-index_after
returns-clause-index_after c = (put_done _ _ _ _ _ _ _ _ c.loop-at.invariant (search)).1
