use native.Mathlib.Omega.{arith}
use Rattle.index.proofs.LoopLaws.{blank_next, blank_done}
use Rattle.index.proofs.entries.put_blanks.Goals as goal

pub loop-n-preserved : goal.loop-n-preserved
loop-n-preserved c = blank_next _ _ _ _ _ c.loop-n.invariant c.loop-n-test.true (omega arith) c.put_count4.ensures

pub returns : goal.returns
returns c = search blank_done
