use Prim.Native.Nat.{◌<◌}
use native.Mathlib.Omega.{arith}
use lib.ListN.{length}
use Rattle.pulse.proofs.TrainsLaws.{again, sent_all, told_all}
use Rattle.pulse.proofs.drive.Drive.send.Goals as goal

pub loop-i-preserved : goal.loop-i-preserved
loop-i-preserved c =
    let room : c.loop-i.i < length c.loop-i.levels = omega (arith, c.loop-i-test.true, c.requires, c.loop-i.auto.levels) in
    again _ _ _ _ _ _ _ _ c.loop-i-test.true room c.train_step-drive.ensures c.weight_of.ensures.0 c.loop-i.invariant

pub returns-clause-value : goal.returns-clause-value
returns-clause-value c = sent_all _ _ _ _ _ _ c.loop-i-test.false c.loop-i.invariant

pub returns-clause-levels_after : goal.returns-clause-levels_after
returns-clause-levels_after c = told_all _ _ _ _ _ _ c.loop-i-test.false c.loop-i.invariant
