use mathlib.Core.Path.{sym, ◌∙◌}
use Rattle.pulse.proofs.WaitLaws.{start, again, ready_answer, limit_answer}
use Rattle.pulse.proofs.drive.Drive.wait_step.Goals as goal

pub loop-used-init : goal.loop-used-init
loop-used-init c = start _ _

pub returns-then-is_ready : goal.returns-then-is_ready
returns-then-is_ready c = ready_answer _ _ _ _ c.loop-used.invariant (sym c.is_ready.ensures ∙ c.if-is_ready.true)

pub loop-used-preserved : goal.loop-used-preserved
loop-used-preserved c =
    let moving = sym c.is_ready.ensures ∙ c.if-is_ready.false in
    rw c.tick_step-now.ensures (again _ _ _ _ c.loop-used-test.true moving c.loop-used.invariant)

pub returns : goal.returns
returns c = limit_answer _ _ _ _ c.loop-used.invariant c.loop-used-test.false c.loop-used.auto.used-end
