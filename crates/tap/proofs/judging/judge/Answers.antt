use native.Mathlib.Omega.{arith}
use Rattle.std.proofs.lemmas.Result.{err_from_is_err_and}
use Rattle.tap.proofs.JudgeLaws.{judge_fails}
use Rattle.tap.proofs.judging.judge.Goals as goal

pub returns-in_err-next : goal.returns-in_err-next
returns-in_err-next c =
    let p = err_from_is_err_and c.from_residual.result c.from_residual.ensures.1 in
    rw (p.1, p.2) (judge_fails _ _ _ _ _ c.loop-elements.invariant (omega arith) _ _ c.read.ensures c.turn_of.ensures _ c.in_err-next.was)
