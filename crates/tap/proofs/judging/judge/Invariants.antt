-- `judging::judge` meets its contract. The invariant: what is left to read gives what the whole gives.
use Rattle.tap.proofs.JudgeLaws.{Judging}
use Rattle.tap.proofs.judging.judge.Given as goal

abbrev pub invariant-loop-elements : goal.invariant-loop-elements
invariant-loop-elements l = Judging l.size l.file l.most l.at l.elements
