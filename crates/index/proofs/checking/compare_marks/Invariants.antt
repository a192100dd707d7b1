-- `checking::compare_marks` meets its contract. The invariant: what is left to compare gives what the whole gives.
use Rattle.index.specs.Checking.{compared_with}
use Rattle.index.specs.Entries.{marks_from}
use Rattle.index.proofs.LoopLaws.{Comparing}
use Rattle.index.proofs.checking.compare_marks.Given as goal

abbrev pub invariant-loop-at : goal.invariant-loop-at
invariant-loop-at l =
    Comparing l.image l.h.kinds l.h.recorded l.index (compared_with l.index (marks_from l.image l.h.kinds l.h.recorded 0)) l.at l.n
