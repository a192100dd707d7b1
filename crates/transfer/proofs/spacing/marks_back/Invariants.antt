-- `spacing::marks_back` meets its contract. The invariant: what is left to do gives what the whole gives, and a filemark is left.
use Rattle.std.proofs.Common.{◌≡◌, ◌≤◌}
use Rattle.transfer.specs.Spacing.{marks_back}
use Rattle.transfer.proofs.spacing.marks_back.Given as goal

abbrev pub invariant-loop-at : goal.invariant-loop-at
invariant-loop-at l = (marks_back l.image l.h.kinds l.at l.left ≡ marks_back l.image l.h.kinds l.p l.n) × (1 ≤ l.left)
