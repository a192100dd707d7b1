-- `spacing::marks_on` meets its contract. The invariant: what is left to do gives what the whole gives, and a filemark is left.
use Rattle.std.proofs.Common.{◌≡◌, ◌+◌, ◌-◌, ◌≤◌}
use Rattle.transfer.specs.Spacing.{marks_on}
use Rattle.transfer.proofs.spacing.marks_on.Given as goal

abbrev pub invariant-loop-done : goal.invariant-loop-done
invariant-loop-done l =
    (marks_on l.image l.h.kinds (l.end - (l.p + l.done)) l.left (l.p + l.done) ≡ marks_on l.image l.h.kinds (l.end - l.p) l.n l.p)
    × (1 ≤ l.left)
