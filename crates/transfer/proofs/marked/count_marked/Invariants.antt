-- `marked::count_marked` meets its contract. The invariant: those found and those of the rest are those of the whole.
use Rattle.std.proofs.Common.{◌≡◌, ◌+◌, ◌-◌}
use Rattle.transfer.specs.Marked.{marked_from}
use Rattle.transfer.proofs.marked.count_marked.Given as goal

abbrev pub invariant-loop-at : goal.invariant-loop-at
invariant-loop-at l = l.marked + marked_from l.image l.h.kinds (l.p + l.n - l.at) l.at ≡ marked_from l.image l.h.kinds l.n l.p
