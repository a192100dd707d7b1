-- `spacing::blocks_on` meets its contract. The invariant: what is left to do gives what the whole gives.
use Rattle.std.proofs.Common.{◌≡◌, ◌+◌, ◌-◌, ◌≤◌}
use Rattle.transfer.specs.Spacing.{blocks_on}
use Rattle.transfer.proofs.spacing.blocks_on.Given as goal

abbrev pub invariant-loop-done : goal.invariant-loop-done
invariant-loop-done l =
    (blocks_on l.image l.h.kinds l.end (l.n - l.done) (l.p + l.done) ≡ blocks_on l.image l.h.kinds l.end l.n l.p)
    × (l.p + l.done ≤ l.end)
