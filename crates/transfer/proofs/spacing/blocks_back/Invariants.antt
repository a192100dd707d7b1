-- `spacing::blocks_back` meets its contract. The invariant: what is left to do gives what the whole gives.
use Rattle.std.proofs.Common.{◌≡◌, ◌-◌, ◌≤◌}
use Rattle.transfer.specs.Spacing.{blocks_back}
use Rattle.transfer.proofs.spacing.blocks_back.Given as goal

abbrev pub invariant-loop-done : goal.invariant-loop-done
invariant-loop-done l =
    (blocks_back l.image l.h.kinds (l.p - l.done) (l.n - l.done) ≡ blocks_back l.image l.h.kinds l.p l.n)
    × (l.done ≤ l.p)
