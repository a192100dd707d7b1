-- `writing::write_filemarks` meets its contract. The invariant: what is left to do gives what the whole gives.
use Rattle.std.proofs.Common.{◌≡◌, ◌+◌, ◌-◌, ◌≤◌}
use Rattle.transfer.specs.Writing.{mark_from}
use Rattle.transfer.proofs.writing.write_filemarks.Given as goal

abbrev pub invariant-loop-done : goal.invariant-loop-done
invariant-loop-done l =
    (mark_from l.h.kinds l.end (l.n - l.done) (l.p + l.done) l.image ≡ mark_from l.h.kinds l.end l.n l.p l.initial.image)
    × (l.p + l.done ≤ l.end)
