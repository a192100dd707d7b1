-- `writing::write_blocks` meets its contract. The invariant: what is left to do gives what the whole gives, and fits.
use Rattle.std.proofs.Common.{◌≡◌, ◌+◌, ◌-◌, ◌*◌, ◌≤◌}
use Rattle.transfer.specs.Writing.{write_from}
use Rattle.transfer.proofs.writing.write_blocks.Given as goal

abbrev pub invariant-loop-done : goal.invariant-loop-done
invariant-loop-done l =
    (write_from l.h.size l.h.kinds l.h.blocks l.end l.src (l.n - l.done) (l.done * l.h.size) (l.p + l.done) l.image
    ≡ write_from l.h.size l.h.kinds l.h.blocks l.end l.src l.n 0 l.p l.initial.image)
    × (l.p + l.done ≤ l.end)
