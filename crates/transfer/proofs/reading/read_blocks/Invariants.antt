-- `reading::read_blocks` meets its contract. The invariant: what is left to do gives what the whole gives, and fits.
use Rattle.std.proofs.Common.{◌≡◌, ◌+◌, ◌-◌, ◌*◌, ◌≤◌}
use Rattle.transfer.specs.Reading.{read_from}
use Rattle.transfer.proofs.reading.read_blocks.Given as goal

abbrev pub invariant-loop-done : goal.invariant-loop-done
invariant-loop-done l =
    (read_from l.image l.h.size l.h.kinds l.h.blocks l.end (l.n - l.done) (l.done * l.h.size) (l.p + l.done) l.buf
    ≡ read_from l.image l.h.size l.h.kinds l.h.blocks l.end l.n 0 l.p l.initial.buf)
    × (l.p + l.done ≤ l.end)
