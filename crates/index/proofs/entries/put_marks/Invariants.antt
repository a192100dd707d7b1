-- `entries::put_marks` meets its contract. The invariant: the filemarks that are left, put from here on, give what the whole gives.
use Prim.Native.Nat.{◌+◌, ◌*◌}
use lib.ListN.{length}
use Rattle.numbers.specs.Over.{over}
use Rattle.index.specs.Entries.{entry_bytes}
use Rattle.index.proofs.LoopLaws.{ahead, Putting}
use Rattle.index.proofs.entries.put_marks.Given as goal

abbrev pub invariant-loop-at : goal.invariant-loop-at
invariant-loop-at l =
    Putting l.image l.h.kinds l.end (over l.initial.index (4 * l.first) (entry_bytes (ahead l.image l.h.kinds l.end l.p)))
    (l.first + length (ahead l.image l.h.kinds l.end l.p)) l.index l.at l.n
