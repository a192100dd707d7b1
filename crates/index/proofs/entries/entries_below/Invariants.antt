-- `entries::entries_below` meets its contract. The invariant: the entries before `low` are below the place, those from `high` on are not.
use Prim.Native.Nat.{◌-◌}
use Rattle.index.proofs.LoopLaws.{Halved}
use Rattle.index.proofs.entries.entries_below.Given as goal

abbrev pub invariant-loop-low : goal.invariant-loop-low
invariant-loop-low l = Halved l.index l.p l.n l.low l.high

abbrev pub decreases-loop-low : goal.decreases-loop-low
decreases-loop-low l = l.high - l.low
