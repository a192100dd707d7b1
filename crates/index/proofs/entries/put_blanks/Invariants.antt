-- `entries::put_blanks` meets its contract. The invariant: what is left, put from here on, gives what the whole gives.
use Rattle.std.proofs.Common.{◌≡◌}
use Prim.Native.Nat.{◌*◌, ◌-◌}
use lib.ListN.{replicate}
use Rattle.numbers.specs.Over.{over}
use Rattle.index.specs.Entries.{no_filemark, entry_bytes}
use Rattle.index.proofs.entries.put_blanks.Given as goal

abbrev pub invariant-loop-n : goal.invariant-loop-n
invariant-loop-n l =
    over l.index (4 * l.n) (entry_bytes (replicate (l.last - l.n) no_filemark))
    ≡ over l.initial.index (4 * l.first) (entry_bytes (replicate (l.last - l.first) no_filemark))
