use mathlib.Core.Bool.{◌&&◌}
use mathlib.Core.Path.{◌≡◌}
use lib.ListN.{drop}
use Rattle.index.specs.Checking.{are_blank}
use Rattle.index.proofs.checking.are_blank.Given as goal

abbrev pub invariant-loop-at : goal.invariant-loop-at
invariant-loop-at l = (l.blank && are_blank (drop l.at l.bytes)) ≡ are_blank l.bytes
