-- `importing::store_elements` meets its contract. The invariant: the elements that are left, stored from here on, give the whole.
use Rattle.exchange.proofs.ImportLaws.{Storing}
use Rattle.exchange.proofs.importing.store_elements.Given as goal

abbrev pub invariant-loop-i : goal.invariant-loop-i
invariant-loop-i l = Storing l.h l.file l.initial.image l.image l.n l.i l.at
