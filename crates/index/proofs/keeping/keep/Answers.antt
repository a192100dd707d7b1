use mathlib.Core.List.{[]}
use Rattle.index.proofs.KeepLaws.{first_here, first_end, rewrote}
use Rattle.index.proofs.keeping.keep.Goals as goal

pub run_by_entries-requires-clause-below_first : goal.run_by_entries-requires-clause-below_first
run_by_entries-requires-clause-below_first c = first_here _ _ _ _ _ [] c.requires

pub run_by_entries-requires-clause-below_first_2 : goal.run_by_entries-requires-clause-below_first_2
run_by_entries-requires-clause-below_first_2 c = first_end _ _ _ _ _ [] c.requires

pub rewrite-requires-clause-below_first : goal.rewrite-requires-clause-below_first
rewrite-requires-clause-below_first c = first_here _ _ _ _ _ [] c.requires

pub rewrite-requires-clause-below_first_2 : goal.rewrite-requires-clause-below_first_2
rewrite-requires-clause-below_first_2 c = first_end _ _ _ _ _ [] c.requires

pub returns-then-stores_on-outcome : goal.returns-then-stores_on-outcome
returns-then-stores_on-outcome c =
    rewrote _ _ _ _ _ _ c.requires _ _ _ _ _ _ c.request_of-q.ensures.0 c.in_ok-outcome.was c.packet.ensures c.stores_on.ensures
    c.if-stores_on-outcome.true _ c.rewrite.ensures
