use Rattle.std.proofs.Common.{rules}
use Rattle.index.proofs.CallLaws.{make_well}
use Rattle.index.proofs.make.Goals as goal

pub returns : goal.returns
returns c =
    make_well c.args.image.now c.args.index.now c.in_ok-h.h (search rules) _ _ _ (search rules)
    c.write_entries-filemarks.ensures.value c.write_entries-filemarks.ensures.index_after c.told.ensures
