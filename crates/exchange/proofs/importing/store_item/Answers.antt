-- `importing::store_item` meets its contract.
use native.Mathlib.Omega.{arith}
use mathlib.Core.Path.{sym}
use Rattle.image.proofs.HeaderLaws.{sound}
use Rattle.exchange.proofs.ImportLaws.{mark_taken, record_taken, lay_room, item_ways}
use Rattle.exchange.proofs.importing.store_item.Goals as goal

pub lay_mark-requires : goal.lay_mark-requires
lay_mark-requires c = let g = sound _ _ c.requires.image_value in omega arith

pub overflow_add-result : goal.overflow_add-result
overflow_add-result c = let m = mark_taken c.args.h.size _ _ c.requires.taken _ c.read.ensures c.in_default.not-Record in omega (arith, m)

pub returns-in_default : goal.returns-in_default
returns-in_default c =
    let m = mark_taken c.args.h.size _ _ c.requires.taken _ c.read.ensures c.in_default.not-Record in
    record { value = sym m.0; image_after = rw m.1 c.lay_mark.ensures }

pub overflow_add-block : goal.overflow_add-block
overflow_add-block c = let m = record_taken c.args.h.size _ _ c.requires.taken _ c.read.ensures _ c.in-Record.is in omega (arith, m)

pub slice_bounds-block-end : goal.slice_bounds-block-end
slice_bounds-block-end c = let m = record_taken c.args.h.size _ _ c.requires.taken _ c.read.ensures _ c.in-Record.is in omega (arith, m)

pub lay_unreadable-requires : goal.lay_unreadable-requires
lay_unreadable-requires c =
    let m = lay_room _ _ _ c.requires.image_value c.requires.i_lt_capacity in
    record { size_bound = m.0; i_bound = m.1; kind_below_blocks = m.2; block_inside = m.3; whole_block = grind (arith, item_ways) }

pub lay_block-requires : goal.lay_block-requires
lay_block-requires c =
    let m = lay_room _ _ _ c.requires.image_value c.requires.i_lt_capacity in
    record { size_bound = m.0; i_bound = m.1; kind_below_blocks = m.2; block_inside = m.3; whole_block = grind (arith, item_ways) }
