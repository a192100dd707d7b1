use native.Mathlib.Omega.{arith}
use Rattle.image.proofs.HeaderLaws.{sound}
use Rattle.exchange.proofs.ExportLaws.{measure_next, measure_done}
use Rattle.exchange.proofs.exporting.export_length.Goals as goal

pub kind_at-requires : goal.kind_at-requires
kind_at-requires c = let g = sound _ _ c.requires in omega arith

pub element_length-n-requires : goal.element_length-n-requires
element_length-n-requires c = let g = sound _ _ c.requires in omega arith

pub loop-i-preserved : goal.loop-i-preserved
loop-i-preserved c = search measure_next

pub returns : goal.returns
returns c = measure_done _ _ c.requires _ _ c.loop-i.invariant (omega (arith, c.loop-i.auto, c.loop-i-test.false))
