use native.Mathlib.Omega.{arith}
use Rattle.image.proofs.HeaderLaws.{sound}
use Rattle.exchange.proofs.ExportLaws.{write-next, write_done}
use Rattle.exchange.proofs.exporting.write_elements.Goals as goal

pub put_element-at-requires-clause-i_lt_capacity : goal.put_element-at-requires-clause-i_lt_capacity
put_element-at-requires-clause-i_lt_capacity c = let g = sound _ _ c.requires.image_value in omega arith

pub loop-i-preserved : goal.loop-i-preserved
loop-i-preserved c = search write-next

pub returns : goal.returns
returns c = search write_done
