-- `work::space_run` meets its contract.
use native.Mathlib.Omega.{arith}
use Rattle.image.proofs.HeaderLaws.{sound}
use Rattle.stream.proofs.work.space_run.Goals as goal

pub blocks_back-requires : goal.blocks_back-requires
blocks_back-requires c = let g = sound _ _ c.requires.image_value in omega arith

pub blocks_on-requires : goal.blocks_on-requires
blocks_on-requires c = let g = sound _ _ c.requires.image_value in omega arith

pub marks_back-requires : goal.marks_back-requires
marks_back-requires c = let g = sound _ _ c.requires.image_value in omega arith

pub marks_on-requires : goal.marks_on-requires
marks_on-requires c = let g = sound _ _ c.requires.image_value in omega arith
