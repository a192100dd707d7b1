-- `work::read` meets its contract.
use native.Mathlib.Omega.{arith}
use Rattle.image.proofs.HeaderLaws.{sound}
use Rattle.transfer.proofs.ReadLaws.{came-less, came-few}
use Rattle.stream.proofs.work.read.Goals as goal

pub read_blocks-moved-requires : goal.read_blocks-moved-requires
read_blocks-moved-requires c =
    let g = sound _ _ c.requires.image_value in
    record {
      size_bound = omega arith;
      end_bound = omega arith;
      end_in_bounds = omega arith;
      size_in_bounds = omega arith;
      p_le_end = omega arith;
      size_in_bounds_2 = c.requires.size_in_bounds;
    }

pub end_read-requires : goal.end_read-requires
end_read-requires c =
    let g = sound _ _ c.requires.image_value in
    let run = c.read_blocks-moved.ensures in
    let l = came-less _ _ _ _ _ _ _ _ _ _ _ run in
    let f = came-few _ _ _ _ _ _ _ _ _ _ _ run (omega arith) in
    record { size_bound = omega arith; left_le_asked = omega arith; left_bound = omega arith; left_in_bounds = omega arith }
