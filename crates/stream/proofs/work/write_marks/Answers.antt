-- `work::write_marks` meets its contract.
use native.Mathlib.Omega.{arith}
use Rattle.image.proofs.HeaderLaws.{sound}
use Rattle.transfer.proofs.StopLaws.{laid-less, laid-few}
use Rattle.stream.proofs.work.write_marks.Goals as goal

pub write_filemarks-moved-requires : goal.write_filemarks-moved-requires
write_filemarks-moved-requires c =
    let g = sound _ _ c.requires.image_value in
    record { end_bound = omega arith; end_in_bounds = omega arith; p_le_end = omega arith }

pub record_to-requires : goal.record_to-requires
record_to-requires c = let g = sound _ _ c.requires.image_value in omega arith

pub end_moved-requires : goal.end_moved-requires
end_moved-requires c =
    let g = sound _ _ c.requires.image_value in
    let run = c.write_filemarks-moved.ensures in
    let l = laid-less _ _ _ _ _ _ _ _ run in
    let f = laid-few _ _ _ _ _ _ _ _ run (omega arith) in
    record { size_bound = omega arith; left_le_asked = omega arith }
