-- `work::write` meets its contract.
use native.Mathlib.Nat.{mul-le-mul_right}
use native.Mathlib.Omega.{arith}
use Rattle.image.proofs.HeaderLaws.{sound}
use Rattle.transfer.proofs.StopLaws.{laid-less}
use Rattle.floppy.proofs.work.write.Goals as goal

pub write_blocks-moved-requires : goal.write_blocks-moved-requires
write_blocks-moved-requires c =
    let p = c.requires.passed in
    let g = sound _ _ p.header in
    let e = c.end.ensures in
    let m = mul-le-mul_right c.args.h.size p.within in
    record {
      size_bound = omega arith;
      end_bound = omega (arith, p.within);
      end_bound_2 = omega (arith, p.within);
      size_in_bounds = rw e (omega arith);
      p_le_end = omega (arith, p.place);
      size_in_bounds_2 = c.requires.size_in_bounds;
    }

pub end_moved-requires : goal.end_moved-requires
end_moved-requires c =
    let g = sound _ _ c.requires.passed.header in
    let l = laid-less _ _ _ _ _ _ _ _ c.write_blocks-moved.ensures in
    record { size_bound = omega arith; left_le_asked = omega arith }
