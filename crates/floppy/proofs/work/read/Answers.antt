-- `work::read` meets its contract.
use native.Mathlib.Nat.{mul-le-mul_right}
use native.Mathlib.Omega.{arith}
use Rattle.image.proofs.HeaderLaws.{sound}
use Rattle.transfer.proofs.ReadLaws.{came-less, came-few}
use Rattle.floppy.proofs.work.read.Goals as goal

pub read_blocks-moved-requires : goal.read_blocks-moved-requires
read_blocks-moved-requires c =
    let p = c.requires.passed in
    let g = sound _ _ p.header in
    let e = c.end.ensures in
    let m = mul-le-mul_right c.args.h.size p.within in
    record {
      size_bound = omega arith;
      end_bound = omega (arith, p.within);
      end_in_bounds = omega (arith, p.within);
      size_in_bounds = rw e (omega arith);
      p_le_end = omega (arith, p.place);
      size_in_bounds_2 = c.requires.size_in_bounds;
    }

pub end_read-requires : goal.end_read-requires
end_read-requires c =
    let p = c.requires.passed in
    let g = sound _ _ p.header in
    let e = c.end.ensures in
    let run = c.read_blocks-moved.ensures in
    let l = came-less _ _ _ _ _ _ _ _ _ _ _ run in
    let f = came-few _ _ _ _ _ _ _ _ _ _ _ run (rw e p.place) in
    record {
      size_bound = omega arith;
      left_le_asked = omega arith;
      left_bound = omega (arith, p.within);
      left_in_bounds = omega (arith, p.within);
    }
