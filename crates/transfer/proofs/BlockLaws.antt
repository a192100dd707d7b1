-- What READ moves are blocks of the image, for any end up to the capacity.
-- Assumes nothing.
use Rattle.std.specs.Prelude.{Some}
use Prim.Native.Nat.{ℕ, ◌+◌, ◌*◌, ◌≤◌, ◌<◌}
use native.Mathlib.Nat.{zero-add, mul-le-mul_right}
use native.Mathlib.Omega.{arith}
use mathlib.Core.List.{List}
use mathlib.Core.Path.{◌≡◌, sym}
use lib.ListN.{length}
use Rattle.numbers.specs.Over.{part}
use Rattle.image.specs.declared.header.Header.{Header}
use Rattle.image.specs.Header.{header_of}
use Rattle.image.specs.Sameness.{IsBlock}
use Rattle.image.proofs.HeaderLaws.{is_block, sound}
use Rattle.transfer.specs.Reading.{read_from}
use Rattle.transfer.proofs.ReadLaws.{read_run, read-block, data_moved}

pub moved_blocks : (s : List ℕ) (h : Header) → header_of s ≡ Some h → (end : ℕ) → end ≤ h.capacity → (n p : ℕ) (buf : List ℕ)
    → n * h.size ≤ length buf → (k : ℕ) → k + (read_from s h.size h.kinds h.blocks end n 0 p buf).moved.left < n
    → IsBlock end s (p + k) (part (read_from s h.size h.kinds h.blocks end n 0 p buf).buf (k * h.size) h.size)
moved_blocks s h good end inside n p buf room k m =
    let g = sound s h good in
    let e = mul-le-mul_right h.size inside in
    let d = data_moved s h.size h.kinds h.blocks end (read_run s h.size h.kinds h.blocks end n 0 p buf) k m in
    let z = read-block s h.size h.kinds h.blocks end n 0 p buf (omega arith) (omega arith) k m in
    is_block _ s h (p + k) _ good d.0 d.1 (sym (rw zero-add at z))
