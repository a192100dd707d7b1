-- The bytes that a reply gives.
-- Assumes nothing.
use Prim.Native.Nat.{ℕ, ◌≤◌, ◌<◌, min}
use native.Mathlib.Nat.{zero-add}
use native.Mathlib.Omega.{arith}
use mathlib.Core.List.{List}
use mathlib.Core.Path.{◌≡◌, ◌∙◌}
use lib.ListN.{length, get_or, length-take}
use lib.Seq.{get_or-take}
use Rattle.numbers.proofs.OverLaws.{over_in}
use Rattle.packet_parts.specs.Replies.{first_of, replied_into}

pub first_length : (bytes : List ℕ) (asked : ℕ) → length (first_of bytes asked) ≡ min asked (length bytes)
unfolding first_of
first_length bytes asked = rw length-take (omega arith)

-- each byte of it that is asked for stands in the buffer
pub reply_at : (bytes buf : List ℕ) (asked i : ℕ) → i < asked → i < length bytes → min asked (length bytes) ≤ length buf
    → get_or (replied_into bytes asked buf) i 0 ≡ get_or bytes i 0
unfolding first_of
reply_at bytes buf asked i few has room =
    let f = first_length bytes asked in
    let o = over_in buf (first_of bytes asked) 0 i (omega arith) (omega arith) in
    rw zero-add at o ∙ get_or-take (min asked (length bytes)) bytes i 0 (omega arith)
