-- The first of some bytes, given to a host.
-- Assumes nothing.
use mathlib.Core.Path.{◌≡◌, ap, ◌∙◌}
use mathlib.Core.List.{List}
use Prim.Native.Nat.{ℕ, min}
use lib.ListN.{length, take}
use Rattle.numbers.specs.Over.{over}
use Rattle.packet_state.specs.Answers.{Good}
use Rattle.packet_state.specs.declared.state.Outcome.{Outcome}
use Rattle.packet_state.specs.declared.state.State.{State}
use Rattle.packet_parts.specs.Answers.{ends}
use Rattle.packet_parts.specs.Replies.{first_of, reply_ends, replied_into}

pub reply_went : (bytes : List ℕ) (asked n : ℕ) (st : State) (buf new : List ℕ) (r : Outcome State) → n ≡ min asked (length bytes) → r ≡ ends st Good 0 n
    → new ≡ over buf 0 (take n bytes) → (r ≡ reply_ends bytes asked st) × (new ≡ replied_into bytes asked buf)
unfolding reply_ends first_of
reply_went bytes asked n st buf new r p q e = (rw (q, p), rw (e, p))

-- the bytes given are those that are meant
pub replied_as : (bytes meant : List ℕ) (asked : ℕ) (st : State) (buf new : List ℕ) (r : Outcome State) → bytes ≡ meant → r ≡ reply_ends bytes asked st
    → new ≡ replied_into bytes asked buf → (r ≡ reply_ends meant asked st) × (new ≡ replied_into meant asked buf)
replied_as bytes meant asked st buf new r e p q =
    (p ∙ ap (λ (b : List ℕ). reply_ends b asked st) e, q ∙ ap (λ (b : List ℕ). replied_into b asked buf) e)
