-- 01, 08h READ, one element at a time: "Data: copied, P + 1. Filemark: P + 1, stop .. Unreadable: P + 1, stop .. P = U: stop".
-- Assumes nothing.
use Rattle.std.specs.Prelude.{ℕ, zero, suc, ◌+◌, List, if◌then◌else◌}
use Rattle.numbers.specs.Choice.{◌≤ᵇ◌}
use Rattle.numbers.specs.Over.{over}
use Rattle.image.specs.declared.elements.Kind.{Kind}
use Rattle.image.specs.Elements.{holds_data, is_filemark, kind_at, block_at}
use Rattle.transfer.specs.declared.Moved.{Moved}
use Rattle.transfer.specs.declared.Stop.{Stop}
use Rattle.transfer.specs.declared.Stop.TheVariants.{Full, AtFilemark, AtBadBlock, AtEnd}
use Rattle.transfer.specs.Moving.{halts}

-- the buffer as READ leaves it, and how it ended
pub record Reading : Type 0 where
  pub buf : List ℕ
  pub moved : Moved

abbrev pub reads : List ℕ → Moved → Reading
reads buf moved = record { buf = buf; moved = moved }

-- why READ stops at an element that holds no data
unfoldable pub stop_at : Kind → Stop
stop_at kind = if is_filemark kind then AtFilemark else AtBadBlock

-- from place p of the image s with its end at `end`, `left` blocks into buf from offset off on:
-- "Each transfer stores block by block into the rest of the host's buffer; bytes beyond the transfer stay."
module _ (s : List ℕ) (size kinds blocks end : ℕ) where
  unfoldable pub read_from : ℕ → ℕ → ℕ → List ℕ → Reading
  read_from zero off p buf = reads buf (halts p 0 Full)
  read_from (suc left) off p buf =
      if end ≤ᵇ p then reads buf (halts p (suc left) AtEnd) else
      if holds_data (kind_at s kinds p) then read_from left (off + size) (p + 1) (over buf off (block_at s size blocks p)) else
      reads buf (halts (p + 1) (suc left) (stop_at (kind_at s kinds p)))
