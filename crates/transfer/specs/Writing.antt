-- 01, 0Ah WRITE and 10h WRITE FILEMARK, one element at a time: "At P = C: stop .. Else bytes and kind 1 stored, P + 1". A run never touches the header.
-- Assumes nothing.
use Rattle.std.specs.Prelude.{ℕ, zero, suc, ◌+◌, List, if◌then◌else◌}
use Rattle.numbers.specs.Choice.{◌≤ᵇ◌}
use Rattle.numbers.specs.Over.{part}
use Rattle.image.specs.Elements.{lay_block, lay_mark}
use Rattle.transfer.specs.declared.Moved.{Moved}
use Rattle.transfer.specs.declared.Stop.TheVariants.{Full, AtEnd}
use Rattle.transfer.specs.Moving.{halts}

-- the image as a write leaves it, and how it ended
pub record Writing : Type 0 where
  pub image : List ℕ
  pub moved : Moved

abbrev pub writes : List ℕ → Moved → Writing
writes s moved = record { image = s; moved = moved }

-- `left` elements laid from place p on, up to the end, each with so many bytes from offset off on
module _ (lay : ℕ → ℕ → List ℕ → List ℕ) (size end : ℕ) where
  unfoldable pub lay_from : ℕ → ℕ → ℕ → List ℕ → Writing
  lay_from zero off p s = writes s (halts p 0 Full)
  lay_from (suc left) off p s =
      if end ≤ᵇ p then writes s (halts p (suc left) AtEnd) else
      lay_from left (off + size) (p + 1) (lay off p s)

-- the block of src from offset off on, as element p
abbrev pub block_of : ℕ → ℕ → ℕ → List ℕ → ℕ → ℕ → List ℕ → List ℕ
block_of size kinds blocks src off p s = lay_block s size kinds blocks p (part src off size)

abbrev pub write_from : ℕ → ℕ → ℕ → ℕ → List ℕ → ℕ → ℕ → ℕ → List ℕ → Writing
write_from size kinds blocks end src left off p s = lay_from (block_of size kinds blocks src) size end left off p s

-- "N (bytes 2-4) filemarks by WRITE's rules, .. block bytes untouched"
abbrev pub mark_of : ℕ → ℕ → ℕ → List ℕ → List ℕ
mark_of kinds off p s = lay_mark s kinds p

abbrev pub mark_from : ℕ → ℕ → ℕ → ℕ → List ℕ → Writing
mark_from kinds end left p s = lay_from (mark_of kinds) 0 end left 0 p s
