-- 01, 11h SPACE: "Code 0 passes blocks, unreadable too; a filemark is crossed and stops it. Code 1 passes filemarks, ending beyond the last, on the
-- beginning side when going back." The end of data and the beginning stop both.
-- Assumes nothing.
use Rattle.std.specs.Prelude.{ℕ, zero, suc, ◌+◌, ◌-◌, List, if◌then◌else◌}
use Rattle.numbers.specs.Choice.{◌≤ᵇ◌, ◌≡ᵇ◌}
use Rattle.image.specs.declared.elements.Kind.{Kind}
use Rattle.image.specs.Elements.{is_filemark, kind_at}
use Rattle.transfer.specs.declared.Moved.{Moved}
use Rattle.transfer.specs.declared.Stop.TheVariants.{Full, AtFilemark, AtEnd, AtBeginning}
use Rattle.transfer.specs.Moving.{halts}

-- how many filemarks are left to pass, once this element is passed
abbrev pub marks_left : Kind → ℕ → ℕ
marks_left kind left = if is_filemark kind then left - 1 else left

module _ (s : List ℕ) (kinds : ℕ) where
  -- `left` blocks on from place p, to `end` at most
  unfoldable pub blocks_on : ℕ → ℕ → ℕ → Moved
  blocks_on end zero p = halts p 0 Full
  blocks_on end (suc left) p =
      if end ≤ᵇ p then halts p (suc left) AtEnd else
      if is_filemark (kind_at s kinds p) then halts (p + 1) (suc left) AtFilemark else
      blocks_on end left (p + 1)

  -- `left` blocks back from place p
  unfoldable pub blocks_back : ℕ → ℕ → Moved
  blocks_back p zero = halts p 0 Full
  blocks_back zero (suc left) = halts 0 (suc left) AtBeginning
  blocks_back (suc p) (suc left) =
      if is_filemark (kind_at s kinds p) then halts p (suc left) AtFilemark else
      blocks_back p left

  -- `left` filemarks on from place p, with `ahead` elements before the end
  unfoldable pub marks_on : ℕ → ℕ → ℕ → Moved
  marks_on zero left p =
      if left ≡ᵇ 0 then halts p 0 Full else
      halts p left AtEnd
  marks_on (suc ahead) left p =
      if left ≡ᵇ 0 then halts p 0 Full else
      marks_on ahead (marks_left (kind_at s kinds p) left) (p + 1)

  -- `left` filemarks back from place p
  unfoldable pub marks_back : ℕ → ℕ → Moved
  marks_back zero left =
      if left ≡ᵇ 0 then halts 0 0 Full else
      halts 0 left AtBeginning
  marks_back (suc p) left =
      if left ≡ᵇ 0 then halts (suc p) 0 Full else
      marks_back p (marks_left (kind_at s kinds p) left)
