-- 02, A6: "a READ's answer also says how many of the blocks copied were marked".
-- Assumes nothing.
use Rattle.std.specs.Prelude.{ℕ, zero, suc, ◌+◌, List, if◌then◌else◌}
use Rattle.image.specs.declared.elements.Kind.{Kind}
use Rattle.image.specs.Elements.{is_marked, kind_at}

-- an element counts 1 where it is marked
abbrev pub marked_in : Kind → ℕ
marked_in kind = if is_marked kind then 1 else 0

module _ (s : List ℕ) (kinds : ℕ) where
  -- of n elements from place p on
  unfoldable pub marked_from : ℕ → ℕ → ℕ
  marked_from zero p = 0
  marked_from (suc n) p = marked_in (kind_at s kinds p) + marked_from n (p + 1)
