-- Marked elements, one at a time: those found and those of the rest are those of the whole.
-- Assumes nothing.
use mathlib.Core.Path.{◌≡◌, refl}
use mathlib.Core.List.{List}
use Prim.Native.Nat.{ℕ, zero, suc, ◌+◌, ◌-◌, ◌<◌, ◌≤◌}
use native.Mathlib.Nat.{add-sub_cancel_left}
use native.Mathlib.Omega.{arith}
use Rattle.image.specs.declared.elements.Kind.{Kind}
use Rattle.image.specs.declared.elements.Kind.TheVariants.{Data, Filemark, Unreadable, Marked}
use Rattle.image.specs.Elements.{kind_at}
use Rattle.transfer.specs.Marked.{marked_in, marked_from}
use Rattle.transfer.proofs.EndLaws.{none_left, some_left}

-- the loop's steps: the places from `at` to the end are left
module _ (s : List ℕ) (kinds end at : ℕ) where
  pub none_more : at ≡ end → marked_from s kinds (end - at) at ≡ 0
  unfolding marked_from
  none_more e = rw (none_left end at e) refl

  pub one_more : at < end → marked_from s kinds (end - at) at ≡ marked_in (kind_at s kinds at) + marked_from s kinds (end - (at + 1)) (at + 1)
  unfolding marked_from
  one_more l = rw (some_left end at l) refl

module _ (s : List ℕ) (kinds : ℕ) where
  -- an element counts 1 at most
  pub one_at_most : (p one : ℕ) (kind : Kind) → kind ≡ kind_at s kinds p → one ≡ marked_in kind → one ≤ 1
  one_at_most p one Data e q = omega arith
  one_at_most p one Filemark e q = omega arith
  one_at_most p one Unreadable e q = omega arith
  one_at_most p one Marked e q = omega arith

  -- no more than all
  pub marked_few : (n p : ℕ) → marked_from s kinds n p ≤ n
  unfolding marked_from
  marked_few zero p = omega arith
  marked_few (suc n) p =
      let o = one_at_most p _ (kind_at s kinds p) refl refl in
      let r = marked_few n (p + 1) in
      omega arith

pub ruleset marked_ways = (none_more, one_more, marked_few, add-sub_cancel_left)
