-- An item's turn, and the loop of `judge`: what is left to read gives what the whole gives.
-- Assumes nothing.
use mathlib.Core.Path.{◌≡◌, refl, sym, ◌∙◌}
use mathlib.Core.List.{List}
use Prim.Native.Nat.{ℕ, zero, suc, ◌+◌, ◌-◌, ◌<◌, ◌≤◌}
use native.Mathlib.Omega.{arith}
use borrow.Author.Tests.{ne_eqb}
use lib.Dec.{eqb}
use lib.ListN.{length}
use Rattle.std.specs.Prelude.{Result, Ok, Err}
use Rattle.numbers.specs.declared.refusals.Refusal.{Refusal}
use Rattle.numbers.specs.declared.refusals.Refusal.TheVariants.{OtherLength, TooManyItems}
use Rattle.numbers.proofs.Cases.{test}
use Rattle.tap.specs.declared.items.Item.{Item}
use Rattle.tap.specs.declared.items.TapeRecord.{TapeRecord}
use Rattle.tap.specs.declared.items.Item.TheVariants.{Ends, Mark, Record, Cut}
use Rattle.tap.specs.declared.judging.Found.{Found}
use Rattle.tap.specs.declared.judging.Turn.{Turn}
use Rattle.tap.specs.declared.judging.Turn.TheVariants.{Takes, Stops}
use Rattle.tap.specs.Items.{item_at}
use Rattle.tap.specs.Files.{Element, TapeMark, Reading, Refused, Holds, record_in, met, reads, with_first}
use Rattle.tap.specs.Judging.{turn_of, found_from}

-- ---- an item's turn, and what is met

-- after n elements: where the item is one more, what is found from there on
abbrev pub goes_on : ℕ → Result Turn Refusal → (ℕ → Result Found Refusal) → Result Found Refusal
goes_on n (Ok (Takes next)) on = on next
goes_on n (Ok (Stops used)) on = Ok (record { elements = n; used = used })
goes_on n (Err reason) on = Err reason

-- "12, record not B bytes"
pub record_other : (size : ℕ) (r : TapeRecord) → (r.length ≡ size → ⊥) → Err OtherLength ≡ turn_of size (Record r)
unfolding turn_of
record_other size r n = rw (ne_eqb r.length size n)

module _ (size : ℕ) (file : List ℕ) where
  found_first : (n : ℕ) (e : Element) (x : Reading) → found_from n (with_first e x) ≡ found_from (n + 1) x
  found_first n e (Refused reason) = refl
  found_first n e (Holds es used) = let y : n + suc (length es) ≡ n + 1 + length es = omega arith in rw y

  found_full : (n : ℕ) (x : Item) → found_from n (met size file (λ e next. Refused TooManyItems) x) ≡ goes_on n (turn_of size x) (λ next. Err TooManyItems)
  unfolding turn_of met
  found_full n (Ends used) = let y : n + 0 ≡ n = omega arith in rw y
  found_full n Cut = refl
  found_full n (Mark next) = refl
  found_full n (Record r) = test (eqb r.length size) (λ e. rw e) (λ e. rw e)

  found_met : (n room : ℕ) (x : Item)
      → found_from n (met size file (λ e next. with_first e (reads size file room next)) x)
      ≡ goes_on n (turn_of size x) (λ next. found_from (n + 1) (reads size file room next))
  unfolding turn_of met
  found_met n room (Ends used) = let y : n + 0 ≡ n = omega arith in rw y
  found_met n room Cut = refl
  found_met n room (Mark next) = found_first n TapeMark (reads size file room next)
  found_met n room (Record r) =
      test (eqb r.length size) (λ e. rw e (found_first n (record_in file r) (reads size file room r.next))) (λ e. rw e)

-- ---- the loop of `judge`

module _ (size : ℕ) (file : List ℕ) where
  -- n elements were met before place `at`, and so many may be met with the one that stands there
  abbrev pub left_from : (n at : ℕ) → ℕ → Result Found Refusal
  left_from n at zero = Err TooManyItems
  left_from n at (suc room) = found_from n (reads size file room at)

  left_met : (n at room : ℕ) → found_from n (reads size file room at) ≡ goes_on n (turn_of size (item_at file at)) (λ next. left_from (n + 1) next room)
  unfolding reads
  left_met n at zero = found_full size file n (item_at file at)
  left_met n at (suc room) = found_met size file n room (item_at file at)

  module _ (most at n : ℕ) where
    -- what is left gives what the whole gives
    abbrev pub Judging : Type 0
    Judging = left_from n at (most + 1 - n) ≡ found_from 0 (reads size file most 0)

    module _ (g : Judging) (l : n < most + 1) (x : Item) (t : Result Turn Refusal) (read : x ≡ item_at file at) (turned : t ≡ turn_of size x) where
      met_here : found_from 0 (reads size file most 0) ≡ goes_on n t (λ next. left_from (n + 1) next (most + 1 - (n + 1)))
      met_here =
          let y : most + 1 - n ≡ suc (most - n) = omega arith in
          let z : most + 1 - (n + 1) ≡ most - n = omega arith in
          sym g ∙ rw (y, z, turned, read) (left_met n at (most - n))

      pub judge_next : (next : ℕ) → t ≡ Ok (Takes next) → left_from (n + 1) next (most + 1 - (n + 1)) ≡ found_from 0 (reads size file most 0)
      judge_next next e = sym (rw e at met_here)

      pub judge_ends : (used : ℕ) → t ≡ Ok (Stops used) → Ok (record { elements = n; used = used }) ≡ found_from 0 (reads size file most 0)
      judge_ends used e = sym (rw e at met_here)

      pub judge_fails : (reason : Refusal) → t ≡ Err reason → Err reason ≡ found_from 0 (reads size file most 0)
      judge_fails reason e = sym (rw e at met_here)

      -- an element where as many were met as there is room for
      pub judge_full : most ≤ n → (next : ℕ) → t ≡ Ok (Takes next) → Err TooManyItems ≡ found_from 0 (reads size file most 0)
      judge_full f next e = let y : most + 1 - (n + 1) ≡ 0 = omega arith in rw y at (judge_next next e)

pub ruleset judge_ways = (judge_next, judge_ends, judge_fails, judge_full)
