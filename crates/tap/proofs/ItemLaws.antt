-- The ways of `record_at` and `item_at`.
-- Assumes nothing.
use mathlib.Core.Path.{◌≡◌}
use mathlib.Core.List.{List}
use Prim.Native.Nat.{ℕ, ◌+◌, ◌-◌, ◌<◌, ◌≤◌}
use native.Mathlib.Omega.{arith}
use borrow.Author.Tests.{lt-ltb, le-ltb, le-leb, lt-leb, eq-eqb, ne_eqb}
use lib.ListN.{length}
use Rattle.numbers.specs.Words.{word_at}
use Rattle.tap.specs.declared.items.Item.{Item}
use Rattle.tap.specs.declared.items.Item.TheVariants.{Ends, Mark, Record, Cut}
use Rattle.tap.specs.Items.{end_mark, length_in, is_unreadable, padded, record_at, item_at}

-- ---- of `record_at`

module _ (file : List ℕ) (at w : ℕ) (first : at + 4 ≤ length file) where
  abbrev span : ℕ
  span = padded (length_in w)

  pub cut_short : length file - at < span + 8 → Cut ≡ record_at file at w
  unfolding record_at
  cut_short l = rw (lt-ltb (length file) (at + span + 8) (omega arith))

  module _ (whole : span + 8 ≤ length file - at) (second : ℕ) (read : second ≡ word_at file (at + span + 4)) where
    pub differs : (second ≡ w → ⊥) → Cut ≡ record_at file at w
    unfolding record_at
    differs n = rw (le-ltb (length file) (at + span + 8) (omega arith), ← read, ne_eqb second w n)

    pub is-record : second ≡ w
        → Record (record { from = at + 4; length = length_in w; unreadable = is_unreadable w; next = at + span + 8 }) ≡ record_at file at w
    unfolding record_at
    is-record e = rw (le-ltb (length file) (at + span + 8) (omega arith), ← read, eq-eqb second w e)

pub ruleset record_ways = (cut_short, differs, is-record)

-- ---- of `item_at`

module _ (file : List ℕ) (at : ℕ) where
  pub file_ends : length file ≤ at → Ends at ≡ item_at file at
  unfolding item_at
  file_ends l = rw (le-leb (length file) at l)

  module _ (more : at < length file) where
    pub word_cut : length file - at < 4 → Cut ≡ item_at file at
    unfolding item_at
    word_cut l = rw (lt-leb (length file) at more, lt-ltb (length file) (at + 4) (omega arith))

    module _ (whole : 4 ≤ length file - at) (w : ℕ) (read : w ≡ word_at file at) where
      pub is_mark_lem : w ≡ 0 → Mark (at + 4) ≡ item_at file at
      unfolding item_at
      is_mark_lem e = rw (lt-leb (length file) at more, le-ltb (length file) (at + 4) (omega arith), ← read, eq-eqb w 0 e)

      pub mark-ends : (w ≡ 0 → ⊥) → w ≡ end_mark → Ends (at + 4) ≡ item_at file at
      unfolding item_at
      mark-ends n e = rw (lt-leb (length file) at more, le-ltb (length file) (at + 4) (omega arith), ← read, ne_eqb w 0 n, eq-eqb w end_mark e)

      pub else-record : (x : Item) → (w ≡ 0 → ⊥) → (w ≡ end_mark → ⊥) → x ≡ record_at file at w → x ≡ item_at file at
      unfolding item_at
      else-record x n m e =
          rw (lt-leb (length file) at more, le-ltb (length file) (at + 4) (omega arith), ← read, ne_eqb w 0 n, ne_eqb w end_mark m) e

pub ruleset item_ways = (file_ends, word_cut, is_mark_lem, mark-ends, else-record)
