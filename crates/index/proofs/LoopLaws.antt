-- The loops over an index, one entry at a time: what is left to do gives what the whole gives.
-- Assumes nothing.
use Rattle.std.specs.Prelude.{if◌then◌else◌, Option, Some, None}
use mathlib.Core.Path.{◌≡◌, refl, sym, ap, ◌∙◌}
use mathlib.Core.Bool.{Bool, true, false, ◌&&◌, true≢false}
use mathlib.Core.List.{List, [], ◌∷◌, ◌++◌}
use Prim.Native.Nat.{ℕ, zero, suc, ◌+◌, ◌*◌, ◌-◌, ◌<◌, ◌≤◌}
use native.Mathlib.Omega.{arith}
use borrow.Author.Tests.{lt-ltb, le-ltb, ltb-true, leb-true, leb-false, eq-eqb, eqb-true, eqb-false}
use lib.Dec.{eqb, ltb, leb}
use lib.ListN.{length, get_or, replicate}
use Rattle.numbers.specs.Counts.{put_count, count_bytes}
use Rattle.numbers.specs.Over.{over, part}
use Rattle.numbers.proofs.Cases.{test}
use Rattle.numbers.proofs.CountLaws.{bytes_length, put_count_over}
use Rattle.numbers.proofs.OverLaws.{over_more, over_none, part_first}
use Rattle.image.specs.declared.elements.Kind.{Kind}
use Rattle.image.specs.Elements.{is_filemark, kind_at}
use Rattle.index.specs.Checking.{holds_entries, compared_at, compared_with, are_blank}
use Rattle.index.specs.Entries.{marks_from, no_filemark, entry_bytes}
use Rattle.index.specs.Rewriting.{entries_put}
use Rattle.index.specs.Spacing.{entry_at, AllBelow, entries_below}
use Rattle.index.proofs.EntryLaws.{entries_length, entries_append}
use Rattle.index.proofs.MarkLaws.{with_place, marks_none, marks_first}

-- ---- halving

-- the entries before `low` are below place p, those from `high` on are not
pub record Halved (index : List ℕ) (p n low high : ℕ) : Type 0 where
  pub ordered : low ≤ high
  pub within : high ≤ n
  pub below : AllBelow index low p
  pub above : (i : ℕ) → high ≤ i → i < n → p ≤ entry_at index i

module _ (index : List ℕ) (p : ℕ) where
  entry_counts : (n : ℕ) → entry_at index n < p → entries_below index p (suc n) ≡ 1 + entries_below index p n
  unfolding entries_below
  entry_counts n l = rw (lt-ltb (entry_at index n) p l) refl

  entry_passed : (n : ℕ) → p ≤ entry_at index n → entries_below index p (suc n) ≡ entries_below index p n
  unfolding entries_below
  entry_passed n l = rw (le-ltb (entry_at index n) p l) (omega arith)

  -- a place that parts them counts them
  pub parts_count : (n k : ℕ) → k ≤ n → AllBelow index k p → ((i : ℕ) → k ≤ i → i < n → p ≤ entry_at index i) → k ≡ entries_below index p n
  unfolding entries_below
  parts_count zero k l b a = omega arith
  parts_count (suc n) k l b a =
      test (leb k n)
      (λ t.
      let m = leb-true k n t in
      rw (entry_passed n (a n m (omega arith))) (parts_count n k m b (λ i x y. a i x (omega arith))))
      (λ t.
      let m = leb-false k n t in
      let w = parts_count n n (omega arith) (λ i x. b i (omega arith)) (λ i x y. absurd (omega arith)) in
      rw (entry_counts n (b n (omega arith))) (omega (arith, w)))

  pub halved_done : (n low high : ℕ) → Halved index p n low high → high ≤ low → low ≡ entries_below index p n
  halved_done n low high g l =
      parts_count n low (omega (arith, g.ordered, g.within)) g.below (λ i x y. g.above i (omega (arith, g.ordered)) y)

-- a place further on has no fewer entries below it
pub below_more : (index : List ℕ) (p q n : ℕ) → p ≤ q → entries_below index p n ≤ entries_below index q n
unfolding entries_below
below_more index p q zero l = omega arith
below_more index p q (suc n) l =
    let r = below_more index p q n l in
    test (ltb (entry_at index n) p)
    (λ t. rw (t, lt-ltb (entry_at index n) q (omega (arith, ltb-true (entry_at index n) p t))) (omega arith))
    (λ t. rw t (omega arith))

-- ---- entries put

-- one entry, and then the rest after it
pub put_more : (index ps : List ℕ) (n p : ℕ) → 4 * n + 4 ≤ length index
    → over (put_count index (4 * n) 4 p) (4 * (n + 1)) (entry_bytes ps) ≡ over index (4 * n) (entry_bytes (p ∷ ps))
put_more index ps n p l =
    let m : 4 * (n + 1) ≡ 4 * n + length (count_bytes 4 p) = omega (arith, bytes_length 4 p) in
    ap (λ (t : List ℕ). over t (4 * (n + 1)) (entry_bytes ps)) (put_count_over index (4 * n) 4 p l)
    ∙ ap (λ (i : ℕ). over (over index (4 * n) (count_bytes 4 p)) i (entry_bytes ps)) m
    ∙ over_more index (count_bytes 4 p) (entry_bytes ps) (4 * n) (omega (arith, bytes_length 4 p))

-- those of place p, where it is a filemark's
pub put_place : (mark : Bool) (index ps : List ℕ) (n p : ℕ) → 4 * n + 4 ≤ length index
    → over (if mark then put_count index (4 * n) 4 p else index) (4 * (if mark then n + 1 else n)) (entry_bytes ps)
    ≡ over index (4 * n) (entry_bytes (with_place mark p ps))
put_place true index ps n p l = put_more index ps n p l
put_place false index ps n p l = refl

next_count : (mark : Bool) (ps : List ℕ) (n p : ℕ) → (if mark then n + 1 else n) + length ps ≡ n + length (with_place mark p ps)
next_count true ps n p = omega arith
next_count false ps n p = refl

next_few : (mark : Bool) (n at : ℕ) → n ≤ at → (if mark then n + 1 else n) ≤ at + 1
next_few true n at l = omega arith
next_few false n at l = omega arith

-- the filemarks from place `at` to the end
abbrev pub ahead : List ℕ → ℕ → ℕ → ℕ → List ℕ
ahead s kinds end at = marks_from s kinds (end - at) at

module _ (s : List ℕ) (kinds end at : ℕ) where
  pub ahead_none : end ≤ at → ahead s kinds end at ≡ []
  ahead_none l = let z : end - at ≡ 0 = omega arith in rw (z, marks_none) refl

  pub ahead_first : (kind : Kind) (mark : Bool) → at < end → kind ≡ kind_at s kinds at → mark ≡ is_filemark kind
      → ahead s kinds end at ≡ with_place mark at (ahead s kinds end (at + 1))
  ahead_first kind mark l e q =
      let z : end - at ≡ suc (end - (at + 1)) = omega arith in
      rw (z, marks_first, ← e, ← q) refl

-- filemarks put as far as place `at`, up to entry n: X are the bytes in the end, N is the entry after the last
pub record Putting (s : List ℕ) (kinds end : ℕ) (X : List ℕ) (N : ℕ) (index : List ℕ) (at n : ℕ) : Type 0 where
  pub few : n ≤ at
  pub bytes : over index (4 * n) (entry_bytes (ahead s kinds end at)) ≡ X
  pub count : n + length (ahead s kinds end at) ≡ N

module _ (s : List ℕ) (kinds end : ℕ) (X : List ℕ) (N : ℕ) where
  pub put_next : (index new : List ℕ) (at n next : ℕ) (kind : Kind) (mark : Bool) → Putting s kinds end X N index at n → at < end
      → 4 * end ≤ length index → kind ≡ kind_at s kinds at → mark ≡ is_filemark kind
      → next ≡ (if mark then n + 1 else n) → new ≡ (if mark then put_count index (4 * n) 4 at else index)
      → Putting s kinds end X N new (at + 1) next
  put_next index new at n next kind mark g l h e q a b =
      let f = ahead_first s kinds end at kind mark l e q in
      record {
        few = rw a (next_few mark n at g.few);
        bytes =
            rw (a, b)
            (put_place mark index (ahead s kinds end (at + 1)) n at (omega (arith, g.few))
            ∙ ap (λ (ps : List ℕ). over index (4 * n) (entry_bytes ps)) (sym f) ∙ g.bytes);
        count = rw a (next_count mark (ahead s kinds end (at + 1)) n at) ∙ ap (λ (ps : List ℕ). n + length ps) (sym f) ∙ g.count;
      }

  pub put_done : (index : List ℕ) (at n : ℕ) → Putting s kinds end X N index at n → end ≤ at → (n ≡ N) × (index ≡ X)
  put_done index at n g l =
      let z = ahead_none s kinds end at l in (
        omega (arith, (rw z at g.count)),
        sym (over_none index (4 * n)) ∙ rw z at g.bytes,
      )

-- ---- entries blanked

blanks_first : (n last : ℕ) → n < last → replicate (last - n) no_filemark ≡ no_filemark ∷ replicate (last - (n + 1)) no_filemark
blanks_first n last l = let z : last - n ≡ suc (last - (n + 1)) = omega arith in rw z refl

blanks_none : (n last : ℕ) → last ≤ n → replicate (last - n) no_filemark ≡ []
blanks_none n last l = let z : last - n ≡ 0 = omega arith in rw z refl

-- entries blanked up to entry n: X are the bytes in the end
pub blank_next : (last : ℕ) (X index new : List ℕ) (n : ℕ) → over index (4 * n) (entry_bytes (replicate (last - n) no_filemark)) ≡ X → n < last
    → 4 * last ≤ length index → new ≡ put_count index (4 * n) 4 no_filemark
    → over new (4 * (n + 1)) (entry_bytes (replicate (last - (n + 1)) no_filemark)) ≡ X
blank_next last X index new n g l h e =
    rw e (put_more index (replicate (last - (n + 1)) no_filemark) n no_filemark (omega arith))
    ∙ ap (λ (ps : List ℕ). over index (4 * n) (entry_bytes ps)) (sym (blanks_first n last l)) ∙ g

pub blank_done : (last : ℕ) (X index : List ℕ) (n : ℕ) → over index (4 * n) (entry_bytes (replicate (last - n) no_filemark)) ≡ X → last ≤ n → index ≡ X
blank_done last X index n g l = sym (over_none index (4 * n)) ∙ rw (blanks_none n last l) at g

-- the filemarks, and then the blanks
pub put_both : (index mid new marks : List ℕ) (first last n : ℕ) → 4 * n ≤ length index → n ≡ first + length marks
    → mid ≡ over index (4 * first) (entry_bytes marks) → new ≡ over mid (4 * n) (entry_bytes (replicate (last - n) no_filemark))
    → new ≡ entries_put index first last marks
put_both index mid new marks first last n l e a b =
    let blanks = replicate (last - n) no_filemark in
    let z : 4 * n ≡ 4 * first + length (entry_bytes marks) = omega (arith, entries_length marks) in
    b ∙ ap (λ (xs : List ℕ). over xs (4 * n) (entry_bytes blanks)) a
    ∙ ap (λ (i : ℕ). over (over index (4 * first) (entry_bytes marks)) i (entry_bytes blanks)) z
    ∙ over_more index (entry_bytes marks) (entry_bytes blanks) (4 * first) (omega (arith, entries_length marks))
    ∙ ap (λ (xs : List ℕ). over index (4 * first) xs) (sym (entries_append marks blanks))
    ∙ ap (λ (i : ℕ). over index (4 * first) (entry_bytes (marks ++ replicate (last - i) no_filemark))) e

-- ---- entries compared

and_assoc : (a b c : Bool) → (a && (b && c)) ≡ ((a && b) && c)
and_assoc true b c = refl
and_assoc false b c = refl

pub holds_none : (index : List ℕ) (n : ℕ) → holds_entries index n [] ≡ true
unfolding holds_entries
holds_none index n = refl

pub holds_first : (index ps : List ℕ) (n p : ℕ) → holds_entries index n (p ∷ ps) ≡ (eqb (entry_at index n) p && holds_entries index (n + 1) ps)
unfolding holds_entries
holds_first index ps n p = refl

-- two lists of entries, one after the other
pub holds_append : (index ps qs : List ℕ) (n : ℕ) → holds_entries index n (ps ++ qs) ≡ (holds_entries index n ps && holds_entries index (n + length ps) qs)
holds_append index [] qs n = let z : n + 0 ≡ n = omega arith in rw (holds_none, z) refl
holds_append index (p ∷ ps) qs n =
    let z : n + suc (length ps) ≡ n + 1 + length ps = omega arith in
    rw (holds_first, holds_first, holds_append index ps qs (n + 1), z) (and_assoc (eqb (entry_at index n) p) _ _)

-- what a choice of the two was
pub differs_by : (b : Bool) (n : ℕ) → (if b then Some n else None) ≡ None → b ≡ false
differs_by true n e = (cc)
differs_by false n e = refl

pub same_by : (b : Bool) (m n : ℕ) → (if b then Some m else None) ≡ Some n → (b ≡ true) × (n ≡ m)
same_by true m n e = (refl, (cc))
same_by false m n e = ((cc), (cc))

-- what comparing these filemarks with the entries from entry n on comes to
abbrev pub compared_on : List ℕ → ℕ → List ℕ → Option ℕ
compared_on index n ps = if holds_entries index n ps then Some (n + length ps) else None

-- place p agrees with entry n, and the rest is compared with those after it
place_next : (mark : Bool) (index ps : List ℕ) (n p next : ℕ) → compared_at mark index n p ≡ Some next
    → (next ≡ (if mark then n + 1 else n)) × (compared_on index next ps ≡ compared_on index n (with_place mark p ps))
unfolding compared_at
place_next false index ps n p next e = let z : next ≡ n = (same_by true n next e).1 in (z, rw z refl)
place_next true index ps n p next e =
    let z = same_by (eqb (entry_at index n) p) (n + 1) next e in
    let y : n + 1 + length ps ≡ n + suc (length ps) = omega arith in
    (z.1, rw (z.1, holds_first, z.0, y) refl)

place_differs : (mark : Bool) (index ps : List ℕ) (n p : ℕ) → compared_at mark index n p ≡ None → compared_on index n (with_place mark p ps) ≡ None
unfolding compared_at
place_differs false index ps n p e = absurd (true≢false (differs_by true n e))
place_differs true index ps n p e = rw (holds_first, differs_by (eqb (entry_at index n) p) (n + 1) e) refl

-- filemarks compared as far as place `at`, up to entry n: R is what comparing them all comes to
pub record Comparing (s : List ℕ) (kinds end : ℕ) (index : List ℕ) (R : Option ℕ) (at n : ℕ) : Type 0 where
  pub few : n ≤ at
  pub rest : compared_on index n (ahead s kinds end at) ≡ R

module _ (s : List ℕ) (kinds end : ℕ) (index : List ℕ) where
  pub compare_start : Comparing s kinds end index (compared_with index (marks_from s kinds end 0)) 0 0
  unfolding compared_with
  compare_start =
      let z : end - 0 ≡ end = omega arith in
      let y : 0 + length (marks_from s kinds end 0) ≡ length (marks_from s kinds end 0) = omega arith in
      record { few = omega arith; rest = rw (z, y) refl }

  module _ (R : Option ℕ) (at n : ℕ) (kind : Kind) (mark : Bool) (g : Comparing s kinds end index R at n) (l : at < end)
      (e : kind ≡ kind_at s kinds at) (q : mark ≡ is_filemark kind) (x : Option ℕ) (c : x ≡ compared_at mark index n at) where
    pub compare_next : (next : ℕ) → x ≡ Some next → Comparing s kinds end index R (at + 1) next
    compare_next next d =
        let z = place_next mark index (ahead s kinds end (at + 1)) n at next (sym c ∙ d) in
        record {
          few = rw z.0 (next_few mark n at g.few);
          rest = z.1 ∙ ap (λ (ps : List ℕ). compared_on index n ps) (sym (ahead_first s kinds end at kind mark l e q)) ∙ g.rest;
        }

    pub compare_differs : x ≡ None → None ≡ R
    compare_differs d =
        sym (place_differs mark index (ahead s kinds end (at + 1)) n at (sym c ∙ d))
        ∙ ap (λ (ps : List ℕ). compared_on index n ps) (sym (ahead_first s kinds end at kind mark l e q)) ∙ g.rest

  pub compare_done : (R : Option ℕ) (at n : ℕ) → Comparing s kinds end index R at n → end ≤ at → Some n ≡ R
  compare_done R at n g l =
      let z : n + 0 ≡ n = omega arith in
      let e : compared_on index n [] ≡ R = rw (ahead_none s kinds end at l) at g.rest in
      rw (← z) (rw (holds_none index n) at e)

pub ruleset compare_ways = (compare_start, compare_next, compare_differs, compare_done)

-- ---- bytes that are FFh

blank_first : (s : List ℕ) (p k : ℕ) → p < length s → are_blank (part s p (suc k)) ≡ (eqb (get_or s p 0) 255 && are_blank (part s (p + 1) k))
blank_first s p k l = rw (part_first s p k l) refl

-- four bytes FFh are the entry that tells of no filemark
four_blank : (a b c d : ℕ) (r : Bool) → a < 256 → b < 256 → c < 256 → d < 256
    → (eqb a 255 && (eqb b 255 && (eqb c 255 && (eqb d 255 && r)))) ≡ (eqb (((a * 256 + b) * 256 + c) * 256 + d) no_filemark && r)
four_blank a b c d r ha hb hc hd =
    test (eqb (((a * 256 + b) * 256 + c) * 256 + d) no_filemark)
    (λ t.
    let e = eqb-true (((a * 256 + b) * 256 + c) * 256 + d) no_filemark t in
    rw (t, eq-eqb a 255 (omega arith), eq-eqb b 255 (omega arith), eq-eqb c 255 (omega arith), eq-eqb d 255 (omega arith)) refl)
    (λ t. rw t (by (eqb a 255) (eqb b 255) (eqb c 255) (eqb d 255) refl refl refl refl (eqb-false (((a * 256 + b) * 256 + c) * 256 + d) no_filemark t)))
  where
    by : (w x y z : Bool) → eqb a 255 ≡ w → eqb b 255 ≡ x → eqb c 255 ≡ y → eqb d 255 ≡ z
        → (((a * 256 + b) * 256 + c) * 256 + d ≡ no_filemark → ⊥) → (w && (x && (y && (z && r)))) ≡ false
    by true true true true p q s t f =
        absurd (f (omega (arith, eqb-true a 255 p, eqb-true b 255 q, eqb-true c 255 s, eqb-true d 255 t)))
    by false x y z p q s t f = refl
    by true false y z p q s t f = refl
    by true true false z p q s t f = refl
    by true true true false p q s t f = refl

-- so many entries that tell of none are bytes FFh
pub blank_entries : (index : List ℕ) (n k : ℕ) → ((i : ℕ) → get_or index i 0 < 256) → (0 < k → 4 * n + 4 * k ≤ length index)
    → are_blank (part index (4 * n) (4 * k)) ≡ holds_entries index n (replicate k no_filemark)
blank_entries index n zero b l = sym (holds_none index n)
blank_entries index n (suc k) b f =
    let l = f (omega arith) in
    let z : 4 * suc k ≡ suc (suc (suc (suc (4 * k)))) = omega arith in
    let p : 4 * n + 1 + 1 + 1 + 1 ≡ 4 * (n + 1) = omega arith in
    let p2 : 4 * n + 1 + 1 ≡ 4 * n + 2 = omega arith in
    let p3 : 4 * n + 2 + 1 ≡ 4 * n + 3 = omega arith in
    ap (λ (m : ℕ). are_blank (part index (4 * n) m)) z
    ∙ blank_first index (4 * n) (suc (suc (suc (4 * k)))) (omega arith)
    ∙ ap (λ (t : Bool). eqb (get_or index (4 * n) 0) 255 && t) (blank_first index (4 * n + 1) (suc (suc (4 * k))) (omega arith))
    ∙ ap (λ (t : Bool). eqb (get_or index (4 * n) 0) 255 && (eqb (get_or index (4 * n + 1) 0) 255 && t))
    (blank_first index (4 * n + 1 + 1) (suc (4 * k)) (omega arith))
    ∙ ap (λ (t : Bool). eqb (get_or index (4 * n) 0) 255 && (eqb (get_or index (4 * n + 1) 0) 255 && (eqb (get_or index (4 * n + 1 + 1) 0) 255 && t)))
    (blank_first index (4 * n + 1 + 1 + 1) (4 * k) (omega arith))
    ∙ four_blank (get_or index (4 * n) 0) (get_or index (4 * n + 1) 0) (get_or index (4 * n + 1 + 1) 0) (get_or index (4 * n + 1 + 1 + 1) 0) _
    (b _) (b _) (b _) (b _)
    ∙ rw (p, p2, p3, blank_entries index (n + 1) k b (λ x. omega arith)) (sym (holds_first index (replicate k no_filemark) n no_filemark))
