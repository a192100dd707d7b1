-- SPACE over filemarks by a list of their places, and by entries.
-- Assumes nothing.
use Rattle.std.specs.Prelude.{Some, if◌then◌else◌}
use mathlib.Core.Path.{◌≡◌, refl, sym, ap, ◌∙◌}
use mathlib.Core.Bool.{Bool, true, false}
use mathlib.Core.List.{List, [], ◌∷◌, ◌++◌, append-nil}
use Prim.Native.Nat.{ℕ, zero, suc, ◌+◌, ◌-◌, ◌<◌, ◌≤◌}
use native.Mathlib.Nat.{le_refl}
use native.Mathlib.Numerals.{sub-one}
use native.Mathlib.Omega.{arith}
use borrow.Author.Tests.{le-leb, lt-leb, eq-eqb, ne_eqb, leb-true, leb-false}
use lib.Dec.{eqb, leb}
use lib.ListN.{length, get_or, length-append, get_or-append}
use lib.Seq.{get_or-append_seam}
use Rattle.numbers.proofs.Cases.{test}
use Rattle.image.specs.declared.header.Header.{Header}
use Rattle.image.specs.Elements.{is_filemark, kind_at}
use Rattle.image.specs.Header.{header_of}
use Rattle.transfer.specs.declared.Moved.{Moved}
use Rattle.transfer.specs.declared.Stop.TheVariants.{Full, AtEnd, AtBeginning}
use Rattle.transfer.specs.Moving.{halts}
use Rattle.transfer.specs.Spacing.{marks_on, marks_back}
use Rattle.stream_parts.specs.Requests.{is_back, magnitude, over_filemarks}
use Rattle.stream.specs.Work.{space_run}
use Rattle.index.specs.Entries.{marks_from, is_fresh}
use Rattle.index.specs.Spacing.{entry_at, on_by_entries, back_by_entries, run_by_entries}
use Rattle.index.proofs.FreshLaws.{Parted, fresh_parted, below_are, entry_before, entry_behind}
use Rattle.index.proofs.MarkLaws.{with_place, marks_none, marks_first, marks_split, marks_parted}

-- ---- the ways of `on_by_entries` and `back_by_entries`

module _ (index : List ℕ) (before all end n p : ℕ) (m : Moved) where
  on_none : n ≡ 0 → m ≡ halts p 0 Full → m ≡ on_by_entries index before all end n p
  unfolding on_by_entries
  on_none z e = rw (e, eq-eqb n 0 z) refl

  on_within : (place : ℕ) → (n ≡ 0 → ⊥) → n ≤ all - before → place ≡ entry_at index (before + n - 1) → m ≡ halts (place + 1) 0 Full
      → m ≡ on_by_entries index before all end n p
  unfolding on_by_entries
  on_within place z l q e = rw (e, ne_eqb n 0 z, le-leb n (all - before) l, q) refl

  on_beyond : (n ≡ 0 → ⊥) → all - before < n → m ≡ halts end (n - (all - before)) AtEnd → m ≡ on_by_entries index before all end n p
  unfolding on_by_entries
  on_beyond z l e = rw (e, ne_eqb n 0 z, lt-leb n (all - before) l) refl

module _ (index : List ℕ) (before n p : ℕ) (m : Moved) where
  back_none : n ≡ 0 → m ≡ halts p 0 Full → m ≡ back_by_entries index before n p
  unfolding back_by_entries
  back_none z e = rw (e, eq-eqb n 0 z) refl

  back_within : (place : ℕ) → (n ≡ 0 → ⊥) → n ≤ before → place ≡ entry_at index (before - n) → m ≡ halts place 0 Full
      → m ≡ back_by_entries index before n p
  unfolding back_by_entries
  back_within place z l q e = rw (e, ne_eqb n 0 z, le-leb n before l, q) refl

  back_beyond : (n ≡ 0 → ⊥) → before < n → m ≡ halts 0 (n - before) AtBeginning → m ≡ back_by_entries index before n p
  unfolding back_by_entries
  back_beyond z l e = rw (e, ne_eqb n 0 z, lt-leb n before l) refl

-- ---- a run on, by the places of the filemarks ahead

some : (n : ℕ) → eqb (suc n) 0 ≡ false
some n = ne_eqb (suc n) 0 (λ x. omega arith)

less_none : (n : ℕ) → n - 0 ≡ n
less_none n = omega arith

module _ (s : List ℕ) (kinds : ℕ) where
  on_zero : (n p : ℕ) → marks_on s kinds n 0 p ≡ halts p 0 Full
  unfolding marks_on
  on_zero zero p = refl
  on_zero (suc n) p = refl

  on_step : (n l p : ℕ) → marks_on s kinds (suc n) (suc l) p ≡ marks_on s kinds n (if is_filemark (kind_at s kinds p) then l else suc l) (p + 1)
  unfolding marks_on
  on_step n l p = rw (some l, sub-one) refl

  pub on_here : (n l p : ℕ) → suc l ≤ length (marks_from s kinds n p)
      → marks_on s kinds n (suc l) p ≡ halts (get_or (marks_from s kinds n p) l 0 + 1) 0 Full
  on_here zero l p h = absurd (omega (arith, (rw marks_none at h)))
  on_here (suc n) l p h =
      rw (on_step, marks_first) (by (is_filemark (kind_at s kinds p)) l (marks_from s kinds n (p + 1)) (λ m. on_here n m (p + 1)) (rw marks_first at h))
    where
      by : (b : Bool) (l : ℕ) (marks : List ℕ)
          → ((m : ℕ) → suc m ≤ length marks → marks_on s kinds n (suc m) (p + 1) ≡ halts (get_or marks m 0 + 1) 0 Full)
          → suc l ≤ length (with_place b p marks)
          → marks_on s kinds n (if b then l else suc l) (p + 1) ≡ halts (get_or (with_place b p marks) l 0 + 1) 0 Full
      by true zero marks f h = on_zero n (p + 1)
      by true (suc m) marks f h = f m (omega arith)
      by false l marks f h = f l h

  pub on_short : (n l p : ℕ) → length (marks_from s kinds n p) < suc l
      → marks_on s kinds n (suc l) p ≡ halts (p + n) (suc l - length (marks_from s kinds n p)) AtEnd
  unfolding marks_on
  on_short zero l p h =
      let x : p + 0 ≡ p = omega arith in
      rw (x, marks_none, some l, less_none) refl
  on_short (suc n) l p h =
      let x : p + suc n ≡ p + 1 + n = omega arith in
      rw (on_step, marks_first, x)
      (by (is_filemark (kind_at s kinds p)) l (marks_from s kinds n (p + 1)) (λ m. on_short n m (p + 1)) (rw marks_first at h))
    where
      by : (b : Bool) (l : ℕ) (marks : List ℕ)
          → ((m : ℕ) → length marks < suc m → marks_on s kinds n (suc m) (p + 1) ≡ halts (p + 1 + n) (suc m - length marks) AtEnd)
          → length (with_place b p marks) < suc l
          → marks_on s kinds n (if b then l else suc l) (p + 1) ≡ halts (p + 1 + n) (suc l - length (with_place b p marks)) AtEnd
      by true zero marks f h = absurd (omega arith)
      by true (suc m) marks f h =
          let y : suc (suc m) - suc (length marks) ≡ suc m - length marks = omega arith in
          rw y (f m (omega arith))
      by false l marks f h = f l h

  -- ---- a run back, by the places of the filemarks before

  marks_last : (p : ℕ) → marks_from s kinds (suc p) 0 ≡ marks_from s kinds p 0 ++ with_place (is_filemark (kind_at s kinds p)) p []
  marks_last p =
      let x : suc p ≡ p + 1 = omega arith in
      let y : 0 + p ≡ p = omega arith in
      ap (λ (n : ℕ). marks_from s kinds n 0) x ∙ marks_split s kinds p 1 0 ∙ rw (y, marks_first, marks_none) refl

  back_zero : (p : ℕ) → marks_back s kinds p 0 ≡ halts p 0 Full
  unfolding marks_back
  back_zero zero = refl
  back_zero (suc p) = refl

  back_step : (p l : ℕ) → marks_back s kinds (suc p) (suc l) ≡ marks_back s kinds p (if is_filemark (kind_at s kinds p) then l else suc l)
  unfolding marks_back
  back_step p l = rw (some l, sub-one) refl

  pub back_here : (p l : ℕ) → suc l ≤ length (marks_from s kinds p 0)
      → marks_back s kinds p (suc l) ≡ halts (get_or (marks_from s kinds p 0) (length (marks_from s kinds p 0) - suc l) 0) 0 Full
  back_here zero l h = absurd (omega (arith, (rw marks_none at h)))
  back_here (suc p) l h =
      rw (back_step, marks_last) (by (is_filemark (kind_at s kinds p)) l (marks_from s kinds p 0) (λ m. back_here p m) (rw marks_last at h))
    where
      by : (b : Bool) (l : ℕ) (marks : List ℕ)
          → ((m : ℕ) → suc m ≤ length marks → marks_back s kinds p (suc m) ≡ halts (get_or marks (length marks - suc m) 0) 0 Full)
          → suc l ≤ length (marks ++ with_place b p [])
          → marks_back s kinds p (if b then l else suc l)
          ≡ halts (get_or (marks ++ with_place b p []) (length (marks ++ with_place b p []) - suc l) 0) 0 Full
      by true zero marks f h =
          let n : length (marks ++ (p ∷ [])) ≡ length marks + 1 = length-append marks (p ∷ []) in
          let z : length (marks ++ (p ∷ [])) - 1 ≡ length marks = omega arith in
          rw (z, get_or-append_seam marks p [] 0) (back_zero p)
      by true (suc m) marks f h =
          let n : length (marks ++ (p ∷ [])) ≡ length marks + 1 = length-append marks (p ∷ []) in
          let z : length (marks ++ (p ∷ [])) - suc (suc m) ≡ length marks - suc m = omega arith in
          rw (z, get_or-append marks (p ∷ []) 0 (length marks - suc m) (omega arith)) (f m (omega arith))
      by false l marks f h = rw append-nil (f l (rw append-nil at h))

  pub back_short : (p l : ℕ) → length (marks_from s kinds p 0) < suc l
      → marks_back s kinds p (suc l) ≡ halts 0 (suc l - length (marks_from s kinds p 0)) AtBeginning
  unfolding marks_back
  back_short zero l h = rw (marks_none, some l, less_none) refl
  back_short (suc p) l h =
      rw (back_step, marks_last) (by (is_filemark (kind_at s kinds p)) l (marks_from s kinds p 0) (λ m. back_short p m) (rw marks_last at h))
    where
      by : (b : Bool) (l : ℕ) (marks : List ℕ)
          → ((m : ℕ) → length marks < suc m → marks_back s kinds p (suc m) ≡ halts 0 (suc m - length marks) AtBeginning)
          → length (marks ++ with_place b p []) < suc l
          → marks_back s kinds p (if b then l else suc l) ≡ halts 0 (suc l - length (marks ++ with_place b p [])) AtBeginning
      by true zero marks f h =
          let n : length (marks ++ (p ∷ [])) ≡ length marks + 1 = length-append marks (p ∷ []) in
          absurd (omega arith)
      by true (suc m) marks f h =
          let n : length (marks ++ (p ∷ [])) ≡ length marks + 1 = length-append marks (p ∷ []) in
          let z : suc (suc m) - length (marks ++ (p ∷ [])) ≡ suc m - length marks = omega arith in
          rw z (f m (omega arith))
      by false l marks f h = rw append-nil (f l (rw append-nil at h))

-- ---- by the entries of a fresh index

module _ (s : List ℕ) (kinds c u p : ℕ) (index : List ℕ) (k : ℕ) (rest : List ℕ) (g : Parted s kinds c u p index k rest) where
  abbrev before : List ℕ
  before = marks_from s kinds p 0

  abbrev behind : List ℕ
  behind = marks_from s kinds (u - p) p

  on_entries : (n : ℕ) → marks_on s kinds (u - p) n p ≡ on_by_entries index (length before) (length before + length behind) u n p
  on_entries zero = on_none index (length before) (length before + length behind) u 0 p _ refl (on_zero s kinds (u - p) p)
  on_entries (suc l) =
      let d : length before + length behind - length before ≡ length behind = omega arith in
      let e : p + (u - p) ≡ u = omega (arith, g.place) in
      let i : length before + suc l - 1 ≡ length before + l = omega arith in
      test (leb (suc l) (length behind))
      (λ t.
      let m = leb-true (suc l) (length behind) t in
      on_within index (length before) (length before + length behind) u (suc l) p _ (get_or behind l 0) (λ x. omega arith) (rw d m)
      (rw i (sym (entry_behind s kinds c u p index k rest g l m))) (on_here s kinds (u - p) l p m))
      (λ t.
      let m = leb-false (suc l) (length behind) t in
      on_beyond index (length before) (length before + length behind) u (suc l) p _ (λ x. omega arith) (rw d m)
      (rw d (rw e at (on_short s kinds (u - p) l p m))))

  back_entries : (n : ℕ) → marks_back s kinds p n ≡ back_by_entries index (length before) n p
  back_entries zero = back_none index (length before) 0 p _ refl (back_zero s kinds p)
  back_entries (suc l) =
      test (leb (suc l) (length before))
      (λ t.
      let m = leb-true (suc l) (length before) t in
      back_within index (length before) (suc l) p _ (get_or before (length before - suc l) 0) (λ x. omega arith) m
      (sym (entry_before s kinds c u p index k rest g (length before - suc l) (omega arith))) (back_here s kinds p l m))
      (λ t.
      let m = leb-false (suc l) (length before) t in
      back_beyond index (length before) (suc l) p _ (λ x. omega arith) m (back_short s kinds p l m))

-- "SPACE over filemarks through the index gives the same answer, sense and position as without it."
pub run_is : (s : List ℕ) (h : Header) (p : ℕ) (index : List ℕ) (count : ℕ) → header_of s ≡ Some h → is_fresh s index ≡ true → p ≤ h.recorded
    → run_by_entries index h p count ≡ space_run s h p over_filemarks count
unfolding run_by_entries space_run
run_is s h p index count good fresh l =
    let g = fresh_parted s h p index good fresh l in
    let a = below_are _ _ _ _ _ _ _ _ g in
    let b = below_are _ _ _ _ _ _ _ _ (fresh_parted s h h.recorded index good fresh (le_refl h.recorded)) in
    let before = marks_from s h.kinds p 0 in
    let behind = marks_from s h.kinds (h.recorded - p) p in
    let m = ap (λ (x : List ℕ). length x) (marks_parted s h.kinds h.recorded p l) ∙ length-append before behind in
    test (is_back count)
    (λ t. rw (t, a) (sym (back_entries _ _ _ _ _ _ _ _ g (magnitude count))))
    (λ t. rw (t, a, b, m) (sym (on_entries _ _ _ _ _ _ _ _ g (magnitude count))))
