-- The check for 10: an index is fresh exactly where its entries are those of a fresh one.
-- Assumes nothing.
use Rattle.std.proofs.Common.{Fits, w8}
use Rattle.std.specs.Prelude.{Some, None}
use mathlib.Core.Path.{◌≡◌, refl, sym, ap, ◌∙◌}
use mathlib.Core.Bool.{true, false, ◌&&◌}
use mathlib.Core.List.{List, [], ◌∷◌, ◌++◌}
use Prim.Native.Nat.{ℕ, suc, ◌+◌, ◌*◌, ◌-◌, ◌<◌, ◌≤◌}
use native.Mathlib.Omega.{arith}
use borrow.Author.Tests.{eq-eqb, eqb-true}
use lib.Dec.{eqb}
use lib.ListN.{length, get_or, take, drop, replicate, length-append, length-replicate, take-append-drop}
use lib.Seq.{take-add, drop-drop}
use Rattle.numbers.specs.Counts.{count_bytes}
use Rattle.numbers.specs.Over.{over, part}
use Rattle.numbers.specs.Same.{same}
use Rattle.numbers.proofs.Cases.{and_l, and_r, and_i, test, never}
use Rattle.numbers.proofs.CountLaws.{bytes_of_count}
use Rattle.numbers.proofs.SameLaws.{same_self}
use Rattle.image.specs.declared.header.Header.{Header}
use Rattle.image.specs.Header.{header_of}
use Rattle.image.proofs.HeaderLaws.{fields_are, sound}
use Rattle.index.specs.Checking.{holds_entries, compared_with, are_blank}
use Rattle.index.specs.Entries.{marks_from, filemarks_of, no_filemark, entries_of, entry_bytes, fresh_index, is_fresh}
use Rattle.index.specs.Spacing.{entry_at}
use Rattle.index.proofs.EntryLaws.{entries_length}
use Rattle.index.proofs.LoopLaws.{holds_none, holds_first, holds_append, differs_by, same_by, blank_entries}
use Rattle.index.proofs.MarkLaws.{marks_few}
use Rattle.index.proofs.FreshLaws.{fresh_parted, entries_parted, entry_is, parted_length}

-- entries that are read are held
holds_read : (index es : List ℕ) (n : ℕ) → ((j : ℕ) → j < length es → entry_at index (n + j) ≡ get_or es j 0) → holds_entries index n es ≡ true
holds_read index [] n f = holds_none index n
holds_read index (e ∷ es) n f =
    let z : n + 0 ≡ n = omega arith in
    let first = ap (λ (i : ℕ). entry_at index i) (sym z) ∙ f 0 (omega arith) in
    let rest = holds_read index es (n + 1) (λ j l.
    let y : n + 1 + j ≡ n + suc j = omega arith in
    ap (λ (i : ℕ). entry_at index i) y ∙ f (suc j) (omega arith)) in
    holds_first index es n e ∙ and_i (eqb (entry_at index n) e) (holds_entries index (n + 1) es) (eq-eqb _ _ first) rest

-- entries that are held are their bytes
held_bytes : (index es : List ℕ) (n : ℕ) → ((i : ℕ) → get_or index i 0 < 256) → 4 * n + 4 * length es ≤ length index
    → holds_entries index n es ≡ true → part index (4 * n) (4 * length es) ≡ entry_bytes es
held_bytes index [] n b l h = refl
held_bytes index (e ∷ es) n b l h =
    let t = sym (holds_first index es n e) ∙ h in
    let x = eqb-true (entry_at index n) e (and_l (eqb (entry_at index n) e) (holds_entries index (n + 1) es) t) in
    let y : 4 * suc (length es) ≡ 4 + 4 * length es = omega arith in
    let z : 4 * n + 4 ≡ 4 * (n + 1) = omega arith in
    let first : take 4 (drop (4 * n) index) ≡ count_bytes 4 e = sym (bytes_of_count index (4 * n) 4 b (omega arith)) ∙ ap (λ (v : ℕ). count_bytes 4 v) x in
    let rest : part index (4 * (n + 1)) (4 * length es) ≡ entry_bytes es =
    held_bytes index es (n + 1) b (omega arith) (and_r (eqb (entry_at index n) e) (holds_entries index (n + 1) es) t) in
    ap (λ (m : ℕ). take m (drop (4 * n) index)) y ∙ take-add 4 (4 * length es) (drop (4 * n) index)
    ∙ ap (λ (xs : List ℕ). xs ++ take (4 * length es) (drop 4 (drop (4 * n) index))) first
    ∙ ap (λ (xs : List ℕ). count_bytes 4 e ++ take (4 * length es) xs) (drop-drop 4 (4 * n) index)
    ∙ ap (λ (i : ℕ). count_bytes 4 e ++ part index i (4 * length es)) z ∙ ap (λ (xs : List ℕ). count_bytes 4 e ++ xs) rest

module _ (s : List ℕ) (h : Header) (good : header_of s ≡ Some h) where
  pub entries_count : length (entries_of s) ≡ h.capacity
  unfolding entries_of filemarks_of
  entries_count =
      let g = sound s h good in
      let m = marks_few s h.kinds h.recorded 0 in
      rw (fields_are s h good, length-append, length-replicate) (omega (arith, g.recorded_within))

  module _ (index : List ℕ) where
    fresh-of-held : ((i : ℕ) → get_or index i 0 < 256) → 4 * h.capacity ≤ length index → holds_entries index 0 (entries_of s) ≡ true → is_fresh s index ≡ true
    unfolding is_fresh fresh_index
    fresh-of-held b l t =
        let es = entries_of s in
        let m = 4 * length es in
        let n : length (entry_bytes es) ≡ m = entries_length es in
        let x : take m index ≡ entry_bytes es = held_bytes index es 0 b (omega (arith, entries_count)) t in
        let e : over index 0 (entry_bytes es) ≡ index =
        ap (λ (i : ℕ). entry_bytes es ++ drop i index) n ∙ ap (λ (xs : List ℕ). xs ++ drop m index) (sym x) ∙ take-append-drop m index in
        ap (λ (t : List ℕ). same index t) e ∙ same_self index

    held-of-fresh : is_fresh s index ≡ true → holds_entries index 0 (entries_of s) ≡ true
    held-of-fresh f =
        let g = fresh_parted s h 0 index good f (omega arith) in
        rw (entries_parted s h 0 good (omega arith))
        (holds_read index _ 0 (λ j l.
        let z : 0 + j ≡ j = omega arith in
        ap (λ (i : ℕ). entry_at index i) z ∙ entry_is _ _ _ _ _ _ _ _ g j (omega (arith, parted_length _ _ _ _ _ _ _ _ g))))

    module _ (bytes : (i : ℕ) → Fits w8 (get_or index i 0)) (room : 4 * h.capacity ≤ length index) where
      held-is-fresh : holds_entries index 0 (entries_of s) ≡ is_fresh s index
      held-is-fresh =
          test (holds_entries index 0 (entries_of s))
          (λ t. t ∙ sym (fresh-of-held (λ i. omega (arith, bytes i)) room t))
          (λ t. test (is_fresh s index) (λ f. never (held-of-fresh f) t) (λ f. t ∙ sym f))

      -- first the filemarks, then those that are none
      parts_are : (holds_entries index 0 (marks_from s h.kinds h.recorded 0)
          && holds_entries index (length (marks_from s h.kinds h.recorded 0))
          (replicate (h.capacity - length (marks_from s h.kinds h.recorded 0)) no_filemark)) ≡ is_fresh s index
      unfolding entries_of filemarks_of
      parts_are =
          let marks = marks_from s h.kinds h.recorded 0 in
          let z : 0 + length marks ≡ length marks = omega arith in
          ap (λ (i : ℕ). holds_entries index 0 marks && holds_entries index i (replicate (h.capacity - length marks) no_filemark)) (sym z)
          ∙ sym (holds_append index marks (replicate (h.capacity - length marks) no_filemark) 0)
          ∙ rw (fields_are s h good) at held-is-fresh

      pub found_differing : None ≡ compared_with index (marks_from s h.kinds h.recorded 0) → false ≡ is_fresh s index
      unfolding compared_with
      found_differing e =
          let marks = marks_from s h.kinds h.recorded 0 in
          let q = differs_by (holds_entries index 0 marks) (length marks) (sym e) in
          rw q at parts_are

      pub found_same : (n : ℕ) → Some n ≡ compared_with index (marks_from s h.kinds h.recorded 0)
          → are_blank (part index (4 * n) (4 * h.capacity - 4 * n)) ≡ is_fresh s index
      unfolding compared_with
      found_same n e =
          let marks = marks_from s h.kinds h.recorded 0 in
          let q = same_by (holds_entries index 0 marks) (length marks) n (sym e) in
          let z : 4 * h.capacity - 4 * n ≡ 4 * (h.capacity - n) = omega arith in
          let b : are_blank (part index (4 * n) (4 * h.capacity - 4 * n)) ≡ holds_entries index n (replicate (h.capacity - n) no_filemark) =
          rw z (blank_entries index n (h.capacity - n) (λ i. omega (arith, bytes i)) (λ x. omega arith)) in
          b ∙ rw q.1 (rw q.0 at parts_are)

      -- what the comparison needs
      pub marks_fit : (h.kinds + h.recorded ≤ length s) × (h.recorded ≤ 65535) × (4 * h.recorded ≤ length index)
      marks_fit = let g = sound s h good in omega arith

      pub few_fit : (n : ℕ) → Some n ≡ compared_with index (marks_from s h.kinds h.recorded 0) → 4 * n ≤ 4 * h.capacity
      unfolding compared_with
      few_fit n e =
          let marks = marks_from s h.kinds h.recorded 0 in
          let q = same_by (holds_entries index 0 marks) (length marks) n (sym e) in
          omega (arith, q.1, marks_few s h.kinds h.recorded 0, (sound s h good).recorded_within)

pub ruleset fresh_ways = (found_differing, found_same, marks_fit, few_fit)
