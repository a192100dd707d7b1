-- Entries rewritten from the old position on give the index made afresh.
-- Assumes nothing.
use Rattle.std.specs.Prelude.{Some}
use mathlib.Core.Path.{◌≡◌, refl, sym, ap, ◌∙◌}
use mathlib.Core.Bool.{true}
use mathlib.Core.List.{List, ◌++◌, append_assoc}
use Prim.Native.Nat.{ℕ, zero, suc, ◌+◌, ◌*◌, ◌-◌, ◌<◌, ◌≤◌}
use native.Mathlib.Nat.{le_refl}
use native.Mathlib.Omega.{arith}
use lib.ListN.{length, drop, replicate, length-append, length-replicate, replicate-append-replicate}
use lib.Seq.{drop-append-add, drop_at}
use Rattle.numbers.specs.Over.{over}
use Rattle.numbers.proofs.OverLaws.{over_after}
use Rattle.image.specs.declared.header.Header.{Header}
use Rattle.image.specs.Elements.{kind_at}
use Rattle.image.specs.Header.{header_of, with_recorded}
use Rattle.image.proofs.HeaderLaws.{sound}
use Rattle.index.specs.Entries.{marks_from, no_filemark, entries_of, entry_bytes, fresh_index, is_fresh}
use Rattle.index.specs.Rewriting.{rewritten}
use Rattle.index.proofs.CheckLaws.{entries_count}
use Rattle.index.proofs.EntryLaws.{entries_length, entries_append, entries_drop}
use Rattle.index.proofs.FreshLaws.{parted, rest_of, fresh_parted, entries_parted, below_are, parted_length}
use Rattle.index.proofs.MarkLaws.{marks_parted, marks_few, marks_same}

-- ---- a fresh index, as its entries and the bytes beyond

pub fresh_is : (s index : List ℕ) → fresh_index s index ≡ entry_bytes (entries_of s) ++ drop (4 * length (entries_of s)) index
unfolding fresh_index
fresh_is s index = ap (λ (n : ℕ). entry_bytes (entries_of s) ++ drop n index) (entries_length (entries_of s))

-- ---- entries laid over entries

over_entries : (front behind new rest : List ℕ) → length new ≤ length behind
    → over (entry_bytes (front ++ behind) ++ rest) (4 * length front) (entry_bytes new) ≡ entry_bytes (front ++ (new ++ drop (length new) behind)) ++ rest
over_entries front behind new rest l =
    let a = entry_bytes front in
    let b = entry_bytes behind ++ rest in
    let n = entry_bytes new in
    ap (λ (xs : List ℕ). over (xs ++ rest) (4 * length front) n) (entries_append front behind)
    ∙ ap (λ (xs : List ℕ). over xs (4 * length front) n) (append_assoc a (entry_bytes behind) rest)
    ∙ ap (λ (i : ℕ). over (a ++ b) i n) (sym (entries_length front))
    ∙ over_after a b n
    ∙ ap (λ (i : ℕ). a ++ (n ++ drop i b)) (entries_length new)
    ∙ ap (λ (xs : List ℕ). a ++ (n ++ xs)) (entries_drop (length new) behind rest l)
    ∙ ap (λ (xs : List ℕ). a ++ xs) (sym (append_assoc n (entry_bytes (drop (length new) behind)) rest))
    ∙ sym (append_assoc a (n ++ entry_bytes (drop (length new) behind)) rest)
    ∙ ap (λ (xs : List ℕ). (a ++ xs) ++ rest) (sym (entries_append new (drop (length new) behind)))
    ∙ ap (λ (xs : List ℕ). xs ++ rest) (sym (entries_append front (new ++ drop (length new) behind)))

drop_blanks : (d k : ℕ) → drop d (replicate k no_filemark) ≡ replicate (k - d) no_filemark
drop_blanks zero k = let z : k - 0 ≡ k = omega arith in rw z refl
drop_blanks (suc d) zero = let z : 0 - suc d ≡ 0 = omega arith in rw z refl
drop_blanks (suc d) (suc k) = let z : suc k - suc d ≡ k - d = omega arith in rw z (drop_blanks d k)

-- new filemarks over the old ones behind place p, then what has to be blanked: the rest is blank to the end
new_entries : (new old : List ℕ) (k : ℕ) → length new ≤ length old + k
    → (new ++ replicate (length old - length new) no_filemark)
    ++ drop (length (new ++ replicate (length old - length new) no_filemark)) (old ++ replicate k no_filemark)
    ≡ new ++ replicate (length old + k - length new) no_filemark
new_entries new old k l =
    let r = length old - length new in
    let d = length new + r - length old in
    let n : length (new ++ replicate r no_filemark) ≡ length old + d =
    length-append new (replicate r no_filemark) ∙ ap (λ (i : ℕ). length new + i) (length-replicate r no_filemark) ∙ omega arith in
    let z : r + (k - d) ≡ length old + k - length new = omega arith in
    ap (λ (i : ℕ). (new ++ replicate r no_filemark) ++ drop i (old ++ replicate k no_filemark)) n
    ∙ ap (λ (xs : List ℕ). (new ++ replicate r no_filemark) ++ xs) (drop-append-add old (replicate k no_filemark) d ∙ drop_blanks d k)
    ∙ append_assoc new (replicate r no_filemark) (replicate (k - d) no_filemark)
    ∙ ap (λ (xs : List ℕ). new ++ xs) (replicate-append-replicate r (k - d) no_filemark)
    ∙ ap (λ (i : ℕ). new ++ replicate i no_filemark) z

-- ---- after a store

module _ (s t : List ℕ) (h : Header) (p end : ℕ) (index : List ℕ)
    (good : header_of s ≡ Some h) (left : header_of t ≡ Some (with_recorded h end)) (fresh : is_fresh s index ≡ true)
    (place : p ≤ h.recorded) (reached : p ≤ end) (below : (i : ℕ) → i < p → kind_at t h.kinds i ≡ kind_at s h.kinds i) where
  abbrev before : List ℕ
  before = marks_from s h.kinds p 0

  abbrev old : List ℕ
  old = marks_from s h.kinds (h.recorded - p) p

  abbrev new : List ℕ
  new = marks_from t h.kinds (end - p) p

  abbrev k : ℕ
  k = h.capacity - (length before + length old)

  abbrev rest : List ℕ
  rest = rest_of s index

  -- the entries before place p stay
  same_before : marks_from t h.kinds p 0 ≡ before
  same_before = marks_same s t h.kinds p 0 (λ i a b. below i (omega arith))

  few : length before + length old ≤ h.capacity
  few =
      let g = sound s h good in
      let a = marks_few s h.kinds p 0 in
      let b = marks_few s h.kinds (h.recorded - p) p in
      omega (arith, g.recorded_within)

  few_new : length before + length new ≤ h.capacity
  few_new =
      let g = sound t (with_recorded h end) left in
      let a = marks_few s h.kinds p 0 in
      let b = marks_few t h.kinds (end - p) p in
      omega (arith, g.recorded_within)

  entries_left : entries_of t ≡ before ++ (new ++ replicate (length old + k - length new) no_filemark)
  entries_left =
      let z : h.capacity - (length before + length new) ≡ length old + k - length new = omega (arith, few, few_new) in
      entries_parted t (with_recorded h end) p left reached
      ∙ ap (λ (xs : List ℕ). xs ++ (new ++ replicate (h.capacity - (length xs + length new)) no_filemark)) same_before
      ∙ ap (λ (i : ℕ). before ++ (new ++ replicate i no_filemark)) z

  beyond_left : drop (4 * length (entries_of t)) index ≡ rest
  beyond_left =
      let g = fresh_parted s h p index good fresh place in
      let es = parted s h.kinds h.recorded p k in
      let n : length (entry_bytes es) ≡ 4 * length (entries_of t) =
      omega (arith, entries_length es, parted_length _ _ _ _ _ _ _ _ g, entries_count t (with_recorded h end) left) in
      ap (λ (xs : List ℕ). drop (4 * length (entries_of t)) xs) g.bytes ∙ drop_at (entry_bytes es) rest (4 * length (entries_of t)) n

  put_new : over (entry_bytes (before ++ (old ++ replicate k no_filemark)) ++ rest) (4 * length before)
      (entry_bytes (new ++ replicate (length old - length new) no_filemark))
      ≡ entry_bytes (before ++ (new ++ replicate (length old + k - length new) no_filemark)) ++ rest
  put_new =
      let r = length old - length new in
      let n = length-append new (replicate r no_filemark) in
      let m = length-replicate r no_filemark in
      let o = length-append old (replicate k no_filemark) in
      let q = length-replicate k no_filemark in
      over_entries before (old ++ replicate k no_filemark) (new ++ replicate r no_filemark) rest (omega (arith, few, few_new))
      ∙ ap (λ (xs : List ℕ). entry_bytes (before ++ xs) ++ rest) (new_entries new old k (omega (arith, few, few_new)))

  pub rewritten_fresh : rewritten t h p end index ≡ fresh_index t index
  unfolding rewritten
  rewritten_fresh =
      let g = fresh_parted s h p index good fresh place in
      let first = below_are _ _ _ _ _ _ _ _ g in
      let last = below_are _ _ _ _ _ _ _ _ (fresh_parted s h h.recorded index good fresh (le_refl h.recorded))
      ∙ ap (λ (xs : List ℕ). length xs) (marks_parted s h.kinds h.recorded p place) ∙ length-append before old in
      let z : length before + length old - (length before + length new) ≡ length old - length new = omega arith in
      rw (first, last, z)
      (ap (λ (xs : List ℕ). over xs (4 * length before) (entry_bytes (new ++ replicate (length old - length new) no_filemark))) g.bytes
      ∙ put_new ∙ ap (λ (xs : List ℕ). entry_bytes xs ++ rest) (sym entries_left)
      ∙ ap (λ (xs : List ℕ). entry_bytes (entries_of t) ++ xs) (sym beyond_left) ∙ sym (fresh_is t index))
