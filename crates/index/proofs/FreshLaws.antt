-- What an index that is fresh tells of its image.
-- Assumes nothing.
use Rattle.std.specs.Prelude.{Some}
use mathlib.Core.Path.{◌≡◌, sym, ap, ◌∙◌}
use mathlib.Core.Bool.{true}
use mathlib.Core.List.{List, ◌++◌, append_assoc}
use Prim.Native.Nat.{ℕ, ◌+◌, ◌-◌, ◌^◌, ◌<◌, ◌≤◌}
use native.Mathlib.Omega.{arith}
use borrow.Author.Tests.{ltb-true, ltb-false}
use lib.Dec.{ltb}
use lib.ListN.{length, get_or, drop, replicate, length-append, length-replicate, get_or-replicate, get_or-append}
use lib.Seq.{get_or-append-add}
use Rattle.numbers.specs.Over.{over}
use Rattle.numbers.proofs.Cases.{test}
use Rattle.numbers.proofs.SameLaws.{same_of}
use Rattle.image.specs.declared.header.Header.{Header}
use Rattle.image.specs.Header.{header_of}
use Rattle.image.proofs.HeaderLaws.{fields_are, sound}
use Rattle.index.specs.Entries.{marks_from, filemarks_of, no_filemark, entries_of, entry_bytes, fresh_index, is_fresh}
use Rattle.index.specs.Spacing.{entry_at, BelowFirst, entries_below}
use Rattle.index.proofs.EntryLaws.{entry_read}
use Rattle.index.proofs.LoopLaws.{parts_count}
use Rattle.index.proofs.MarkLaws.{marks_parted, marks_few, marks_within}

-- ---- a member of two lists, one after the other

after_is : (P : ℕ → Type 0) (xs ys : List ℕ) (i k : ℕ) → i ≡ length xs + k → P (get_or ys k 0) → P (get_or (xs ++ ys) i 0)
after_is P xs ys i k e q = rw (e, get_or-append-add xs ys k 0) q

pub one_of_two : (P : ℕ → Type 0) (xs ys : List ℕ) (i : ℕ) → i < length (xs ++ ys) → (i < length xs → P (get_or xs i 0))
    → ((k : ℕ) → k < length ys → P (get_or ys k 0)) → P (get_or (xs ++ ys) i 0)
one_of_two P xs ys i l f g =
    let n = length-append xs ys in
    test (ltb i (length xs))
    (λ t. let m = ltb-true i (length xs) t in rw (get_or-append xs ys 0 i m) (f m))
    (λ t. let m = ltb-false i (length xs) t in after_is P xs ys i (i - length xs) (omega arith) (g (i - length xs) (omega arith)))

-- ---- the entries, parted at place p

-- filemarks before place p, those from there to u, and entries that are none, up to c; then the bytes beyond
abbrev pub parted : List ℕ → ℕ → ℕ → ℕ → ℕ → List ℕ
parted s kinds u p k = marks_from s kinds p 0 ++ (marks_from s kinds (u - p) p ++ replicate k no_filemark)

pub record Parted (s : List ℕ) (kinds c u p : ℕ) (index : List ℕ) (k : ℕ) (rest : List ℕ) : Type 0 where
  pub place : p ≤ u
  pub bound : u ≤ 65535
  pub whole : length (marks_from s kinds p 0) + (length (marks_from s kinds (u - p) p) + k) ≡ c
  pub bytes : index ≡ entry_bytes (parted s kinds u p k) ++ rest

module _ (s : List ℕ) (kinds c u p : ℕ) (index : List ℕ) (k : ℕ) (rest : List ℕ) (g : Parted s kinds c u p index k rest) where
  abbrev before : List ℕ
  before = marks_from s kinds p 0

  abbrev behind : List ℕ
  behind = marks_from s kinds (u - p) p

  abbrev blanks : List ℕ
  blanks = replicate k no_filemark

  pub parted_length : length (parted s kinds u p k) ≡ c
  parted_length =
      let a = length-append before (behind ++ blanks) in
      let b = length-append behind blanks in
      let n = length-replicate k no_filemark in
      omega (arith, g.whole)

  -- an entry behind place p is a filemark's from there on, or none
  from_place : (i : ℕ) → i < length (behind ++ blanks) → (p ≤ get_or (behind ++ blanks) i 0) × (get_or (behind ++ blanks) i 0 < 2 ^ 32)
  from_place i l =
      one_of_two (λ (x : ℕ). (p ≤ x) × (x < 2 ^ 32)) behind blanks i l
      (λ m. let w = marks_within s kinds (u - p) p i m in (omega arith, omega (arith, g.place, g.bound)))
      (λ j m.
      let n = length-replicate k no_filemark in
      let e = get_or-replicate k j no_filemark 0 (omega arith) in
      (omega (arith, g.place, g.bound), omega arith))

  four_bytes : (i : ℕ) → i < length (parted s kinds u p k) → get_or (parted s kinds u p k) i 0 < 2 ^ 32
  four_bytes i l =
      one_of_two (λ (x : ℕ). x < 2 ^ 32) before (behind ++ blanks) i l
      (λ m. let w = marks_within s kinds p 0 i m in omega (arith, g.place, g.bound))
      (λ j m. (from_place j m).1)

  pub entry_is : (i : ℕ) → i < c → entry_at index i ≡ get_or (parted s kinds u p k) i 0
  entry_is i l =
      ap (λ (t : List ℕ). entry_at t i) g.bytes
      ∙ entry_read (parted s kinds u p k) rest i four_bytes (omega (arith, parted_length))

  few_before : length before ≤ c
  few_before = omega (arith, g.whole)

  -- the entry of a filemark before place p
  pub entry_before : (i : ℕ) → i < length before → entry_at index i ≡ get_or before i 0
  entry_before i l = entry_is i (omega (arith, few_before)) ∙ get_or-append before (behind ++ blanks) 0 i l

  -- the entry of a filemark from there on
  pub entry_behind : (j : ℕ) → j < length behind → entry_at index (length before + j) ≡ get_or behind j 0
  entry_behind j l =
      entry_is (length before + j) (omega (arith, g.whole)) ∙ get_or-append-add before (behind ++ blanks) j 0 ∙ get_or-append behind blanks 0 j l

  all_below_lem : (i : ℕ) → i < length before → entry_at index i < p
  all_below_lem i l = let w = marks_within s kinds p 0 i l in omega (arith, entry_before i l)

  none_below : (i : ℕ) → length before ≤ i → i < c → p ≤ entry_at index i
  none_below i l m =
      let j = i - length before in
      let n = length-append behind blanks in
      let r = length-replicate k no_filemark in
      let e : i ≡ length before + j = omega arith in
      let w = (from_place j (omega (arith, g.whole))).0 in
      rw (entry_is i m) (after_is (λ (x : ℕ). p ≤ x) before (behind ++ blanks) i j e w)

  -- the entries below place p are those of the filemarks before it
  pub below_are : entries_below index p c ≡ length before
  below_are = sym (parts_count index p c (length before) few_before all_below_lem none_below)

  pub below_first : BelowFirst index p c
  below_first i j a b e =
      test (ltb j (length before))
      (λ t. all_below_lem i (omega (arith, ltb-true j (length before) t)))
      (λ t. absurd (omega (arith, none_below j (ltb-false j (length before) t) b)))

-- ---- of a fresh index

fresh_bytes : (s index : List ℕ) → is_fresh s index ≡ true → index ≡ entry_bytes (entries_of s) ++ drop (length (entry_bytes (entries_of s))) index
unfolding is_fresh fresh_index
fresh_bytes s index e = same_of index (over index 0 (entry_bytes (entries_of s))) e

-- the entries of an image, parted at place p
pub entries_parted : (s : List ℕ) (h : Header) (p : ℕ) → header_of s ≡ Some h → p ≤ h.recorded
    → entries_of s
    ≡ parted s h.kinds h.recorded p
    (h.capacity - (length (marks_from s h.kinds p 0) + length (marks_from s h.kinds (h.recorded - p) p)))
unfolding entries_of filemarks_of
entries_parted s h p good l =
    let a = marks_from s h.kinds p 0 in
    let b = marks_from s h.kinds (h.recorded - p) p in
    rw (fields_are s h good, marks_parted s h.kinds h.recorded p l, length-append) (append_assoc a b _)

abbrev pub rest_of : List ℕ → List ℕ → List ℕ
rest_of s index = drop (length (entry_bytes (entries_of s))) index

pub fresh_parted : (s : List ℕ) (h : Header) (p : ℕ) (index : List ℕ) → header_of s ≡ Some h → is_fresh s index ≡ true → p ≤ h.recorded
    → Parted s h.kinds h.capacity h.recorded p index
    (h.capacity - (length (marks_from s h.kinds p 0) + length (marks_from s h.kinds (h.recorded - p) p))) (rest_of s index)
fresh_parted s h p index good fresh l =
    let g = sound s h good in
    let a = marks_few s h.kinds p 0 in
    let b = marks_few s h.kinds (h.recorded - p) p in
    record {
      place = l;
      bound = omega (arith, g.recorded_within, g.capacity_most);
      whole = omega (arith, g.recorded_within);
      bytes = fresh_bytes s index fresh ∙ ap (λ (es : List ℕ). entry_bytes es ++ rest_of s index) (entries_parted s h p good l);
    }
