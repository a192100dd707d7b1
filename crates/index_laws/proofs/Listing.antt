-- What an index that was made tells its reader.
-- Assumes nothing.
use Prim.Native.Nat.{ℕ, zero, suc, ◌+◌, ◌-◌, ◌≤◌, ◌<◌}
use mathlib.Core.Bool.{Bool, true, false, false≢true}
use mathlib.Core.List.{List, [], ◌++◌}
use mathlib.Core.Path.{◌≡◌, refl, sym, ap, ◌∙◌}
use native.Mathlib.Nat.{le_refl}
use native.Mathlib.Omega.{arith}
use borrow.Author.Tests.{eqb-true, eqb-false}
use lib.Dec.{eqb}
use lib.ListN.{length, get_or, replicate, length-replicate, get_or-replicate}
use Rattle.numbers.specs.Member.{is_in}
use Rattle.numbers.proofs.Cases.{test, or_by, or_r}
use Rattle.image.specs.declared.elements.Kind.{Kind}
use Rattle.image.specs.declared.elements.Kind.TheVariants.{Data, Filemark, Unreadable, Marked}
use Rattle.image.specs.Elements.{is_filemark, kind_at}
use Rattle.image.specs.Header.{fields_of, keeps_header_rules}
use Rattle.image.proofs.HeaderLaws.{good_header}
use Rattle.index.specs.Entries.{marks_from, filemarks_of, no_filemark, fresh_index}
use Rattle.index.specs.Keeping.{Made, makes}
use Rattle.index.specs.Spacing.{entry_at}
use Rattle.index.proofs.FreshLaws.{fresh_parted, entry_is, entry_before, parted_length, one_of_two}
use Rattle.index.proofs.MarkLaws.{with_place, marks_none, marks_first, marks_within}
use Rattle.index_laws.specs.Demands.{ListsFilemarks}
use Rattle.index_laws.proofs.Keeping.{fresh_again}
use Rattle.index_laws.proofs.Ways.{MakeWay, broken, no_room, well, make_way}

filemark_of : (k : Kind) → is_filemark k ≡ true → k ≡ Filemark
filemark_of Filemark e = refl
filemark_of Data e = absurd (false≢true e)
filemark_of Unreadable e = absurd (false≢true e)
filemark_of Marked e = absurd (false≢true e)

module _ (s : List ℕ) (kinds : ℕ) where
  -- what is among them is a filemark of the stretch
  record IsMark (n p i : ℕ) : Type 0 where
    from : p ≤ i
    to : i < p + n
    kind : kind_at s kinds i ≡ Filemark

  place_in : (b : Bool) (n p i : ℕ) (ps : List ℕ) → is_filemark (kind_at s kinds p) ≡ b → (is_in i ps ≡ true → IsMark n (p + 1) i)
      → is_in i (with_place b p ps) ≡ true → IsMark (suc n) p i
  unfolding is_in
  place_in false n p i ps q f e = let g = f e in record { from = omega (arith, g.from); to = omega (arith, g.to); kind = g.kind }
  place_in true n p i ps q f e =
      or_by (eqb p i) (is_in i ps) e
      (λ t.
      let z = eqb-true p i t in
      record { from = omega arith; to = omega arith; kind = ap (λ (j : ℕ). kind_at s kinds j) (sym z) ∙ filemark_of (kind_at s kinds p) q })
      (λ t. let g = f t in record { from = omega (arith, g.from); to = omega (arith, g.to); kind = g.kind })

  is_mark_lem : (n p i : ℕ) → is_in i (marks_from s kinds n p) ≡ true → IsMark n p i
  unfolding is_in
  is_mark_lem zero p i e = absurd (false≢true (rw marks_none at e))
  is_mark_lem (suc n) p i e =
      place_in (is_filemark (kind_at s kinds p)) n p i (marks_from s kinds n (p + 1)) refl (λ t. is_mark_lem n (p + 1) i t) (rw marks_first at e)

  -- and each filemark of the stretch is among them
  in_place : (b : Bool) (n p i : ℕ) (ps : List ℕ) → is_filemark (kind_at s kinds p) ≡ b → (IsMark n (p + 1) i → is_in i ps ≡ true)
      → IsMark (suc n) p i → is_in i (with_place b p ps) ≡ true
  unfolding is_in
  in_place false n p i ps q f g =
      test (eqb p i)
      (λ t. absurd (false≢true (sym q ∙ ap (λ (j : ℕ). is_filemark (kind_at s kinds j)) (eqb-true p i t) ∙ ap is_filemark g.kind)))
      (λ t. let z = eqb-false p i t in f (record { from = omega (arith, g.from, z); to = omega (arith, g.to); kind = g.kind }))
  in_place true n p i ps q f g =
      test (eqb p i)
      (λ t. rw t refl)
      (λ t.
      let z = eqb-false p i t in
      or_r (eqb p i) (is_in i ps) (f (record { from = omega (arith, g.from, z); to = omega (arith, g.to); kind = g.kind })))

  is_in_lem : (n p i : ℕ) → IsMark n p i → is_in i (marks_from s kinds n p) ≡ true
  unfolding is_in
  is_in_lem zero p i g = absurd (omega (arith, g.from, g.to))
  is_in_lem (suc n) p i g =
      rw marks_first (in_place (is_filemark (kind_at s kinds p)) n p i (marks_from s kinds n (p + 1)) refl (λ m. is_in_lem n (p + 1) i m) g)

  -- each is further on than those before it
  abbrev Ascends : List ℕ → Type 0
  Ascends ps = (i j : ℕ) → i < j → j < length ps → get_or ps i 0 < get_or ps j 0

  place_ascends : (b : Bool) (p : ℕ) (ps : List ℕ) → ((j : ℕ) → j < length ps → p < get_or ps j 0) → Ascends ps → Ascends (with_place b p ps)
  place_ascends false p ps f g i j l m = g i j l m
  place_ascends true p ps f g zero zero l m = absurd (omega arith)
  place_ascends true p ps f g zero (suc j) l m = f j (omega arith)
  place_ascends true p ps f g (suc i) zero l m = absurd (omega arith)
  place_ascends true p ps f g (suc i) (suc j) l m = g i j (omega arith) (omega arith)

  ascends : (n p : ℕ) → Ascends (marks_from s kinds n p)
  ascends zero p = rw marks_none (λ i j l m. absurd (omega arith))
  ascends (suc n) p =
      rw marks_first
      (place_ascends (is_filemark (kind_at s kinds p)) p (marks_from s kinds n (p + 1))
      (λ j l. let w = marks_within s kinds n (p + 1) j l in omega arith) (ascends n (p + 1)))

-- ---- the entries

module _ (s index : List ℕ) where
  record Told (x : Made) : Type 0 where
    blocks : x.answer.blocks ≡ length (filemarks_of s)
    good : keeps_header_rules s ≡ true
    fresh : x.index ≡ fresh_index s index

  told_by : {x : Made} → MakeWay s index x → x.answer.number ≡ 0 → Told x
  told_by (broken b) f = absurd (omega arith)
  told_by (no_room g l) f = absurd (omega arith)
  told_by (well g l) f = record { blocks = refl; good = g; fresh = refl }

  told : (makes s index).answer.number ≡ 0 → Told (makes s index)
  told = told_by (make_way s index)

  module _ (good : keeps_header_rules s ≡ true) where
    -- parted at U: all filemarks are before it
    told-entry : (j : ℕ) → j < length (filemarks_of s) → entry_at (fresh_index s index) j ≡ get_or (filemarks_of s) j 0
    unfolding filemarks_of
    told-entry j l =
        let h = fields_of s in
        let g = fresh_parted s h h.recorded (fresh_index s index) (good_header s good) (fresh_again s index good) (le_refl h.recorded) in
        entry_before _ _ _ _ _ _ _ _ g j l

    told-rest : (j : ℕ) → length (filemarks_of s) ≤ j → j < (fields_of s).capacity → entry_at (fresh_index s index) j ≡ no_filemark
    unfolding filemarks_of
    told-rest j l m =
        let h = fields_of s in
        let before = marks_from s h.kinds h.recorded 0 in
        let behind = marks_from s h.kinds (h.recorded - h.recorded) h.recorded in
        let k = h.capacity - (length before + length behind) in
        let g = fresh_parted s h h.recorded (fresh_index s index) (good_header s good) (fresh_again s index good) (le_refl h.recorded) in
        let z : h.recorded - h.recorded ≡ 0 = omega arith in
        let none : behind ≡ [] = ap (λ (n : ℕ). marks_from s h.kinds n h.recorded) z ∙ marks_none s h.kinds h.recorded in
        let n = ap (λ (ps : List ℕ). length ps) none in
        let r = length-replicate k no_filemark in
        entry_is _ _ _ _ _ _ _ _ g j m
        ∙ one_of_two (λ (x : ℕ). x ≡ no_filemark) before (behind ++ replicate k no_filemark) j (omega (arith, m, parted_length _ _ _ _ _ _ _ _ g))
        (λ a. absurd (omega arith))
        (λ i a. one_of_two (λ (x : ℕ). x ≡ no_filemark) behind (replicate k no_filemark) i a (λ b. absurd (omega arith))
        (λ q b. get_or-replicate k q no_filemark 0 (omega arith)))

pub lists_filemarks : ListsFilemarks
unfolding filemarks_of
lists_filemarks =
    record {
      found = λ s index f. (told s index f).blocks;
      entries = λ s index f j l. let t = told s index f in rw t.fresh (told-entry s index t.good j l);
      rest = λ s index f j l m. let t = told s index f in rw t.fresh (told-rest s index t.good j l m);
      places = λ s i. (
        (λ e. let g = is_mark_lem s (fields_of s).kinds (fields_of s).recorded 0 i e in (omega (arith, g.to), g.kind)),
        (λ e. is_in_lem s (fields_of s).kinds (fields_of s).recorded 0 i (record { from = omega arith; to = omega (arith, e.0); kind = e.1 })),
      );
      ascending = λ s. ascends s (fields_of s).kinds (fields_of s).recorded 0;
    }
