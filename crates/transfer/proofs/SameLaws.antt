-- Images that are alike below an end are read, passed over and written alike, and stay alike.
-- Assumes nothing.
use Rattle.std.specs.Prelude.{if◌then◌else◌, Some}
use Prim.Native.Nat.{ℕ, zero, suc, ◌+◌, ◌*◌, ◌≤◌, ◌<◌}
use native.Mathlib.Omega.{arith}
use mathlib.Core.Bool.{Bool, true, false, false≢true}
use mathlib.Core.List.{List}
use mathlib.Core.Logic.{◌⊎◌, inl, inr, ⊎_elim}
use mathlib.Core.Path.{◌≡◌, refl, sym, ap, ◌∙◌}
use borrow.Author.Tests.{leb-false, eqb-true, eqb-false}
use lib.Dec.{leb, eqb}
use lib.ListN.{length}
use Rattle.numbers.specs.Over.{over, part}
use Rattle.numbers.proofs.OverLaws.{part_length}
use Rattle.image.specs.declared.header.Header.{Header}
use Rattle.image.specs.Elements.{holds_data, kind_at, block_at}
use Rattle.image.specs.Header.{header_of}
use Rattle.image.specs.Sameness.{ReadsSame, Alike}
use Rattle.image.proofs.HeaderLaws.{fields_are}
use Rattle.image.proofs.StoreLaws.{OneLaid, mark_here, block-kind, block_here}
use Rattle.transfer.specs.declared.Stop.{Stop}
use Rattle.transfer.specs.declared.Stop.TheVariants.{Full, AtEnd}
use Rattle.transfer.specs.Moving.{halts}
use Rattle.transfer.specs.Marked.{marked_from}
use Rattle.transfer.specs.Reading.{read_from}
use Rattle.transfer.specs.Spacing.{blocks_on, blocks_back, marks_left, marks_on, marks_back}
use Rattle.transfer.specs.Writing.{Writing, writes, lay_from, block_of, mark_of}

-- ---- runs that only look

otherwise : {A : Type 0} (x y z : A) (a : Bool) → (a ≡ false → y ≡ z) → (if a then x else y) ≡ (if a then x else z)
otherwise x y z true f = refl
otherwise x y z false f = f refl

copied_same : {A : Type 0} (x y z : A) (a : Bool) → (a ≡ true → x ≡ y) → (if a then x else z) ≡ (if a then y else z)
copied_same x y z true f = f refl
copied_same x y z false f = refl

module _ (h : Header) (end : ℕ) (s t : List ℕ) (alike : (i : ℕ) → i < end → ReadsSame h s t i) where
  pub read_same : (n off p : ℕ) (buf : List ℕ)
      → read_from t h.size h.kinds h.blocks end n off p buf ≡ read_from s h.size h.kinds h.blocks end n off p buf
  unfolding read_from
  read_same zero off p buf = refl
  read_same (suc n) off p buf =
      otherwise _ _ _ (leb end p) (λ f.
      let e = alike p (leb-false _ _ f) in
      rw e.kind
      (copied_same _ _ _ (holds_data (kind_at s h.kinds p)) (λ d.
      rw (e.bytes d, read_same n (off + h.size) (p + 1) (over buf off (block_at s h.size h.blocks p))))))

  pub marked_same : (n p : ℕ) → p + n ≤ end → marked_from t h.kinds n p ≡ marked_from s h.kinds n p
  unfolding marked_from
  marked_same zero p l = refl
  marked_same (suc n) p l = rw ((alike p (omega arith)).kind, marked_same n (p + 1) (omega arith))

  pub blocks_on_same : (n p : ℕ) → blocks_on t h.kinds end n p ≡ blocks_on s h.kinds end n p
  unfolding blocks_on
  blocks_on_same zero p = refl
  blocks_on_same (suc n) p = otherwise _ _ _ (leb end p) (λ f. rw ((alike p (leb-false _ _ f)).kind, blocks_on_same n (p + 1)))

  pub blocks_back_same : (p n : ℕ) → p ≤ end → blocks_back t h.kinds p n ≡ blocks_back s h.kinds p n
  unfolding blocks_back
  blocks_back_same p zero l = refl
  blocks_back_same zero (suc n) l = refl
  blocks_back_same (suc p) (suc n) l = rw ((alike p l).kind, blocks_back_same p n (omega arith))

  pub marks_on_same : (ahead n p : ℕ) → p + ahead ≤ end → marks_on t h.kinds ahead n p ≡ marks_on s h.kinds ahead n p
  unfolding marks_on
  marks_on_same zero n p l = refl
  marks_on_same (suc ahead) n p l =
      rw ((alike p (omega arith)).kind, marks_on_same ahead (marks_left (kind_at s h.kinds p) n) (p + 1) (omega arith))

  pub marks_back_same : (p n : ℕ) → p ≤ end → marks_back t h.kinds p n ≡ marks_back s h.kinds p n
  unfolding marks_back
  marks_back_same zero n l = refl
  marks_back_same (suc p) n l = rw ((alike p l).kind, marks_back_same p (marks_left (kind_at s h.kinds p) n) (omega arith))

-- ---- runs that store

-- good images with one header, whose elements read the same below the end and below the place p
pub record Same (h : Header) (end p : ℕ) (s t : List ℕ) : Type 0 where
  pub left : header_of s ≡ Some h
  pub right : header_of t ≡ Some h
  pub elements : (i : ℕ) → (i < end) ⊎ (i < p) → ReadsSame h s t i

pub of_alike : (h : Header) (end p : ℕ) (s t : List ℕ) → header_of s ≡ Some h → p ≤ end → Alike end s t → Same h end p s t
of_alike h end p s t e l a =
    record { left = e; right = a.header ∙ e; elements = λ i o. rw (fields_are s h e) at a.elements i (⊎_elim (λ m. m) (λ m. omega arith) o) }

pub record LaidSame (h : Header) (end : ℕ) (x y : Writing) : Type 0 where
  pub moved : y.moved ≡ x.moved
  pub reached : x.moved.place ≤ h.capacity
  pub images : Same h end x.moved.place x.image y.image

module _ (h : Header) (end : ℕ) (inside : end ≤ h.capacity) where
  -- one element more
  same_on : {A : ℕ → Type 0} {p : ℕ} {s t s' t' : List ℕ} → Same h end p s t → p < h.capacity
      → OneLaid h A p s s' → OneLaid h A p t t' → ReadsSame h s' t' p → Same h end (p + 1) s' t'
  same_on {p = p} {s = s} {s' = s'} {t' = t'} a l x y here = record { left = x.header; right = y.header; elements = λ i m. by i m (eqb i p) refl }
    where
      by : (i : ℕ) → (i < end) ⊎ (i < p + 1) → (b : Bool) → eqb i p ≡ b → ReadsSame h s' t' i
      by i m true e = rw (eqb-true i p e) here
      by i m false e =
          let n = eqb-false i p e in
          let c : i < h.capacity = ⊎_elim (λ k. omega arith) (λ k. omega arith) m in
          let o = a.elements i (⊎_elim (λ k. inl k) (λ k. inr (omega (arith, n))) m) in
          let k = x.kinds i c n in
          record { kind = y.kinds i c n ∙ o.kind ∙ sym k; bytes = λ d. y.bytes i c n ∙ o.bytes (sym (ap holds_data k) ∙ d) ∙ sym (x.bytes i c n) }

  laid_none : (p left : ℕ) (stop : Stop) (s t : List ℕ) → Same h end p s t → p ≤ h.capacity
      → LaidSame h end (writes s (halts p left stop)) (writes t (halts p left stop))
  laid_none p left stop s t a l = record { moved = refl; reached = l; images = a }

  -- the end of the tape, or on
  unless_full : (p left : ℕ) (s t : List ℕ) (X Y : Writing) → Same h end p s t → p ≤ h.capacity → (p < h.capacity → LaidSame h end X Y)
      → (b : Bool) → leb h.capacity p ≡ b
      → LaidSame h end (if b then writes s (halts p left AtEnd) else X) (if b then writes t (halts p left AtEnd) else Y)
  unless_full p left s t X Y a l f true e = laid_none p left AtEnd s t a l
  unless_full p left s t X Y a l f false e = f (leb-false _ _ e)

  -- a run whose elements are laid so, with their bytes below `room`, and read the same where they are laid
  module _ {Apart : ℕ → ℕ → Type 0} (lay : ℕ → ℕ → List ℕ → List ℕ) (size room : ℕ)
      (one : (off p : ℕ) (s : List ℕ) → header_of s ≡ Some h → p < h.capacity → off + size ≤ room → OneLaid h (Apart p) p s (lay off p s))
      (here : (off p : ℕ) (s t : List ℕ) → header_of s ≡ Some h → header_of t ≡ Some h → p < h.capacity → off + size ≤ room
      → ReadsSame h (lay off p s) (lay off p t) p) where
    pub laid_same : (n off p : ℕ) (s t : List ℕ) → Same h end p s t → p ≤ h.capacity → off + n * size ≤ room
        → LaidSame h end (lay_from lay size h.capacity n off p s) (lay_from lay size h.capacity n off p t)
    unfolding lay_from
    laid_same zero off p s t a l r = laid_none p 0 Full s t a l
    laid_same (suc n) off p s t a l r =
        unless_full p (suc n) s t _ _ a l (λ c.
        laid_same n (off + size) (p + 1) _ _
        (same_on a c (one off p s a.left c (omega arith)) (one off p t a.right c (omega arith)) (here off p s t a.left a.right c (omega arith)))
        (omega arith) (omega arith)) (leb h.capacity p) refl

  pub mark_same : (off p : ℕ) (s t : List ℕ) → header_of s ≡ Some h → header_of t ≡ Some h → p < h.capacity → off + 0 ≤ 0
      → ReadsSame h (mark_of h.kinds off p s) (mark_of h.kinds off p t) p
  mark_same off p s t x y c r =
      let k = mark_here s h x p c in
      record { kind = mark_here t h y p c ∙ sym k; bytes = λ d. absurd (false≢true (sym (ap holds_data k) ∙ d)) }

  pub block_same : (src : List ℕ) (off p : ℕ) (s t : List ℕ) → header_of s ≡ Some h → header_of t ≡ Some h → p < h.capacity
      → off + h.size ≤ length src
      → ReadsSame h (block_of h.size h.kinds h.blocks src off p s) (block_of h.size h.kinds h.blocks src off p t) p
  block_same src off p s t x y c r =
      let new = part src off h.size in
      let w = part_length src off h.size r in
      record {
        kind = block-kind t h y p c new w ∙ sym (block-kind s h x p c new w);
        bytes = λ d. block_here t h y p c new w ∙ sym (block_here s h x p c new w);
      }
