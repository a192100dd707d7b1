-- The image that an import leaves: its header, its elements, and the bytes that stay.
-- Assumes nothing.
use Prim.Native.Nat.{ℕ, ◌+◌, ◌*◌, ◌<◌, ◌≤◌}
use native.Mathlib.Nat.{mul-le-mul_right}
use native.Mathlib.Omega.{arith}
use mathlib.Core.List.{List}
use mathlib.Core.Logic.{inl, inr, ⊎_elim}
use mathlib.Core.Path.{◌≡◌, sym, ap, ◌∙◌}
use borrow.Author.Tests.{ltb-true, ltb-false, eqb-true, eqb-false}
use lib.Dec.{eqb, ltb}
use lib.ListN.{length, get_or}
use Rattle.numbers.proofs.Cases.{test}
use Rattle.numbers.proofs.CountLaws.{length_put_count}
use Rattle.numbers.proofs.OverLaws.{part_same}
use Rattle.image.specs.declared.header.Header.{Header}
use Rattle.std.specs.Prelude.{Some}
use Rattle.image.specs.Elements.{block_at}
use Rattle.image.specs.Header.{header_of, with_recorded}
use Rattle.image.specs.Sameness.{SameElement, Outside}
use Rattle.image.proofs.HeaderLaws.{sound}
use Rattle.image.proofs.StoreLaws.{noted_header, noted_kept, noted_kind, noted_bytes}
use Rattle.tap.specs.Files.{Element, TapeMark, Block, AllWhole}
use Rattle.exchange.specs.Exporting.{element_at}
use Rattle.exchange.specs.Importing.{lay_elements, taken_into}
use Rattle.exchange.proofs.LayLaws.{OffElement, kind_stored, Laid, elements_laid}
use Rattle.exchange_laws.proofs.Elements.{elements_nth}

pub record Stored (s : List ℕ) (h : Header) (es : List Element) (t : List ℕ) : Type 0 where
  pub header : header_of t ≡ Some (with_recorded h (length es))
  pub size : length t ≡ length s
  pub here : (i : ℕ) → i < length es → element_at t h i ≡ get_or es i TapeMark
  pub bytes : (i : ℕ) → i < length es → get_or t (h.kinds + i) 0 ≡ kind_stored (get_or es i TapeMark)
  pub others : (j : ℕ) → length es ≤ j → j < h.capacity → SameElement h s t j
  pub apart : (m : ℕ) → Outside 8 4 m → ((k : ℕ) → k < length es → OffElement h (get_or es k TapeMark) k m) → get_or t m 0 ≡ get_or s m 0

module _ (s : List ℕ) (h : Header) (good : header_of s ≡ Some h) (es : List Element) (whole : AllWhole h.size es) (fits : length es ≤ h.capacity) where
  abbrev n : ℕ
  n = length es

  abbrev laid : List ℕ
  laid = lay_elements h es 0 s

  abbrev left : List ℕ
  left = taken_into h es s

  is_laid : Laid h es 0 s laid
  is_laid = elements_laid h es 0 s good whole (omega arith)

  laid_here : (i : ℕ) → i < n → element_at laid h i ≡ get_or es i TapeMark
  laid_here i l =
      let y : 0 + i ≡ i = omega arith in
      sym (rw y at (elements_nth laid h n 0 i l)) ∙ ap (λ (x : List Element). get_or x i TapeMark) is_laid.here

  pub stored : Stored s h es left
  unfolding taken_into
  stored =
      let x = is_laid in
      let g = sound laid h x.header in
      record {
        header = noted_header laid h x.header n fits;
        size = length_put_count laid 8 4 n ∙ x.size;
        here = λ i l.
            rw (noted_kind laid h x.header n fits i, noted_bytes laid h x.header n fits i (omega arith)) (laid_here i l);
        bytes = λ i l.
            let y : 0 + i ≡ i = omega arith in
            noted_kept laid h x.header n fits (h.kinds + i) (inr (omega arith)) ∙ rw y at (x.bytes i l);
        others = λ j a b.
            let y = x.others j b (inr (omega arith)) in
            record {
              kind = noted_kind laid h x.header n fits j ∙ y.kind;
              bytes = noted_bytes laid h x.header n fits j b ∙ y.bytes;
            };
        apart = λ m o f.
            noted_kept laid h x.header n fits m o ∙ x.apart m (λ k l. let y : 0 + k ≡ k = omega arith in rw y (f k l));
      }

  -- ---- bytes that stay

  -- outside the kinds and the blocks of the elements stored
  off_all : (m : ℕ) → Outside h.kinds n m → Outside h.blocks (n * h.size) m → (k : ℕ) → k < n → (e : Element) → OffElement h e k m
  off_all m a b k l TapeMark = λ q. ⊎_elim (λ z. omega arith) (λ z. omega arith) a
  off_all m a b k l (Block unreadable bytes) =
      let y = mul-le-mul_right h.size l in
      ((λ q. ⊎_elim (λ z. omega arith) (λ z. omega arith) a), ⊎_elim (λ z. inl (omega arith)) (λ z. inr (omega arith)) b)

  pub outside_kept : (m : ℕ) → Outside 8 4 m → Outside h.kinds n m → Outside h.blocks (n * h.size) m → get_or left m 0 ≡ get_or s m 0
  outside_kept m o a b = stored.apart m o (λ k l. off_all m a b k l (get_or es k TapeMark))

  -- under a tape mark
  module _ (i : ℕ) (l : i < n) (mark : get_or es i TapeMark ≡ TapeMark) where
    place-off : (x : ℕ) → x < h.size → (k : ℕ) → k < n → (e : Element) → (k ≡ i → e ≡ TapeMark) → OffElement h e k (h.blocks + i * h.size + x)
    place-off x b k c TapeMark f = let g = sound s h good in λ q. omega arith
    place-off x b k c (Block unreadable bytes) f =
        let g = sound s h good in (
          (λ q. omega arith),
          test (eqb k i)
              (λ e. absurd (no_block (f (eqb-true k i e))))
              (λ e.
              let d = eqb-false k i e in
              test (ltb k i)
              (λ t. let y = mul-le-mul_right h.size (ltb-true k i t) in inr (omega arith))
              (λ t. let y = mul-le-mul_right h.size (over-it k d (ltb-false k i t)) in inl (omega arith))),
        )
      where
        no_block : Block unreadable bytes ≡ TapeMark → ⊥
        no_block q = let z : ◌≡◌ {A = ℕ} 0 1 = cc in omega arith

        over-it : (k : ℕ) → (k ≡ i → ⊥) → i ≤ k → i < k
        over-it k d m = omega (arith, d)

    pub under-kept : block_at left h.size h.blocks i ≡ block_at s h.size h.blocks i
    unfolding block_at
    under-kept =
        let g = sound s h good in
        let y = mul-le-mul_right h.size l in
        let z = mul-le-mul_right h.size fits in
        let q = stored.size in
        let a = h.blocks + i * h.size in
        part_same left s a h.size (omega arith) q (λ x b.
        stored.apart (a + x) (inr (omega arith)) (λ k c. place-off x b k c (get_or es k TapeMark) (λ e. rw e mark)))
