-- An element laid: one header, the other elements and the bytes that are not its own stay, and it is what the image then has there; and so many of them.
-- Assumes nothing.
use mathlib.Core.Path.{◌≡◌, refl, ◌∙◌}
use mathlib.Core.Bool.{true, false}
use mathlib.Core.List.{List, [], ◌∷◌}
use mathlib.Core.Logic.{◌⊎◌, inl, inr, ⊎_elim}
use Prim.Native.Nat.{ℕ, zero, suc, ◌+◌, ◌<◌, ◌≤◌}
use native.Mathlib.Omega.{arith}
use lib.ListN.{length, get_or}
use Rattle.image.specs.declared.header.Header.{Header}
use Rattle.std.specs.Prelude.{Some}
use Rattle.image.specs.Header.{header_of}
use Rattle.image.specs.Elements.{data_kind, filemark_kind, unreadable_kind}
use Rattle.image.specs.Sameness.{SameElement}
use Rattle.image.proofs.HeaderLaws.{sound}
use Rattle.image.proofs.StoreLaws.{OneLaid, OffKind, OffBlock, mark_laid, mark_byte, mark_here, block-laid, block-byte, block-kind, block_here}
use Rattle.image.proofs.StoreLaws.{unreadable-laid, unreadable-byte, unreadable-kind, unreadable-here}
use Rattle.tap.specs.Files.{Element, TapeMark, Block, IsWhole, AllWhole}
use Rattle.exchange.specs.Exporting.{element_at, elements_from}
use Rattle.exchange.specs.Importing.{lay_element, lay_elements}

-- a byte that it does not store
abbrev pub OffElement : Header → Element → ℕ → ℕ → Type 0
OffElement h TapeMark i m = OffKind h i m
OffElement h (Block unreadable bytes) i m = OffKind h i m × OffBlock h i m

-- the kind that it stores
abbrev pub kind_stored : Element → ℕ
kind_stored TapeMark = filemark_kind
kind_stored (Block false bytes) = data_kind
kind_stored (Block true bytes) = unreadable_kind

module _ (s : List ℕ) (h : Header) (good : header_of s ≡ Some h) (i : ℕ) (within : i < h.capacity) where
  pub element_laid : (e : Element) → IsWhole h.size e → OneLaid h (OffElement h e i) i s (lay_element h e i s)
  element_laid TapeMark w = mark_laid s h good i within
  element_laid (Block false bytes) w = block-laid s h good i within bytes w
  element_laid (Block true bytes) w = unreadable-laid s h good i within bytes w

  element_here : (e : Element) → IsWhole h.size e → element_at (lay_element h e i s) h i ≡ e
  element_here TapeMark w = rw (mark_here s h good i within)
  element_here (Block false bytes) w = rw (block-kind s h good i within bytes w, block_here s h good i within bytes w)
  element_here (Block true bytes) w = rw (unreadable-kind s h good i within bytes w, unreadable-here s h good i within bytes w)

  -- the byte of its kind
  element_byte : (e : Element) → IsWhole h.size e → get_or (lay_element h e i s) (h.kinds + i) 0 ≡ kind_stored e
  element_byte TapeMark w = mark_byte s h good i within
  element_byte (Block false bytes) w = block-byte s h good i within bytes w
  element_byte (Block true bytes) w = unreadable-byte s h good i within bytes w

-- a kind's byte is none that the storing of another element touches
kind_off : (s : List ℕ) (h : Header) → header_of s ≡ Some h → (e : Element) (i j : ℕ) → j < h.capacity → (j ≡ i → ⊥) → OffElement h e i (h.kinds + j)
kind_off s h good TapeMark i j b n = λ q. n (omega arith)
kind_off s h good (Block unreadable bytes) i j b n = let g = sound s h good in ((λ q. n (omega arith)), inl (omega arith))

-- ---- elements laid one after the other from place i on

pub record Laid (h : Header) (es : List Element) (i : ℕ) (s t : List ℕ) : Type 0 where
  pub header : header_of t ≡ Some h
  pub size : length t ≡ length s
  pub here : elements_from t h (length es) i ≡ es
  pub bytes : (k : ℕ) → k < length es → get_or t (h.kinds + (i + k)) 0 ≡ kind_stored (get_or es k TapeMark)
  pub others : (j : ℕ) → j < h.capacity → (j < i) ⊎ (i + length es ≤ j) → SameElement h s t j
  pub apart : (m : ℕ) → ((k : ℕ) → k < length es → OffElement h (get_or es k TapeMark) (i + k) m) → get_or t m 0 ≡ get_or s m 0

module _ (h : Header) where
  laid_none : (i : ℕ) (s : List ℕ) → header_of s ≡ Some h → Laid h [] i s s
  unfolding elements_from
  laid_none i s good =
      record {
        header = good;
        size = refl;
        here = refl;
        bytes = λ k l. absurd (omega arith);
        others = λ j l o. record { kind = refl; bytes = refl };
        apart = λ m a. refl;
      }

  same_element : (s t : List ℕ) (i : ℕ) → SameElement h s t i → element_at t h i ≡ element_at s h i
  same_element s t i e = rw (e.kind, e.bytes) refl

  laid_more : (e : Element) (es : List Element) (i : ℕ) (s t : List ℕ) → header_of s ≡ Some h → IsWhole h.size e → i < h.capacity
      → Laid h es (i + 1) (lay_element h e i s) t → Laid h (e ∷ es) i s t
  unfolding elements_from
  laid_more e es i s t good w b x =
      let one = element_laid s h good i b e w in
      let u = lay_element h e i s in
      let own = x.others i b (inl (omega arith)) in
      let first = same_element u t i own ∙ element_here s h good i b e w in
      let off : (k : ℕ) → k < length es → OffElement h (get_or es k TapeMark) (i + 1 + k) (h.kinds + i)
      = λ k l. kind_off s h good (get_or es k TapeMark) (i + 1 + k) i b (λ q. omega arith) in
      record {
        header = x.header;
        size = x.size ∙ one.size;
        here = rw (first, x.here) refl;
        bytes = λ k l. first_byte k (x.apart (h.kinds + i) off ∙ element_byte s h good i b e w) x.bytes l;
        others = λ j l o.
            let n : j ≡ i → ⊥ = ⊎_elim (λ z q. omega arith) (λ z q. omega arith) o in
            let y = x.others j l (⊎_elim (λ z. inl (omega arith)) (λ z. inr (omega arith)) o) in
            record { kind = y.kind ∙ one.kinds j l n; bytes = y.bytes ∙ one.bytes j l n };
        apart = λ m a.
            let z : i + 0 ≡ i = omega arith in
            x.apart m (λ k l. let q : i + suc k ≡ i + 1 + k = omega arith in rw q at (a (suc k) (omega arith))) ∙ one.apart m (rw z at (a 0 (omega arith)));
      }
    where
      first_byte : (k : ℕ) → get_or t (h.kinds + i) 0 ≡ kind_stored e
          → ((k : ℕ) → k < length es → get_or t (h.kinds + (i + 1 + k)) 0 ≡ kind_stored (get_or es k TapeMark))
          → k < suc (length es) → get_or t (h.kinds + (i + k)) 0 ≡ kind_stored (get_or (e ∷ es) k TapeMark)
      first_byte zero p f l = let z : i + 0 ≡ i = omega arith in rw z p
      first_byte (suc k) p f l = let z : i + suc k ≡ i + 1 + k = omega arith in rw z (f k (omega arith))

  pub elements_laid : (es : List Element) (i : ℕ) (s : List ℕ) → header_of s ≡ Some h → AllWhole h.size es → i + length es ≤ h.capacity
      → Laid h es i s (lay_elements h es i s)
  unfolding lay_elements
  elements_laid [] i s good w b = laid_none i s good
  elements_laid (e ∷ es) i s good w b =
      let l : i < h.capacity = omega arith in
      laid_more e es i s _ good w.0 l
      (elements_laid es (i + 1) (lay_element h e i s) (element_laid s h good i l e w.0).header w.1 (omega arith))
