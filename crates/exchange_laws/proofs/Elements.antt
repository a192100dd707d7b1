-- The elements of an image as a list: how many, which one stands where, that they are whole, and what a file of them takes.
-- Assumes nothing.
use Prim.Native.Nat.{ℕ, zero, suc, ◌+◌, ◌*◌, ◌%◌, ◌<◌, ◌≤◌}
use native.Mathlib.Omega.{arith}
use mathlib.Core.Bool.{Bool, true, false, true≢false}
use mathlib.Core.List.{List, [], ◌∷◌}
use mathlib.Core.Path.{◌≡◌, refl, sym, ap, ◌∙◌}
use lib.ListN.{length, get_or}
use Rattle.image.specs.declared.elements.Kind.{Kind}
use Rattle.image.specs.declared.elements.Kind.TheVariants.{Data, Filemark, Unreadable, Marked}
use Rattle.image.specs.declared.header.Header.{Header}
use Rattle.std.specs.Prelude.{Some}
use Rattle.image.specs.Elements.{kind_at, block_at, is_filemark}
use Rattle.image.specs.Header.{header_of}
use Rattle.tap.specs.Files.{Element, TapeMark, Block, IsWhole, AllWhole, file_of}
use Rattle.tap.proofs.WriteLaws.{mark_length, record_length, file_end_length, file_length}
use Rattle.exchange.specs.Exporting.{element_of, element_at, elements_from}
use Rattle.exchange.proofs.ExportLaws.{block_length}
use Rattle.exchange.proofs.LayLaws.{kind_stored}
use Rattle.exchange_laws.specs.Words.{kind_back, marks_in, blocks_in}

-- ---- one element

-- the kind that is stored for an element of this kind
pub stored_back : (kind : Kind) (bytes : List ℕ) → kind_stored (element_of kind bytes) ≡ kind_back kind
stored_back Data bytes = refl
stored_back Filemark bytes = refl
stored_back Unreadable bytes = refl
stored_back Marked bytes = refl

-- its bytes
abbrev pub bytes_in : Element → List ℕ
bytes_in TapeMark = []
bytes_in (Block unreadable bytes) = bytes

pub bytes_in_lem : (kind : Kind) (bytes : List ℕ) → is_filemark kind ≡ false → bytes_in (element_of kind bytes) ≡ bytes
bytes_in_lem Data bytes e = refl
bytes_in_lem Filemark bytes e = absurd (true≢false e)
bytes_in_lem Unreadable bytes e = refl
bytes_in_lem Marked bytes e = refl

abbrev is_mark : Element → Bool
is_mark TapeMark = true
is_mark (Block unreadable bytes) = false

-- where one of two kinds of one element is no filemark's, neither is the other
mark_kind : (kind : Kind) (bytes : List ℕ) → is_mark (element_of kind bytes) ≡ is_filemark kind
mark_kind Data bytes = refl
mark_kind Filemark bytes = refl
mark_kind Unreadable bytes = refl
mark_kind Marked bytes = refl

pub same_kind : (kind kind' : Kind) (bytes bytes' : List ℕ) → element_of kind' bytes' ≡ element_of kind bytes → is_filemark kind ≡ false
    → is_filemark kind' ≡ false
same_kind kind kind' bytes bytes' e n = sym (mark_kind kind' bytes') ∙ ap is_mark e ∙ mark_kind kind bytes ∙ n

block_is_whole : (size : ℕ) (kind : Kind) (bytes : List ℕ) → length bytes ≡ size → IsWhole size (element_of kind bytes)
block_is_whole size Data bytes e = e
block_is_whole size Filemark bytes e = tt
block_is_whole size Unreadable bytes e = e
block_is_whole size Marked bytes e = e

-- ---- the list

module _ (s : List ℕ) (h : Header) where
  pub elements_length : (n i : ℕ) → length (elements_from s h n i) ≡ n
  unfolding elements_from
  elements_length zero i = refl
  elements_length (suc n) i = ap suc (elements_length n (i + 1))

  pub elements_nth : (n i k : ℕ) → k < n → get_or (elements_from s h n i) k TapeMark ≡ element_at s h (i + k)
  unfolding elements_from
  elements_nth zero i k l = absurd (omega arith)
  elements_nth (suc n) i zero l = let y : i + 0 ≡ i = omega arith in rw y refl
  elements_nth (suc n) i (suc k) l = let y : i + suc k ≡ i + 1 + k = omega arith in rw y (elements_nth n (i + 1) k (omega arith))

  pub elements_whole : header_of s ≡ Some h → (n i : ℕ) → i + n ≤ h.capacity → AllWhole h.size (elements_from s h n i)
  unfolding elements_from
  elements_whole good zero i l = tt
  elements_whole good (suc n) i l = (
    block_is_whole h.size (kind_at s h.kinds i) (block_at s h.size h.blocks i) (block_length s h good i (omega arith)),
    elements_whole good n (i + 1) (omega arith),
  )

-- ---- what a file of them takes

pub marks_and_blocks : (es : List Element) → marks_in es + blocks_in es ≡ length es
marks_and_blocks [] = refl
marks_and_blocks (TapeMark ∷ es) = omega (arith, marks_and_blocks es)
marks_and_blocks (Block unreadable bytes ∷ es) = omega (arith, marks_and_blocks es)

module _ (size : ℕ) (even : size % 2 ≡ 0) where
  pub file_takes : (es : List Element) → AllWhole size es → length (file_of es) ≡ 4 + (4 * marks_in es + (size + 8) * blocks_in es)
  file_takes [] w = omega (arith, file_end_length)
  file_takes (TapeMark ∷ es) w = omega (arith, file_takes es w.1, file_length TapeMark es, mark_length)
  file_takes (Block unreadable bytes ∷ es) w =
      let q = w.0 in
      omega (arith, file_takes es w.1, file_length (Block unreadable bytes) es, record_length unreadable bytes, q)

  pub file_most : (es : List Element) → AllWhole size es → length (file_of es) ≤ 4 + length es * (size + 8)
  file_most [] w = omega (arith, file_end_length)
  file_most (TapeMark ∷ es) w = omega (arith, file_most es w.1, file_length TapeMark es, mark_length)
  file_most (Block unreadable bytes ∷ es) w =
      let q = w.0 in
      omega (arith, file_most es w.1, file_length (Block unreadable bytes) es, record_length unreadable bytes, q)
