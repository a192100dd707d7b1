-- What a run of laid elements leaves, for any end up to the capacity: one header, elements and bytes outside stay, and laid blocks read back.
-- Assumes nothing.
use Rattle.std.specs.Prelude.{Some}
use Prim.Native.Nat.{ℕ, zero, suc, ◌+◌, ◌*◌, ◌≤◌, ◌<◌}
use native.Mathlib.Nat.{le_refl, mul-le-mul_right}
use native.Mathlib.Omega.{arith}
use mathlib.Core.List.{List}
use mathlib.Core.Logic.{◌⊎◌, inl, inr, ⊎_elim}
use mathlib.Core.Path.{◌≡◌, refl, ap, ◌∙◌}
use lib.ListN.{length, get_or}
use Rattle.numbers.specs.Over.{part}
use Rattle.numbers.proofs.OverLaws.{part_length}
use Rattle.image.specs.declared.elements.Kind.TheVariants.{Data, Filemark}
use Rattle.image.specs.declared.header.Header.{Header}
use Rattle.image.specs.Elements.{kind_at, block_at}
use Rattle.image.specs.Header.{header_of}
use Rattle.image.specs.Sameness.{SameElement, Outside}
use Rattle.image.proofs.StoreLaws.{OneLaid, OffKind, OffBlock, mark_laid, mark_here, block-laid, block-kind, block_here}
use Rattle.transfer.specs.declared.Stop.{Stop}
use Rattle.transfer.specs.Moving.{halts}
use Rattle.transfer.specs.Writing.{Writing, writes, block_of, mark_of}
use Rattle.transfer.proofs.WriteLaws.{LayRun}

-- from place p on the run laid elements up to the place where it halted
pub record Laid (h : Header) (Apart : ℕ → ℕ → Type 0) (p : ℕ) (s : List ℕ) (X : Writing) : Type 0 where
  pub header : header_of X.image ≡ Some h
  pub onward : p ≤ X.moved.place
  pub reached : X.moved.place ≤ h.capacity
  pub size : length X.image ≡ length s
  pub others : (j : ℕ) → j < h.capacity → (j < p) ⊎ (X.moved.place ≤ j) → SameElement h s X.image j
  pub apart : (m : ℕ) → ((i : ℕ) → p ≤ i → i < X.moved.place → Apart i m) → get_or X.image m 0 ≡ get_or s m 0
  pub none : X.moved.place ≡ p → X.image ≡ s

-- each element is laid so, with its bytes below `room`
module _ (h : Header) (Apart : ℕ → ℕ → Type 0) (lay : ℕ → ℕ → List ℕ → List ℕ) (size room : ℕ)
    (one : (off p : ℕ) (s : List ℕ) → header_of s ≡ Some h → p < h.capacity → off + size ≤ room → OneLaid h (Apart p) p s (lay off p s)) where
  laid_none : (p : ℕ) (s : List ℕ) (left : ℕ) (stop : Stop) → header_of s ≡ Some h → p ≤ h.capacity → Laid h Apart p s (writes s (halts p left stop))
  laid_none p s left stop good l =
      record {
        header = good;
        onward = le_refl p;
        reached = l;
        size = refl;
        others = λ j c e. record { kind = refl; bytes = refl };
        apart = λ m a. refl;
        none = λ e. refl;
      }

  laid_on : (p : ℕ) (s t : List ℕ) (X : Writing) → p < h.capacity → OneLaid h (Apart p) p s t → Laid h Apart (p + 1) t X → Laid h Apart p s X
  laid_on p s t X b o w =
      let f = w.onward in
      record {
        header = w.header;
        onward = omega arith;
        reached = w.reached;
        size = w.size ∙ o.size;
        others = λ j c e.
            let n : j ≡ p → ⊥ = ⊎_elim (λ l q. omega arith) (λ l q. omega arith) e in
            let k = w.others j c (⊎_elim (λ l. inl (omega arith)) (λ l. inr l) e) in
            record { kind = k.kind ∙ o.kinds j c n; bytes = k.bytes ∙ o.bytes j c n };
        apart = λ m a. w.apart m (λ i b c. a i (omega arith) c) ∙ o.apart m (a p (le_refl p) (omega arith));
        none = λ e. absurd (omega arith);
      }

  pub laid : {end n off p : ℕ} {s : List ℕ} {X : Writing} → LayRun lay size end n off p s X → end ≤ h.capacity → header_of s ≡ Some h → p ≤ h.capacity
      → off + n * size ≤ room → Laid h Apart p s X
  laid (LayRun.full off p s) i g l b = laid_none p s _ _ g l
  laid (LayRun.at-end n off p s e) i g l b = laid_none p s _ _ g l
  laid (LayRun.lays n off p s X e r) i g l b =
      let o = one off p s g (omega arith) (omega arith) in
      laid_on p s _ X (omega arith) o (laid r i o.header (omega arith) (omega arith))

-- a byte that is neither the element's kind nor of its block
abbrev pub Apart : Header → ℕ → ℕ → Type 0
Apart h i m = OffKind h i m × OffBlock h i m

-- a byte outside the kinds of the k elements from place p on is off each of them; so is one outside their blocks
module _ (h : Header) (p place k m : ℕ) (e : place ≡ p + k) where
  pub off_kinds : Outside (h.kinds + p) k m → (i : ℕ) → p ≤ i → i < place → OffKind h i m
  off_kinds o i a b q = ⊎_elim (λ z. omega arith) (λ z. omega arith) o

  pub off_blocks : Outside (h.blocks + p * h.size) (k * h.size) m → (i : ℕ) → p ≤ i → i < place → OffBlock h i m
  off_blocks o i a b =
      let x = mul-le-mul_right h.size a in
      let y = mul-le-mul_right h.size b in
      let z : place * h.size ≡ p * h.size + k * h.size = ap (λ (n : ℕ). n * h.size) e ∙ omega arith in
      ⊎_elim (λ c. inl (omega arith)) (λ c. inr (omega arith)) o

-- the block of src at offset off
pub block_of_lem : (h : Header) (src : List ℕ) (off p : ℕ) (s : List ℕ) → header_of s ≡ Some h → p < h.capacity → off + h.size ≤ length src
    → OneLaid h (Apart h p) p s (block_of h.size h.kinds h.blocks src off p s)
block_of_lem h src off p s g e l = block-laid s h g p e (part src off h.size) (part_length src off h.size l)

module _ (h : Header) (end : ℕ) (inside : end ≤ h.capacity) where
  pub marks_laid : {n p : ℕ} {s : List ℕ} {X : Writing} → LayRun (mark_of h.kinds) 0 end n 0 p s X
      → header_of s ≡ Some h → p ≤ h.capacity → Laid h (OffKind h) p s X
  marks_laid r g l = laid h (OffKind h) (mark_of h.kinds) 0 0 (λ off p s g c r. mark_laid s h g p c) r inside g l (omega arith)

  -- filemark number j of a WRITE FILEMARK is element p + j
  pub marks_read_back : {n p : ℕ} {s : List ℕ} {X : Writing} → LayRun (mark_of h.kinds) 0 end n 0 p s X
      → header_of s ≡ Some h → (j : ℕ) → p + j < X.moved.place → kind_at X.image h.kinds (p + j) ≡ Filemark
  marks_read_back (LayRun.full off p s) g j f = absurd (omega arith)
  marks_read_back (LayRun.at-end n off p s e) g j f = absurd (omega arith)
  marks_read_back (LayRun.lays n off p s X e r) g zero f =
      let c : p < h.capacity = omega arith in
      let w = marks_laid r (mark_laid s h g p c).header (omega arith) in
      let y : p + 0 ≡ p = omega arith in
      rw y ((w.others p c (inl (omega arith))).kind ∙ mark_here s h g p c)
  marks_read_back (LayRun.lays n off p s X e r) g (suc j) f =
      let y : p + suc j ≡ p + 1 + j = omega arith in
      rw y (marks_read_back r (mark_laid s h g p (omega arith)).header j (omega arith))

  module _ (src : List ℕ) where
    abbrev BlockRun : ℕ → ℕ → ℕ → List ℕ → Writing → Type 0
    BlockRun n off p s X = LayRun (block_of h.size h.kinds h.blocks src) h.size end n off p s X

    pub blocks-laid : {n off p : ℕ} {s : List ℕ} {X : Writing} → BlockRun n off p s X
        → header_of s ≡ Some h → p ≤ h.capacity → off + n * h.size ≤ length src → Laid h (Apart h) p s X
    blocks-laid r g l b = laid h (Apart h) (block_of h.size h.kinds h.blocks src) h.size (length src) (block_of_lem h src) r inside g l b

    -- block number j of a WRITE is element p + j
    pub blocks-read-back : {n off p : ℕ} {s : List ℕ} {X : Writing} → BlockRun n off p s X
        → header_of s ≡ Some h → off + n * h.size ≤ length src → (j : ℕ) → p + j < X.moved.place
        → (kind_at X.image h.kinds (p + j) ≡ Data) × (block_at X.image h.size h.blocks (p + j) ≡ part src (off + j * h.size) h.size)
    blocks-read-back (LayRun.full off p s) g b j f = absurd (omega arith)
    blocks-read-back (LayRun.at-end n off p s e) g b j f = absurd (omega arith)
    blocks-read-back (LayRun.lays n off p s X e r) g b zero f =
        let w = blocks-laid r (block_of_lem h src off p s g (omega arith) (omega arith)).header (omega arith) (omega arith) in
        let new = part src off h.size in
        let whole = part_length src off h.size (omega arith) in
        let x : off + 0 * h.size ≡ off = omega arith in
        let y : p + 0 ≡ p = omega arith in
        let c : p < h.capacity = omega arith in
        let k = w.others p c (inl (omega arith)) in
        rw (x, y) (k.kind ∙ block-kind s h g p c new whole, k.bytes ∙ block_here s h g p c new whole)
    blocks-read-back (LayRun.lays n off p s X e r) g b (suc j) f =
        let x : off + suc j * h.size ≡ off + h.size + j * h.size = omega arith in
        let y : p + suc j ≡ p + 1 + j = omega arith in
        rw (x, y) (blocks-read-back r (block_of_lem h src off p s g (omega arith) (omega arith)).header (omega arith) j (omega arith))
