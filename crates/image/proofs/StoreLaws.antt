-- What is laid on the tape and what is recorded of it: laying keeps the header, element i reads back, the others keep kind and bytes;
-- recording keeps all but U.
-- Assumes nothing.
use Rattle.std.specs.Prelude.{if◌then◌else◌}
use mathlib.Core.Path.{◌≡◌, refl, sym, ap, ◌∙◌}
use mathlib.Core.List.{List}
use mathlib.Core.Logic.{◌⊎◌, inl, inr, ⊎_elim}
use Prim.Native.Nat.{ℕ, ◌+◌, ◌*◌, ◌-◌, ◌<◌, ◌≤◌}
use native.Mathlib.Nat.{le_refl, mul-le-mul_right}
use native.Mathlib.Omega.{arith}
use borrow.Author.Tests.{lt-ltb, le-ltb, ltb-true, ltb-false}
use lib.Dec.{ltb}
use lib.ListN.{length, set, get_or, length-set}
use lib.Seq.{get_or-set_same, get_or-set_other}
use borrow.Rule.Slice.PartMut.{mid_of, put_mid}
use Rattle.numbers.specs.Counts.{count_at, put_count}
use Rattle.numbers.specs.Over.{over, part}
use Rattle.numbers.proofs.Cases.{test, either}
use Rattle.numbers.proofs.CountLaws.{length_put_count, put_count_below, put_count_above, count_read_back, count_by_bytes}
use Rattle.numbers.proofs.OverLaws.{over_length, over_below, over_above, over_part, part_same, copied_over}
use Rattle.image.specs.declared.header.Header.{Header}
use Rattle.std.specs.Prelude.{Some}
use Rattle.image.specs.declared.elements.Kind.TheVariants.{Data, Filemark, Unreadable}
use Rattle.image.specs.Header.{fields_of, header_of, with_recorded}
use Rattle.image.specs.Elements.{kind_of, kind_at, block_at, lay_as, lay_block, lay_unreadable, lay_mark, record_to}
use Rattle.image.specs.Sameness.{Outside}
use Rattle.image.proofs.HeaderLaws.{sound, fields_are, each_fixed, each_range, each_place, good_by, header_same}

-- the code's laying is the definition's
pub laid_so : (kind : ℕ) (s : List ℕ) (size kinds blocks i a k off : ℕ) (src ys new : List ℕ) → a ≡ blocks + i * size → k ≡ kinds + i
    → ys ≡ over (mid_of a (length s - a) s) 0 (mid_of off (off + size - off) src) → new ≡ set (put_mid a (length s - a) s ys) k kind
    → new ≡ lay_as kind s size kinds blocks i (part src off size)
laid_so kind s size kinds blocks i a k off src ys new q r e f = rw (f, copied_over a off size s src ys e, q, r)

apart : (j i : ℕ) → (j ≡ i → ⊥) → (j < i) ⊎ (i < j)
apart j i n = test (ltb j i) (λ e. inl (ltb-true j i e)) (λ e. let g = ltb-false j i e in inr (omega (arith, n)))

-- ---- one element laid

-- t is s with an element laid at place p: one header, the other elements keep kind and bytes, and each byte m with Apart m stays
pub record OneLaid (h : Header) (Apart : ℕ → Type 0) (p : ℕ) (s t : List ℕ) : Type 0 where
  pub header : header_of t ≡ Some h
  pub size : length t ≡ length s
  pub kinds : (j : ℕ) → j < h.capacity → (j ≡ p → ⊥) → kind_at t h.kinds j ≡ kind_at s h.kinds j
  pub bytes : (j : ℕ) → j < h.capacity → (j ≡ p → ⊥) → block_at t h.size h.blocks j ≡ block_at s h.size h.blocks j
  pub apart : (m : ℕ) → Apart m → get_or t m 0 ≡ get_or s m 0

-- a byte that is not the element's kind; none of the element's block
abbrev pub OffKind : Header → ℕ → ℕ → Type 0
OffKind h i m = m ≡ h.kinds + i → ⊥

abbrev pub OffBlock : Header → ℕ → ℕ → Type 0
OffBlock h i m = Outside (h.blocks + i * h.size) h.size m

-- laid in two steps
laid_both : (h : Header) (A B : ℕ → Type 0) (p : ℕ) (s t w : List ℕ) → OneLaid h A p s t → OneLaid h B p t w → OneLaid h (λ m. B m × A m) p s w
laid_both h A B p s t w x y =
    record {
      header = y.header;
      size = y.size ∙ x.size;
      kinds = λ j l n. y.kinds j l n ∙ x.kinds j l n;
      bytes = λ j l n. y.bytes j l n ∙ x.bytes j l n;
      apart = λ m a. y.apart m a.0 ∙ x.apart m a.1;
    }

module _ (s : List ℕ) (h : Header) (good : header_of s ≡ Some h) (i : ℕ) (within : i < h.capacity) where
  -- ---- its kind

  module _ (kind : ℕ) where
    abbrev after : List ℕ
    after = set s (h.kinds + i) kind

    kind-kept : (m : ℕ) → OffKind h i m → get_or after m 0 ≡ get_or s m 0
    kind-kept m n = get_or-set_other s (h.kinds + i) m kind 0 n

    kind-bytes : (j : ℕ) → j < h.capacity → block_at after h.size h.blocks j ≡ block_at s h.size h.blocks j
    unfolding block_at
    kind-bytes j l =
        let g = sound s h good in
        let m = mul-le-mul_right h.size l in
        let q = length-set s (h.kinds + i) kind in
        part_same after s (h.blocks + j * h.size) h.size (omega arith) q (λ x b. kind-kept (h.blocks + j * h.size + x) (λ e. omega arith))

    kind-laid : OneLaid h (OffKind h i) i s after
    unfolding kind_at
    kind-laid =
        let g = sound s h good in
        let l = length-set s (h.kinds + i) kind in
        record {
          header = header_same s after l (λ m b. kind-kept m (λ e. omega arith)) h good;
          size = l;
          kinds = λ j b n. ap kind_of (kind-kept (h.kinds + j) (λ e. n (omega arith)));
          bytes = λ j b n. kind-bytes j b;
          apart = kind-kept;
        }

    kind-set : get_or after (h.kinds + i) 0 ≡ kind
    kind-set =
        let g = sound s h good in
        get_or-set_same s (h.kinds + i) kind 0 (omega arith)

  -- ---- its bytes

  module _ (new : List ℕ) (whole : length new ≡ h.size) where
    abbrev laid : List ℕ
    laid = over s (h.blocks + i * h.size) new

    room : h.blocks + i * h.size + length new ≤ length s
    room =
        let g = sound s h good in
        let m = mul-le-mul_right h.size within in
        omega arith

    over-kept : (m : ℕ) → OffBlock h i m → get_or laid m 0 ≡ get_or s m 0
    over-kept m o =
        let r = room in
        let a = h.blocks + i * h.size in
        ⊎_elim (λ l. over_below s new a m (omega arith) l) (λ l. over_above s new a m (omega arith) (omega arith)) o

    off-block : (j x : ℕ) → x < h.size → (j < i) ⊎ (i < j) → OffBlock h i (h.blocks + j * h.size + x)
    off-block j x b o =
        ⊎_elim (λ z. let y = mul-le-mul_right h.size z in inl (omega arith)) (λ z. let y = mul-le-mul_right h.size z in inr (omega arith)) o

    over-laid : OneLaid h (OffBlock h i) i s laid
    unfolding kind_at block_at
    over-laid =
        let g = sound s h good in
        let r = room in
        let q = over_length s new (h.blocks + i * h.size) r in
        record {
          header = header_same s laid q (λ m b. over-kept m (inl (omega arith))) h good;
          size = q;
          kinds = λ j b n. ap kind_of (over-kept (h.kinds + j) (inl (omega arith)));
          bytes = λ j b n.
              let m = mul-le-mul_right h.size b in
              let a = h.blocks + j * h.size in
              part_same laid s a h.size (omega arith) q (λ x c. over-kept (a + x) (off-block j x c (apart j i n)));
          apart = over-kept;
        }

    over-here : block_at laid h.size h.blocks i ≡ new
    unfolding block_at
    over-here = ap (λ (n : ℕ). part laid (h.blocks + i * h.size) n) (sym whole) ∙ over_part s new (h.blocks + i * h.size) room

-- ---- 01, 10h: a filemark laid as element i, "block bytes untouched"; 01, 0Ah: a block laid as element i

module _ (s : List ℕ) (h : Header) (good : header_of s ≡ Some h) (i : ℕ) (within : i < h.capacity) where
  pub mark_laid : OneLaid h (OffKind h i) i s (lay_mark s h.kinds i)
  unfolding lay_mark
  mark_laid = kind-laid s h good i within 2

  -- the kind's byte itself
  pub mark_byte : get_or (lay_mark s h.kinds i) (h.kinds + i) 0 ≡ 2
  unfolding lay_mark
  mark_byte = kind-set s h good i within 2

  pub mark_here : kind_at (lay_mark s h.kinds i) h.kinds i ≡ Filemark
  unfolding kind_at kind_of
  mark_here = rw mark_byte

  module _ (new : List ℕ) (whole : length new ≡ h.size) where
    abbrev under : List ℕ
    under = over s (h.blocks + i * h.size) new

    under-good : header_of under ≡ Some h
    under-good = (over-laid s h good i within new whole).header

    -- whatever its kind
    as-laid : (kind : ℕ) → OneLaid h (λ m. OffKind h i m × OffBlock h i m) i s (lay_as kind s h.size h.kinds h.blocks i new)
    as-laid kind = laid_both h _ _ i s under _ (over-laid s h good i within new whole) (kind-laid under h under-good i within kind)

    -- the element's bytes read back
    as-here : (kind : ℕ) → block_at (lay_as kind s h.size h.kinds h.blocks i new) h.size h.blocks i ≡ new
    as-here kind = kind-bytes under h under-good i within kind i within ∙ over-here s h good i within new whole

    pub block-laid : OneLaid h (λ m. OffKind h i m × OffBlock h i m) i s (lay_block s h.size h.kinds h.blocks i new)
    unfolding lay_block
    block-laid = as-laid 1

    pub block-byte : get_or (lay_block s h.size h.kinds h.blocks i new) (h.kinds + i) 0 ≡ 1
    unfolding lay_block
    block-byte = kind-set under h under-good i within 1

    pub block-kind : kind_at (lay_block s h.size h.kinds h.blocks i new) h.kinds i ≡ Data
    unfolding kind_at kind_of
    block-kind = rw block-byte

    pub block_here : block_at (lay_block s h.size h.kinds h.blocks i new) h.size h.blocks i ≡ new
    unfolding lay_block
    block_here = as-here 1

    -- 02, A7: "stores an unreadable block as kind 0"
    pub unreadable-laid : OneLaid h (λ m. OffKind h i m × OffBlock h i m) i s (lay_unreadable s h.size h.kinds h.blocks i new)
    unfolding lay_unreadable
    unreadable-laid = as-laid 0

    pub unreadable-byte : get_or (lay_unreadable s h.size h.kinds h.blocks i new) (h.kinds + i) 0 ≡ 0
    unfolding lay_unreadable
    unreadable-byte = kind-set under h under-good i within 0

    pub unreadable-kind : kind_at (lay_unreadable s h.size h.kinds h.blocks i new) h.kinds i ≡ Unreadable
    unfolding kind_at kind_of
    unreadable-kind = rw unreadable-byte

    pub unreadable-here : block_at (lay_unreadable s h.size h.kinds h.blocks i new) h.size h.blocks i ≡ new
    unfolding lay_unreadable
    unreadable-here = as-here 0

-- ---- U recorded

module _ (s : List ℕ) (h : Header) (good : header_of s ≡ Some h) (u : ℕ) (within : u ≤ h.capacity) where
  abbrev noted : List ℕ
  noted = put_count s 8 4 u

  pub noted_kept : (m : ℕ) → Outside 8 4 m → get_or noted m 0 ≡ get_or s m 0
  noted_kept m o = ⊎_elim (λ l. put_count_below s 8 4 u m l) (λ l. put_count_above s 8 4 u m l) o

  noted_number : (p k : ℕ) → (p + k ≤ 8) ⊎ (12 ≤ p) → count_at noted p k ≡ count_at s p k
  noted_number p k o = count_by_bytes noted s p k (λ m a b. noted_kept m (⊎_elim (λ l. inl (omega arith)) (λ l. inr (omega arith)) o))

  noted_fields : fields_of noted ≡ with_recorded (fields_of s) u
  unfolding fields_of
  noted_fields =
      let g = sound s h good in
      let e1 = noted_number 2 2 (inl (omega arith)) in
      let e2 = noted_number 4 4 (inl (omega arith)) in
      let e3 = count_read_back s 8 4 u (omega arith) (omega arith) in
      let e4 = noted_number 12 4 (inr (omega arith)) in
      let e5 = noted_number 16 4 (inr (omega arith)) in
      let e6 = noted_number 20 1 (inr (omega arith)) in
      let e7 = noted_number 21 1 (inr (omega arith)) in
      let e8 = noted_number 22 2 (inr (omega arith)) in
      cc

  pub noted_header : header_of noted ≡ Some (with_recorded h u)
  noted_header =
      let f = each_fixed s h good in
      let r = each_range s h good in
      let l = length_put_count s 8 4 u in
      let e1 = noted_number 0 2 (inl (omega arith)) in
      let e2 = noted_number 24 4 (inr (omega arith)) in
      let e3 = noted_number 28 4 (inr (omega arith)) in
      good_by noted (with_recorded h u) (noted_fields ∙ ap (λ (x : Header). with_recorded x u) (fields_are s h good))
      (omega arith)
      (r.0, (r.1.0, (within, r.1.1.1)))
      (rw l (each_place s h good))

  pub noted_kind : (j : ℕ) → kind_at noted h.kinds j ≡ kind_at s h.kinds j
  unfolding kind_at
  noted_kind j = let g = sound s h good in ap kind_of (noted_kept (h.kinds + j) (inr (omega arith)))

  pub noted_bytes : (j : ℕ) → j < h.capacity → block_at noted h.size h.blocks j ≡ block_at s h.size h.blocks j
  unfolding block_at
  noted_bytes j l =
      let g = sound s h good in
      let q = length_put_count s 8 4 u in
      let m = mul-le-mul_right h.size l in
      let a = h.blocks + j * h.size in
      part_same noted s a h.size (omega arith) q (λ x b. noted_kept (a + x) (inr (omega arith)))

-- ---- 01, WRITE: "U = new P"

-- U after a run from place p to another place
unfoldable pub recorded_after : ℕ → ℕ → ℕ → ℕ
recorded_after u p place = if ltb p place then place else u

module _ (u p place : ℕ) where
  pub after_stored : p < place → recorded_after u p place ≡ place
  unfolding recorded_after
  after_stored l = rw (lt-ltb p place l)

  pub after_reached : p ≤ u → place ≤ recorded_after u p place
  unfolding recorded_after
  after_reached l =
      either (λ (x : ℕ). place ≤ x) (ltb p place) place u (λ e. le_refl place) (λ e. let g = ltb-false p place e in omega arith)

  pub after_either : (i : ℕ) → i < recorded_after u p place → (i < u) ⊎ (i < place)
  unfolding recorded_after
  after_either i =
      either (λ (x : ℕ). i < x → (i < u) ⊎ (i < place)) (ltb p place) place u (λ e l. inr l) (λ e l. inl l)

module _ (s : List ℕ) (p place : ℕ) where
  pub record_none : place ≤ p → record_to s p place ≡ s
  unfolding record_to
  record_none l = rw (le-ltb p place l)

  pub record_length : length (record_to s p place) ≡ length s
  unfolding record_to
  record_length =
      let P : List ℕ → Type 0 = λ t. length t ≡ length s in
      either P (ltb p place) (put_count s 8 4 place) s (λ e. length_put_count s 8 4 place) (λ e. refl)

  -- every byte but U's four
  pub record_apart : (m : ℕ) → Outside 8 4 m → get_or (record_to s p place) m 0 ≡ get_or s m 0
  unfolding record_to
  record_apart m o =
      let P : List ℕ → Type 0 = λ t. get_or t m 0 ≡ get_or s m 0 in
      either P (ltb p place) (put_count s 8 4 place) s
      (λ e. ⊎_elim (λ l. put_count_below s 8 4 place m l) (λ l. put_count_above s 8 4 place m l) o) (λ e. refl)

module _ (s : List ℕ) (h : Header) (good : header_of s ≡ Some h) (p place : ℕ) (within : place ≤ h.capacity) where
  pub record_header : header_of (record_to s p place) ≡ Some (with_recorded h (recorded_after h.recorded p place))
  unfolding record_to recorded_after
  record_header = test (ltb p place) (λ e. rw e (noted_header s h good place within)) (λ e. rw e good)

  pub record_kind : (j : ℕ) → kind_at (record_to s p place) h.kinds j ≡ kind_at s h.kinds j
  unfolding record_to
  record_kind j =
      let P : List ℕ → Type 0 = λ t. kind_at t h.kinds j ≡ kind_at s h.kinds j in
      either P (ltb p place) (put_count s 8 4 place) s (λ e. noted_kind s h good place within j) (λ e. refl)

  pub record_bytes_lem : (j : ℕ) → j < h.capacity → block_at (record_to s p place) h.size h.blocks j ≡ block_at s h.size h.blocks j
  unfolding record_to
  record_bytes_lem j l =
      let P : List ℕ → Type 0 = λ t. block_at t h.size h.blocks j ≡ block_at s h.size h.blocks j in
      either P (ltb p place) (put_count s 8 4 place) s (λ e. noted_bytes s h good place within j l) (λ e. refl)
