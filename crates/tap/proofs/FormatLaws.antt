-- What is written is read: an element's bytes anywhere in a file are that element's item, and a file of elements holds them.
-- Assumes nothing.
use mathlib.Core.Path.{◌≡◌, refl, sym, ap, ◌∙◌}
use mathlib.Core.Bool.{Bool, true, false}
use mathlib.Core.List.{List, [], ◌∷◌, ◌++◌, append_assoc}
use Prim.Native.Nat.{ℕ, zero, suc, ◌+◌, ◌%◌, ◌^◌, ◌<◌, ◌≤◌}
use native.Mathlib.Omega.{arith}
use borrow.Author.Tests.{lt-leb, le-leb, eq-eqb}
use lib.ListN.{length, length-append, replicate, length-replicate}
use lib.Seq.{take-append_seam, drop-append_seam}
use Rattle.numbers.specs.Flags.{weight_of}
use Rattle.numbers.specs.Over.{part}
use Rattle.numbers.specs.Words.{word_at, word_bytes}
use Rattle.numbers.proofs.WordLaws.{word_length, word_read_back, word_after}
use Rattle.tap.specs.declared.items.Item.TheVariants.{Ends, Mark, Record}
use Rattle.tap.specs.Items.{tape_mark, end_mark, high_bit, length_in, is_unreadable, padded, record_at, item_at}
use Rattle.tap.specs.Files.{Element, TapeMark, Block, AllWhole, Holds, record_bytes, bytes_of, file_of, met, reads, with_first}
use Rattle.tap.proofs.ItemLaws.{is_mark_lem, mark-ends, else-record, is-record}
use Rattle.tap.proofs.WriteLaws.{mark_length, record_length, file_length}

-- a word that stands after a front
word_here : (front rest : List ℕ) (w : ℕ) → w < 2 ^ 32 → word_at (front ++ (word_bytes w ++ rest)) (length front) ≡ w
word_here front rest w b =
    let y : length front ≡ length front + 0 = omega arith in
    ap (λ (i : ℕ). word_at (front ++ (word_bytes w ++ rest)) i) y ∙ word_after front (word_bytes w ++ rest) 0 ∙ word_read_back w rest b

module _ (front rest : List ℕ) (w : ℕ) (fits : w < 2 ^ 32) where
  abbrev file : List ℕ
  file = front ++ (word_bytes w ++ rest)

  room : length front + 4 ≤ length file
  room = rw (length-append, length-append) (omega (arith, word_length w))

  mark_here : w ≡ tape_mark → item_at file (length front) ≡ Mark (length front + 4)
  mark_here e =
      let r = room in
      sym (is_mark_lem file (length front) (omega arith) (omega arith) w (sym (word_here front rest w fits)) e)

  end_here : w ≡ end_mark → item_at file (length front) ≡ Ends (length front + 4)
  end_here e =
      let r = room in
      sym (mark-ends file (length front) (omega arith) (omega arith) w (sym (word_here front rest w fits)) (λ q. omega arith) e)

  record_here : (w ≡ tape_mark → ⊥) → (w ≡ end_mark → ⊥) → item_at file (length front) ≡ record_at file (length front) w
  record_here n m =
      let r = room in
      sym (else-record file (length front) (omega arith) (omega arith) w (sym (word_here front rest w fits)) _ n m refl)

tape_mark_here : (front rest : List ℕ) → item_at (front ++ (bytes_of TapeMark ++ rest)) (length front) ≡ Mark (length front + 4)
unfolding bytes_of
tape_mark_here front rest = mark_here front rest tape_mark (omega arith) refl

-- ---- a record

high : (unreadable : Bool) (n : ℕ) → n < high_bit
    → (length_in (n + weight_of unreadable high_bit) ≡ n) × (is_unreadable (n + weight_of unreadable high_bit) ≡ unreadable)
high true n b = (omega arith, le-leb high_bit (n + high_bit) (omega arith))
high false n b = (omega arith, lt-leb high_bit (n + 0) (omega arith))

word_fits : (unreadable : Bool) (n : ℕ) → n < high_bit → n + weight_of unreadable high_bit < 2 ^ 32
word_fits true n b = omega arith
word_fits false n b = omega arith

word_plain : (unreadable : Bool) (n : ℕ) → 0 < n → n + 1 < high_bit
    → ((n + weight_of unreadable high_bit ≡ tape_mark → ⊥) × (n + weight_of unreadable high_bit ≡ end_mark → ⊥))
word_plain true n a b = ((λ e. omega arith), (λ e. omega arith))
word_plain false n a b = ((λ e. omega arith), (λ e. omega arith))

module _ (front rest : List ℕ) (unreadable : Bool) (bytes : List ℕ) where
  abbrev n : ℕ
  n = length bytes

  abbrev w : ℕ
  w = n + weight_of unreadable high_bit

  abbrev pad : List ℕ
  pad = replicate (n % 2) 0

  abbrev whole : List ℕ
  whole = front ++ (bytes_of (Block unreadable bytes) ++ rest)

  -- its parts, one after the other
  parts : whole ≡ front ++ (word_bytes w ++ (bytes ++ (pad ++ (word_bytes w ++ rest))))
  unfolding bytes_of record_bytes
  parts = simp append_assoc

  -- up to its second word
  to_second : whole ≡ (front ++ (word_bytes w ++ (bytes ++ pad))) ++ (word_bytes w ++ rest)
  to_second = parts ∙ sym (simp append_assoc)

  second_place : length (front ++ (word_bytes w ++ (bytes ++ pad))) ≡ length front + padded n + 4
  second_place = simp (length-append, word_length w, length-replicate) (omega arith)

  to_bytes : whole ≡ (front ++ word_bytes w) ++ (bytes ++ (pad ++ (word_bytes w ++ rest)))
  to_bytes = parts ∙ sym (append_assoc front (word_bytes w) _)

  record_bytes_lem : part whole (length front + 4) n ≡ bytes
  record_bytes_lem =
      let y : length front + 4 ≡ length (front ++ word_bytes w) = simp length-append (omega (arith, word_length w)) in
      rw (to_bytes, y, drop-append_seam, take-append_seam) refl

  module _ (some : 0 < n) (short : n + 1 < high_bit) where
    second_word : w ≡ word_at whole (length front + padded n + 4)
    second_word = rw (to_second, ← second_place) (sym (word_here (front ++ (word_bytes w ++ (bytes ++ pad))) rest w (word_fits unreadable n (omega arith))))

    block_here : item_at whole (length front)
        ≡ Record (record { from = length front + 4; length = n; unreadable = unreadable; next = length front + length (bytes_of (Block unreadable bytes)) })
    block_here =
        let z = high unreadable n (omega arith) in
        let p = word_plain unreadable n some short in
        let l = record_length unreadable bytes in
        let k : length whole ≡ length front + (padded n + 8 + length rest) = simp (length-append, l) (omega arith) in
        let y : length front + (padded n + 8) ≡ length front + padded n + 8 = omega arith in
        let e = record_here front (bytes ++ (pad ++ (word_bytes w ++ rest))) w (word_fits unreadable n (omega arith)) p.0 p.1 in
        let r = is-record whole (length front) w (omega (arith, k)) (rw z.0 (omega (arith, k))) w (rw z.0 second_word) refl in
        rw (l, y) (rw (← parts) at e ∙ rw (z.0, z.1) at (sym r))

-- ---- a file of elements

-- the first element before the rest
first_apart : (front rest : List ℕ) (e : Element) (es : List Element) → front ++ (file_of (e ∷ es) ++ rest) ≡ front ++ (bytes_of e ++ (file_of es ++ rest))
unfolding file_of
first_apart front rest e es = ap (λ (l : List ℕ). front ++ l) (append_assoc (bytes_of e) (file_of es) rest)

first_before : (front rest : List ℕ) (e : Element) (es : List Element) → front ++ (file_of (e ∷ es) ++ rest) ≡ (front ++ bytes_of e) ++ (file_of es ++ rest)
first_before front rest e es = first_apart front rest e es ∙ sym (append_assoc front (bytes_of e) (file_of es ++ rest))

module _ (size : ℕ) (some : 0 < size) (short : size + 1 < high_bit) where
  file_ends : (front rest : List ℕ) (room : ℕ) → reads size (front ++ (file_of [] ++ rest)) room (length front) ≡ Holds [] (length front + length (file_of []))
  unfolding reads met file_of
  file_ends front rest zero = rw (end_here front rest end_mark (omega arith) refl, word_length end_mark) refl
  file_ends front rest (suc room) = rw (end_here front rest end_mark (omega arith) refl, word_length end_mark) refl

  -- the reading goes on after an element
  goes_on : (front rest : List ℕ) (e : Element) (es : List Element) (room : ℕ)
      → ((front rest : List ℕ) → reads size (front ++ (file_of es ++ rest)) room (length front) ≡ Holds es (length front + length (file_of es)))
      → with_first e (reads size (front ++ (file_of (e ∷ es) ++ rest)) room (length front + length (bytes_of e)))
      ≡ Holds (e ∷ es) (length front + length (file_of (e ∷ es)))
  goes_on front rest e es room h =
      let y : length front + length (bytes_of e) ≡ length (front ++ bytes_of e) = sym (length-append front (bytes_of e)) in
      let z : length (front ++ bytes_of e) + length (file_of es) ≡ length front + length (file_of (e ∷ es))
      = rw (← y, file_length e es) (omega arith) in
      rw (y, first_before front rest e es, h (front ++ bytes_of e) rest, z) refl

  -- a file of elements holds them, wherever it starts and whatever follows its end mark
  pub reads_file : (es : List Element) (front rest : List ℕ) (room : ℕ) → AllWhole size es → length es ≤ room
      → reads size (front ++ (file_of es ++ rest)) room (length front) ≡ Holds es (length front + length (file_of es))
  unfolding reads met
  reads_file [] front rest room w l = file_ends front rest room
  reads_file (e ∷ es) front rest zero w l = absurd (omega arith)
  reads_file (TapeMark ∷ es) front rest (suc room) w l =
      let i = rw (← first_apart front rest TapeMark es) at (tape_mark_here front (file_of es ++ rest)) in
      let g = goes_on front rest TapeMark es room (λ front rest. reads_file es front rest room w.1 (omega arith)) in
      rw i (rw mark_length at g)
  reads_file (Block unreadable bytes ∷ es) front rest (suc room) w l =
      let e = Block unreadable bytes in
      let q = w.0 in
      let i = rw (← first_apart front rest e es) at (block_here front (file_of es ++ rest) unreadable bytes (rw q some) (rw q short)) in
      let b = rw (← first_apart front rest e es) at (record_bytes_lem front (file_of es ++ rest) unreadable bytes) in
      let g = goes_on front rest e es room (λ front rest. reads_file es front rest room w.1 (omega arith)) in
      rw (i, eq-eqb (length bytes) size q, b) g
