-- The elements of an image as a file has them, the loops that measure and write them, and the ways of `export`.
-- Assumes nothing.
use mathlib.Core.Path.{◌≡◌, refl, sym, ap, ◌∙◌}
use mathlib.Core.Bool.{Bool, true, false, not, false≢true, true≢false}
use mathlib.Core.List.{List, [], ◌∷◌}
use Prim.Native.Nat.{ℕ, suc, ◌+◌, ◌*◌, ◌-◌, ◌%◌, ◌<◌, ◌≤◌}
use native.Mathlib.Nat.{mul-le-mul_right}
use native.Mathlib.Omega.{arith}
use borrow.Author.Tests.{lt-ltb, le-ltb}
use lib.ListN.{length}
use Rattle.std.specs.Prelude.{Some, None, Ok, Err}
use Rattle.numbers.specs.declared.refusals.Refusal.TheVariants.{BrokenImage, ShortBuffer}
use Rattle.numbers.specs.Over.{over, part}
use Rattle.numbers.specs.Words.{word_bytes}
use Rattle.numbers.proofs.OverLaws.{part_length, over_length}
use Rattle.image.specs.declared.elements.Kind.{Kind}
use Rattle.image.specs.declared.elements.Kind.TheVariants.{Data, Filemark, Unreadable, Marked}
use Rattle.image.specs.declared.header.Header.{Header}
use Rattle.image.specs.Elements.{kind_at, block_at, holds_data, is_filemark}
use Rattle.image.specs.Header.{header_of}
use Rattle.image.proofs.HeaderLaws.{sound, fields_are, keeps_of, broken_of}
use Rattle.packet_state.specs.declared.state.Told.{Told}
use Rattle.packet_state.specs.Answers.{answer_of}
use Rattle.packet_parts.specs.Answers.{told}
use Rattle.tap.specs.Items.{tape_mark, end_mark}
use Rattle.tap.specs.Files.{Element, TapeMark, Block, bytes_of, file_of}
use Rattle.tap.proofs.WriteLaws.{mark_length, record_length, file_end, file_end_length, file_length, file_more}
use Rattle.exchange.specs.Exporting.{element_of, element_at, elements_from, elements_of, length_of, exported, exports}

-- ---- one element

element_mark : (kind : Kind) (bytes : List ℕ) → is_filemark kind ≡ true → element_of kind bytes ≡ TapeMark
element_mark Data bytes e = absurd (false≢true e)
element_mark Filemark bytes e = refl
element_mark Unreadable bytes e = absurd (false≢true e)
element_mark Marked bytes e = absurd (false≢true e)

element_block : (kind : Kind) (bytes : List ℕ) → is_filemark kind ≡ false → element_of kind bytes ≡ Block (not (holds_data kind)) bytes
element_block Data bytes e = refl
element_block Filemark bytes e = absurd (true≢false e)
element_block Unreadable bytes e = refl
element_block Marked bytes e = refl

-- its bytes in the file
element_length : (kind : Kind) (bytes : List ℕ) → length bytes % 2 ≡ 0 → length (bytes_of (element_of kind bytes)) ≡ length_of kind (length bytes)
element_length Data bytes even = omega (arith, record_length false bytes)
element_length Filemark bytes even = mark_length
element_length Unreadable bytes even = omega (arith, record_length true bytes)
element_length Marked bytes even = omega (arith, record_length false bytes)

module _ (s : List ℕ) (h : Header) (good : header_of s ≡ Some h) (i : ℕ) (within : i < h.capacity) where
  pub block_within : h.blocks + i * h.size + h.size ≤ length s
  block_within =
      let g = sound s h good in
      let m = mul-le-mul_right h.size within in
      omega arith

  pub block_length : length (block_at s h.size h.blocks i) ≡ h.size
  unfolding block_at
  block_length = part_length s (h.blocks + i * h.size) h.size block_within

  at_length : length (bytes_of (element_at s h i)) ≡ length_of (kind_at s h.kinds i) h.size
  at_length =
      let g = sound s h good in
      let l = block_length in
      element_length (kind_at s h.kinds i) (block_at s h.size h.blocks i) (rw l g.size_even) ∙ ap (length_of (kind_at s h.kinds i)) l

-- ---- the ways of `put_element`

module _ (s : List ℕ) (h : Header) (i : ℕ) (kind : Kind) (found : kind ≡ kind_at s h.kinds i) where
  pub the_mark : is_filemark kind ≡ true → element_at s h i ≡ TapeMark
  the_mark e = element_mark (kind_at s h.kinds i) (block_at s h.size h.blocks i) (rw found at e)

  pub the_block : is_filemark kind ≡ false → element_at s h i ≡ Block (not (holds_data kind)) (block_at s h.size h.blocks i)
  the_block e = rw found (element_block (kind_at s h.kinds i) (block_at s h.size h.blocks i) (rw found at e))

-- a record that was put from the block's bytes is the element, and ends where the element ends
module _ (s : List ℕ) (h : Header) (good : header_of s ≡ Some h) (i : ℕ) (within : i < h.capacity)
    (kind : Kind) (found : kind ≡ kind_at s h.kinds i) (mark : Bool) (told : mark ≡ is_filemark kind) (not-mark : mark ≡ false) where
  block-bytes : length (bytes_of (element_at s h i)) ≡ h.size + 8
  block-bytes =
      let e : is_filemark (kind_at s h.kinds i) ≡ false = rw (← found, ← told) not-mark in
      at_length s h good i within ∙ rw e refl

  pub block-put : (readable : Bool) (from r : ℕ) (file file' : List ℕ) (at : ℕ) → readable ≡ holds_data kind → from ≡ h.blocks + i * h.size
      → r ≡ at + h.size + 8 → file' ≡ over file at (bytes_of (Block (not readable) (part s from h.size)))
      → (r ≡ at + length (bytes_of (element_at s h i))) × (file' ≡ over file at (bytes_of (element_at s h i)))
  unfolding block_at
  block-put readable from r file file' at d q e f =
      let z = the_block s h i kind found (rw (← told) not-mark) in
      (omega (arith, block-bytes), rw z (rw (d, q) at f))

pub tape_mark_bytes : bytes_of TapeMark ≡ word_bytes tape_mark
unfolding bytes_of
tape_mark_bytes = refl

pub ruleset put_ways = (sound, the_mark, the_block, mark_length, tape_mark_bytes, record_length, block_length, block_within)

-- ---- the loop of `export_length`

-- the elements left to go, from place i on
abbrev pub ahead : List ℕ → Header → ℕ → List Element
ahead s h i = elements_from s h (h.recorded - i) i

module _ (s : List ℕ) (h : Header) (i : ℕ) where
  pub ahead_first : i < h.recorded → ahead s h i ≡ element_at s h i ∷ ahead s h (i + 1)
  unfolding elements_from
  ahead_first l = let y : h.recorded - i ≡ suc (h.recorded - (i + 1)) = omega arith in rw y refl

  pub ahead_none : h.recorded ≤ i → ahead s h i ≡ []
  unfolding elements_from
  ahead_none l = let y : h.recorded - i ≡ 0 = omega arith in rw y refl

-- n bytes were counted before element i, the end mark with them
pub record Measuring (s : List ℕ) (h : Header) (i n : ℕ) : Type 0 where
  pub most : n ≤ 4 + i * 1032
  pub whole : n + length (file_of (ahead s h i)) ≡ 4 + length (file_of (elements_from s h h.recorded 0))

all_ahead : (s : List ℕ) (h : Header) → ahead s h 0 ≡ elements_from s h h.recorded 0
all_ahead s h = let y : h.recorded - 0 ≡ h.recorded = omega arith in rw y refl

pub measure_start : (s : List ℕ) (h : Header) → Measuring s h 0 4
measure_start s h = record { most = omega arith; whole = rw (all_ahead s h) refl }

module _ (s : List ℕ) (h : Header) (good : header_of s ≡ Some h) (i n : ℕ) (g : Measuring s h i n) where
  pub measure_next : (k : ℕ) (kind : Kind) → i < h.recorded → kind ≡ kind_at s h.kinds i → k ≡ length_of kind h.size → k ≤ 1032
      → Measuring s h (i + 1) (n + k)
  measure_next k kind l e q b =
      let x = sound s h good in
      let w = g.whole in
      let a = at_length s h good i (omega arith) in
      let f = file_length (element_at s h i) (ahead s h (i + 1)) in
      let z : k ≡ length (bytes_of (element_at s h i)) = rw (q, e) (sym a) in
      record { most = omega (arith, g.most); whole = omega (arith, rw (ahead_first s h i l) at w, f, z) }

  pub measure_done : i ≡ h.recorded → (n ≡ length (file_of (elements_from s h h.recorded 0))) × (n ≤ 67632124)
  measure_done l =
      let x = sound s h good in
      let w = rw (ahead_none s h i (omega arith)) at g.whole in
      (omega (arith, w, file_end_length), omega (arith, g.most))

-- ---- the loop of `write_elements`

-- the elements from i on, written from here on, give the whole file
pub record Writing (s : List ℕ) (h : Header) (file₀ file : List ℕ) (i at : ℕ) : Type 0 where
  pub kept : length file ≡ length file₀
  pub room : at + length (file_of (ahead s h i)) ≤ length file₀
  pub whole : over file at (file_of (ahead s h i)) ≡ over file₀ 0 (file_of (elements_from s h h.recorded 0))

pub write_start : (s : List ℕ) (h : Header) (file : List ℕ) → length (file_of (elements_from s h h.recorded 0)) ≤ length file → Writing s h file file 0 0
write_start s h file l =
    let y = all_ahead s h in
    record { kept = refl; room = rw y (omega arith); whole = rw y refl }

module _ (s : List ℕ) (h : Header) (file₀ file : List ℕ) (i at : ℕ) (g : Writing s h file₀ file i at) where
  module _ (l : i < h.recorded) where
    pub write-room : at + length (bytes_of (element_at s h i)) ≤ length file
    write-room =
        let r = rw (ahead_first s h i l) at g.room in
        omega (arith, r, g.kept, file_length (element_at s h i) (ahead s h (i + 1)))

    pub write-next : (next : ℕ) (file' : List ℕ) → next ≡ at + length (bytes_of (element_at s h i)) → file' ≡ over file at (bytes_of (element_at s h i))
        → Writing s h file₀ file' (i + 1) next
    write-next next file' q e =
        let r = rw (ahead_first s h i l) at g.room in
        let w = rw (ahead_first s h i l) at g.whole in
        let k = over_length file (bytes_of (element_at s h i)) at write-room in
        record {
          kept = rw e k ∙ g.kept;
          room = omega (arith, r, file_length (element_at s h i) (ahead s h (i + 1)));
          whole = rw (e, q) (file_more file at (element_at s h i) (ahead s h (i + 1)) write-room ∙ w);
        }

  module _ (l : h.recorded ≤ i) where
    pub end-room : at + 4 ≤ length file
    end-room = let r = rw (ahead_none s h i l) at g.room in omega (arith, r, g.kept, file_end_length)

    pub write_done : (file' : List ℕ) → file' ≡ over file at (word_bytes end_mark)
        → file' ≡ over file₀ 0 (file_of (elements_from s h h.recorded 0))
    write_done file' e = let w = rw (ahead_none s h i l) at g.whole in e ∙ rw file_end at w

pub ruleset write_ways = (write_start, write-room, end-room)

-- ---- the ways of `export`

module _ (s file : List ℕ) where
  pub export_broken : header_of s ≡ None → exported (answer_of (Err BrokenImage)) file ≡ exports s file
  unfolding exports
  export_broken e = rw (broken_of s e) refl

  module _ (h : Header) (good : header_of s ≡ Some h) (needed : ℕ) (measured : needed ≡ length (file_of (elements_from s h h.recorded 0))) where
    pub export-short : length file < needed → exported (answer_of (Err ShortBuffer)) file ≡ exports s file
    unfolding exports elements_of
    export-short l = rw (keeps_of s h good, fields_are s h good, ← measured, lt-ltb (length file) needed l) refl

    pub export-well : (file' : List ℕ) (t : Told) → needed ≤ length file → file' ≡ over file 0 (file_of (elements_from s h h.recorded 0))
        → t ≡ told 0 h.recorded needed → exported (answer_of (Ok t)) file' ≡ exports s file
    unfolding exports elements_of
    export-well file' t l e f = rw (keeps_of s h good, fields_are s h good, e, f, ← measured, le-ltb (length file) needed l) refl
