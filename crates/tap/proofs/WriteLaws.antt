-- Elements written: how long they are, and that three stores, a word, the block and the word again, are a record's bytes.
-- Assumes nothing.
use mathlib.Core.Path.{◌≡◌, refl, ap, ◌∙◌}
use mathlib.Core.Bool.{Bool}
use mathlib.Core.List.{List, [], ◌∷◌, ◌++◌, append_assoc}
use Prim.Native.Nat.{ℕ, ◌+◌, ◌-◌, ◌%◌, ◌≤◌}
use native.Mathlib.Omega.{arith}
use lib.ListN.{length, length-append, length-replicate}
use borrow.Rule.Slice.PartMut.{mid_of, put_mid}
use Rattle.std.proofs.lemmas.Grind.{common_steps}
use Rattle.numbers.specs.Flags.{weight_of}
use Rattle.numbers.specs.Over.{over}
use Rattle.numbers.specs.Words.{word_bytes}
use Rattle.numbers.proofs.OverLaws.{over_more}
use Rattle.numbers.proofs.WordLaws.{word_length}
use Rattle.tap.specs.Items.{tape_mark, end_mark, high_bit, padded}
use Rattle.tap.specs.Files.{Element, TapeMark, Block, record_bytes, bytes_of, file_of}

pub mark_length : length (bytes_of TapeMark) ≡ 4
unfolding bytes_of
mark_length = word_length tape_mark

pub record_length : (unreadable : Bool) (bytes : List ℕ) → length (bytes_of (Block unreadable bytes)) ≡ padded (length bytes) + 8
unfolding bytes_of record_bytes
record_length unreadable bytes = simp (length-append, word_length (length bytes + weight_of unreadable high_bit), length-replicate) (omega arith)

-- ---- a file

pub file_end : file_of [] ≡ word_bytes end_mark
unfolding file_of
file_end = refl

pub file_end_length : length (file_of []) ≡ 4
unfolding file_of
file_end_length = word_length end_mark

pub file_length : (e : Element) (es : List Element) → length (file_of (e ∷ es)) ≡ length (bytes_of e) + length (file_of es)
unfolding file_of
file_length e es = length-append (bytes_of e) (file_of es)

-- an element laid, and then the rest after it
pub file_more : (file : List ℕ) (at : ℕ) (e : Element) (es : List Element) → at + length (bytes_of e) ≤ length file
    → over (over file at (bytes_of e)) (at + length (bytes_of e)) (file_of es) ≡ over file at (file_of (e ∷ es))
unfolding file_of
file_more file at e es l = over_more file (bytes_of e) (file_of es) at l

-- ---- a record's three stores

-- an even record has no pad byte
even_record : (w : ℕ) (bytes : List ℕ) → length bytes % 2 ≡ 0 → record_bytes w bytes ≡ word_bytes w ++ (bytes ++ word_bytes w)
unfolding record_bytes
even_record w bytes even = rw even refl

-- three parts laid one after the other
three_laid : (s a b c : List ℕ) (at : ℕ) → at + length a + length b ≤ length s
    → over (over (over s at a) (at + length a) b) (at + length a + length b) c ≡ over s at (a ++ (b ++ c))
three_laid s a b c at l =
    let n : at + length a + length b ≡ at + length (a ++ b) = rw length-append (omega arith) in
    ap (λ (t : List ℕ). over t (at + length a + length b) c) (over_more s a b at (omega arith))
    ∙ ap (λ (i : ℕ). over (over s at (a ++ b)) i c) n
    ∙ over_more s (a ++ b) c at (omega (arith, n))
    ∙ ap (over s at) (append_assoc a b c)

-- a block laid over the rest of a file that was lent
block_laid : (at : ℕ) (file block ys : List ℕ) → ys ≡ over (mid_of at (length file - at) file) 0 block
    → put_mid at (length file - at) file ys ≡ over file at block
block_laid at file block ys e = grind (arith, common_steps)

pub record_put : (file block : List ℕ) (at w : ℕ) (unreadable : Bool) (file' ys file'' : List ℕ) → length block % 2 ≡ 0
    → at + length block + 8 ≤ length file → w ≡ length block + weight_of unreadable high_bit → file' ≡ over file at (word_bytes w)
    → ys ≡ over (mid_of (at + 4) (length file' - (at + 4)) file') 0 block
    → file'' ≡ over (put_mid (at + 4) (length file' - (at + 4)) file' ys) (at + 4 + length block) (word_bytes w)
    → file'' ≡ over file at (bytes_of (Block unreadable block))
unfolding bytes_of
record_put file block at w unreadable file' ys file'' even room q e f g =
    let k = word_length w in
    let d = even_record (length block + weight_of unreadable high_bit) block even in
    let n : at + length (word_bytes w) ≡ at + 4 = omega arith in
    let m : at + length (word_bytes w) + length block ≡ at + 4 + length block = omega arith in
    let z = three_laid file (word_bytes w) block (word_bytes w) at (omega arith) in
    rw (d, ← q, g, block_laid (at + 4) file' block ys f, e) (rw (m, n) at z)
