-- Laws of little-endian words.
-- Assumes nothing.
use mathlib.Core.Path.{◌≡◌, refl, ◌∙◌}
use mathlib.Core.List.{List, [], ◌∷◌, ◌++◌}
use Prim.Native.Nat.{ℕ, ◌+◌, ◌*◌, ◌^◌, ◌<◌, ◌≤◌}
use native.Mathlib.Omega.{arith}
use lib.ListN.{length, get_or, set}
use lib.Seq.{get_or-append-add}
use Rattle.numbers.specs.Over.{over}
use Rattle.numbers.specs.Words.{word_at, word_bytes}
use Rattle.numbers.proofs.OverLaws.{over_length, set_over, over_more}

pub word_length : (w : ℕ) → length (word_bytes w) ≡ 4
unfolding word_bytes
word_length w = refl

-- the bytes of a word spell it, whatever follows them
pub word_read_back : (w : ℕ) (rest : List ℕ) → w < 2 ^ 32 → word_at (word_bytes w ++ rest) 0 ≡ w
unfolding word_at word_bytes
word_read_back w rest b = omega arith

-- what stands before a word does not change it
pub word_after : (xs ys : List ℕ) (p : ℕ) → word_at (xs ++ ys) (length xs + p) ≡ word_at ys p
unfolding word_at
word_after xs ys p =
    let at : (k : ℕ) → get_or (xs ++ ys) (length xs + p + k) 0 ≡ get_or ys (p + k) 0
    = λ k. let n : length xs + p + k ≡ length xs + (p + k) = omega arith in rw n (get_or-append-add xs ys (p + k) 0) in
    omega (arith, get_or-append-add xs ys p 0, at 1, at 2, at 3)

-- the code's sum and stores are the definition's
pub word_so : (s : List ℕ) (at low high : ℕ) → low ≡ get_or s (at + 1) 0 * 256 + get_or s at 0 → high ≡ get_or s (at + 3) 0 * 256 + get_or s (at + 2) 0
    → high * 65536 + low ≡ word_at s at
unfolding word_at
word_so s at low high e f = omega arith

pub stored_so : (s : List ℕ) (at a b c d : ℕ) → at + 4 ≤ length s
    → set (set (set (set s at a) (at + 1) b) (at + 2) c) (at + 3) d ≡ over s at (a ∷ b ∷ c ∷ d ∷ [])
stored_so s at a b c d l =
    let one = over s at (a ∷ []) in
    let two = over s at (a ∷ b ∷ []) in
    let three = over s at (a ∷ b ∷ c ∷ []) in
    let l1 = over_length s (a ∷ []) at (omega arith) in
    let l2 = over_length s (a ∷ b ∷ []) at (omega arith) in
    let l3 = over_length s (a ∷ b ∷ c ∷ []) at (omega arith) in
    let e2 = set_over one (at + 1) b (omega (arith, l1)) ∙ over_more s (a ∷ []) (b ∷ []) at (omega arith) in
    let e3 = set_over two (at + 2) c (omega (arith, l2)) ∙ over_more s (a ∷ b ∷ []) (c ∷ []) at (omega arith) in
    let e4 = set_over three (at + 3) d (omega (arith, l3)) ∙ over_more s (a ∷ b ∷ c ∷ []) (d ∷ []) at (omega arith) in
    rw (set_over s at a (omega arith), e2, e3, e4) refl
