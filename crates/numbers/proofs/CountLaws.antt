-- Laws of big-endian counts, each over the width.
-- Assumes nothing.
use mathlib.Core.Path.{◌≡◌, refl, sym, ap, ◌∙◌}
use mathlib.Core.List.{List, [], ◌∷◌, ◌++◌, append_assoc}
use Prim.Native.Nat.{ℕ, zero, suc, ◌+◌, ◌*◌, ◌/◌, ◌%◌, ◌^◌, ◌<◌, ◌≤◌}
use native.Mathlib.Omega.{arith}
use lib.ListN.{length, get_or, set, drop, length-set, length-append, length-drop}
use lib.Seq.{get_or-set_same, get_or-set_other, get_or-append_seam, get_or-append-add, get_or-drop, take-suc}
use Rattle.numbers.specs.Counts.{count_at, put_count, count_bytes}
use Rattle.numbers.specs.Over.{over, part}
use Rattle.numbers.proofs.OverLaws.{part_first, over_length, over_none, set_over, over_more}

-- k bytes spell a number below 256 ^ k
pub count_bound : (s : List ℕ) (p k : ℕ) → ((i : ℕ) → get_or s i 0 < 256) → count_at s p k < 256 ^ k
count_bound s p zero h = omega arith
count_bound s p (suc zero) h = omega (arith, h p)
count_bound s p (suc (suc k)) h = omega (arith, h (p + suc k), count_bound s p (suc k) h)

-- the number goes by its bytes alone
pub count_by_bytes : (s t : List ℕ) (p k : ℕ) → ((i : ℕ) → p ≤ i → i < p + k → get_or s i 0 ≡ get_or t i 0) → count_at s p k ≡ count_at t p k
count_by_bytes s t p zero h = refl
count_by_bytes s t p (suc zero) h = h p (omega arith) (omega arith)
count_by_bytes s t p (suc (suc k)) h =
    omega (arith, h (p + suc k) (omega arith) (omega arith), count_by_bytes s t p (suc k) (λ i a b. h i a (omega arith)))

pub length_put_count : (s : List ℕ) (p k v : ℕ) → length (put_count s p k v) ≡ length s
length_put_count s p zero v = refl
length_put_count s p (suc zero) v = length-set s p (v % 256)
length_put_count s p (suc (suc k)) v = simp length-set (length_put_count s p (suc k) (v / 256))

-- the bytes outside stay
pub put_count_below : (s : List ℕ) (p k v i : ℕ) → i < p → get_or (put_count s p k v) i 0 ≡ get_or s i 0
put_count_below s p zero v i h = refl
put_count_below s p (suc zero) v i h = get_or-set_other s p i _ 0 (λ e. omega arith)
put_count_below s p (suc (suc k)) v i h =
    get_or-set_other (put_count s p (suc k) (v / 256)) (p + suc k) i (v % 256) 0 (λ e. omega arith) ∙ put_count_below s p (suc k) (v / 256) i h

pub put_count_above : (s : List ℕ) (p k v i : ℕ) → p + k ≤ i → get_or (put_count s p k v) i 0 ≡ get_or s i 0
put_count_above s p zero v i h = refl
put_count_above s p (suc zero) v i h = get_or-set_other s p i _ 0 (λ e. omega arith)
put_count_above s p (suc (suc k)) v i h =
    get_or-set_other (put_count s p (suc k) (v / 256)) (p + suc k) i (v % 256) 0 (λ e. omega arith) ∙ put_count_above s p (suc k) (v / 256) i (omega arith)

-- what was put is read back
pub count_read_back : (s : List ℕ) (p k v : ℕ) → p + k ≤ length s → v < 256 ^ k → count_at (put_count s p k v) p k ≡ v
count_read_back s p zero v h b = omega arith
count_read_back s p (suc zero) v h b = get_or-set_same s p _ 0 (omega arith) ∙ omega arith
count_read_back s p (suc (suc k)) v h b =
    let l = length_put_count s p (suc k) (v / 256) in
    let e = get_or-set_same (put_count s p (suc k) (v / 256)) (p + suc k) (v % 256) 0 (omega arith) in
    let low = put_count s p (suc k) (v / 256) in
    let q = count_by_bytes (put_count s p (suc (suc k)) v) low p (suc k) (λ i a c. get_or-set_other low (p + suc k) i (v % 256) 0 (λ x. omega arith)) in
    let w = count_read_back s p (suc k) (v / 256) (omega arith) (omega arith) in
    omega (arith, e, q, w)

pub bytes_length : (k v : ℕ) → length (count_bytes k v) ≡ k
bytes_length zero v = refl
bytes_length (suc k) v = simp length-append (omega (arith, bytes_length k (v / 256)))

-- the bytes of a number spell it, whatever follows them
pub bytes_read_back : (k v : ℕ) (rest : List ℕ) → v < 256 ^ k → count_at (count_bytes k v ++ rest) 0 k ≡ v
bytes_read_back zero v rest b = omega arith
bytes_read_back (suc zero) v rest b = omega arith
bytes_read_back (suc (suc k)) v rest b =
    let high = count_bytes (suc k) (v / 256) in
    let n : 0 + suc k ≡ length high = omega (arith, bytes_length (suc k) (v / 256)) in
    let last = ((v % 256) ∷ []) ++ rest in
    let e = ap (λ (i : ℕ). get_or (high ++ last) i 0) n ∙ get_or-append_seam high (v % 256) rest 0 in
    let w = bytes_read_back (suc k) (v / 256) last (omega arith) in
    let g : count_at (high ++ last) 0 (suc (suc k)) ≡ v = omega (arith, e, w) in
    ap (λ (s : List ℕ). count_at s 0 (suc (suc k))) (append_assoc high ((v % 256) ∷ []) rest) ∙ g

-- what stands before a number does not change it
pub count_after : (xs ys : List ℕ) (p k : ℕ) → count_at (xs ++ ys) (length xs + p) k ≡ count_at ys p k
count_after xs ys p zero = refl
count_after xs ys p (suc zero) = get_or-append-add xs ys p 0
count_after xs ys p (suc (suc k)) =
    let n : length xs + p + suc k ≡ length xs + (p + suc k) = omega arith in
    let e = ap (λ (i : ℕ). get_or (xs ++ ys) i 0) n ∙ get_or-append-add xs ys (p + suc k) 0 in
    omega (arith, e, count_after xs ys p (suc k))

-- bytes that spell a number are its bytes
pub bytes_of_count : (s : List ℕ) (p k : ℕ) → ((i : ℕ) → get_or s i 0 < 256) → p + k ≤ length s → count_bytes k (count_at s p k) ≡ part s p k
bytes_of_count s p zero h l = refl
bytes_of_count s p (suc zero) h l =
    let b : get_or s p 0 % 256 ≡ get_or s p 0 = omega (arith, h p) in
    rw (b, part_first s p 0 (omega arith)) refl
bytes_of_count s p (suc (suc k)) h l =
    let x = count_at s p (suc k) in
    let y = get_or s (p + suc k) 0 in
    let high : (x * 256 + y) / 256 ≡ x = omega (arith, h (p + suc k)) in
    let low : (x * 256 + y) % 256 ≡ y = omega (arith, h (p + suc k)) in
    let d : suc k < length (drop p s) = rw length-drop (omega arith) in
    rw (high, low, bytes_of_count s p (suc k) h (omega arith), take-suc (drop p s) (suc k) 0 d, get_or-drop) refl

-- a number put is its bytes laid over
pub put_count_over : (s : List ℕ) (p k v : ℕ) → p + k ≤ length s → put_count s p k v ≡ over s p (count_bytes k v)
put_count_over s p zero v l = sym (over_none s p)
put_count_over s p (suc zero) v l = set_over s p (v % 256) (omega arith)
put_count_over s p (suc (suc k)) v l =
    let high = count_bytes (suc k) (v / 256) in
    let n : p + suc k ≡ p + length high = omega (arith, bytes_length (suc k) (v / 256)) in
    let m = over_length s high p (omega (arith, bytes_length (suc k) (v / 256))) in
    ap (λ (t : List ℕ). set t (p + suc k) (v % 256)) (put_count_over s p (suc k) (v / 256) (omega arith))
    ∙ set_over (over s p high) (p + suc k) (v % 256) (omega (arith, m))
    ∙ ap (λ (i : ℕ). over (over s p high) i ((v % 256) ∷ [])) n
    ∙ over_more s high ((v % 256) ∷ []) p (omega (arith, bytes_length (suc k) (v / 256)))
