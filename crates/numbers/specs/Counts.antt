-- 01: "Numbers in packets and answers are big-endian." Over any width, so that a fact of 2, 3 and 4 bytes is stated once.
-- Assumes nothing.
use Rattle.std.specs.Prelude.{ℕ, zero, suc, ◌+◌, ◌*◌, ◌/◌, ◌%◌, List, [], ◌∷◌, ◌++◌, get_or, set}

-- the number that the k bytes of s from place p on spell, the first the highest
abbrev pub count_at : List ℕ → ℕ → ℕ → ℕ
count_at s p zero = 0
count_at s p (suc zero) = get_or s p 0
count_at s p (suc (suc k)) = count_at s p (suc k) * 256 + get_or s (p + suc k) 0

-- s with the low k bytes of v at place p, the highest first
abbrev pub put_count : List ℕ → ℕ → ℕ → ℕ → List ℕ
put_count s p zero v = s
put_count s p (suc zero) v = set s p (v % 256)
put_count s p (suc (suc k)) v = set (put_count s p (suc k) (v / 256)) (p + suc k) (v % 256)

-- the low k bytes of v, the highest first
abbrev pub count_bytes : ℕ → ℕ → List ℕ
count_bytes zero v = []
count_bytes (suc k) v = count_bytes k (v / 256) ++ ((v % 256) ∷ [])
