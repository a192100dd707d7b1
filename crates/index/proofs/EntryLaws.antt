-- Entries and their bytes.
-- Assumes nothing.
use mathlib.Core.Path.{◌≡◌, refl, sym, ap, ◌∙◌}
use mathlib.Core.List.{List, [], ◌∷◌, ◌++◌, append_assoc}
use Prim.Native.Nat.{ℕ, zero, suc, ◌+◌, ◌*◌, ◌^◌, ◌<◌, ◌≤◌}
use native.Mathlib.Omega.{arith}
use lib.ListN.{length, get_or, drop, length-append}
use lib.Seq.{drop-append-add}
use Rattle.numbers.specs.Counts.{count_at, count_bytes}
use Rattle.numbers.proofs.CountLaws.{bytes_length, bytes_read_back, count_after}
use Rattle.index.specs.Entries.{entry_bytes}

pub entries_length : (es : List ℕ) → length (entry_bytes es) ≡ 4 * length es
entries_length [] = refl
entries_length (e ∷ es) = rw length-append (omega (arith, bytes_length 4 e, entries_length es))

pub entries_append : (es fs : List ℕ) → entry_bytes (es ++ fs) ≡ entry_bytes es ++ entry_bytes fs
entries_append [] fs = refl
entries_append (e ∷ es) fs = rw (entries_append es fs) (sym (append_assoc (count_bytes 4 e) (entry_bytes es) (entry_bytes fs)))

-- the bytes from entry m on
pub entries_drop : (m : ℕ) (es rest : List ℕ) → m ≤ length es → drop (4 * m) (entry_bytes es ++ rest) ≡ entry_bytes (drop m es) ++ rest
entries_drop zero es rest l = refl
entries_drop (suc m) [] rest l = absurd (omega arith)
entries_drop (suc m) (e ∷ es) rest l =
    let n : 4 * suc m ≡ length (count_bytes 4 e) + 4 * m = omega (arith, bytes_length 4 e) in
    ap (λ (i : ℕ). drop i (entry_bytes (e ∷ es) ++ rest)) n ∙ drop-append-add (count_bytes 4 e) (entry_bytes es ++ rest) (4 * m)
    ∙ entries_drop m es rest (omega arith)

-- an entry is read from its four bytes
pub entry_read : (es rest : List ℕ) (j : ℕ) → ((i : ℕ) → i < length es → get_or es i 0 < 2 ^ 32) → j < length es
    → count_at (entry_bytes es ++ rest) (4 * j) 4 ≡ get_or es j 0
entry_read [] rest j b l = absurd (omega arith)
entry_read (e ∷ es) rest zero b l = bytes_read_back 4 e (entry_bytes es ++ rest) (b 0 (omega arith))
entry_read (e ∷ es) rest (suc j) b l =
    let n : 4 * suc j ≡ length (count_bytes 4 e) + 4 * j = omega (arith, bytes_length 4 e) in
    ap (λ (i : ℕ). count_at (entry_bytes (e ∷ es) ++ rest) i 4) n ∙ count_after (count_bytes 4 e) (entry_bytes es ++ rest) (4 * j) 4
    ∙ entry_read es rest j (λ i a. b (suc i) (omega arith)) (omega arith)
