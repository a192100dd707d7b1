-- Laws of bytes laid over a part of a list.
-- Assumes nothing.
use mathlib.Core.Path.{◌≡◌, refl, sym, ap, ◌∙◌}
use mathlib.Core.List.{List, [], ◌∷◌, ◌++◌, append-nil, append_assoc}
use Prim.Native.Nat.{ℕ, zero, suc, ◌+◌, ◌-◌, ◌<◌, ◌≤◌}
use native.Mathlib.Nat.{add-sub_cancel_left, le_refl, not-suc-le-zero, le_of_suc-le-suc}
use native.Mathlib.Numerals.{add-one}
use native.Mathlib.Omega.{arith}
use lib.ListN.{length, take, drop, set, get_or, length-append, length-drop, drop_of_length-le, take-append-drop, get_or-append}
use lib.Seq.{take_all, take-length, length-take-le, get_or-take, get_or-drop, get_or-append-add, ext_get_or}
use lib.Seq.{set_split, drop-drop, take_at, drop_at, take-append_seam, drop-append_seam}
use borrow.Rule.Slice.PartMut.{mid_of, put_mid}
use Rattle.numbers.specs.Over.{over, part}

-- ---- a part

pub part_length : (s : List ℕ) (a n : ℕ) → a + n ≤ length s → length (part s a n) ≡ n
part_length s a n h = length-take-le n (drop a s) (rw length-drop (omega arith))

pub part_at : (s : List ℕ) (a n i : ℕ) → i < n → get_or (part s a n) i 0 ≡ get_or s (a + i) 0
part_at s a n i h = get_or-take n (drop a s) i 0 h ∙ get_or-drop a s i 0

-- its first byte and the rest
pub part_first : (s : List ℕ) (a n : ℕ) → a < length s → part s a (suc n) ≡ get_or s a 0 ∷ part s (a + 1) n
part_first [] a n l = absurd (omega arith)
part_first (x ∷ xs) zero n l = refl
part_first (x ∷ xs) (suc a) n l = let y : suc a + 1 ≡ suc (a + 1) = omega arith in rw y (part_first xs a n (omega arith))

-- two lists that agree on a part have the same part
pub part_same : (s t : List ℕ) (a n : ℕ) → a + n ≤ length s → length s ≡ length t
    → ((i : ℕ) → i < n → get_or s (a + i) 0 ≡ get_or t (a + i) 0) → part s a n ≡ part t a n
part_same s t a n h q f =
    let ls = part_length s a n h in
    let lt = part_length t a n (omega arith) in
    ext_get_or 0 (part s a n) (part t a n) (omega arith) (λ i l.
    let m : i < n = omega arith in
    part_at s a n i m ∙ f i m ∙ sym (part_at t a n i m))

-- ---- bytes laid over

pub over_length : (s xs : List ℕ) (a : ℕ) → a + length xs ≤ length s → length (over s a xs) ≡ length s
over_length s xs a h =
    let t = length-take-le a s (omega arith) in
    simp (length-append, length-drop) (omega arith)

pub over_below : (s xs : List ℕ) (a i : ℕ) → a ≤ length s → i < a → get_or (over s a xs) i 0 ≡ get_or s i 0
over_below s xs a i h l = get_or-append (take a s) _ 0 i (rw (length-take-le a s h) l) ∙ get_or-take a s i 0 l

-- from place a on, counted from there
over_from : (s xs : List ℕ) (a j : ℕ) → a ≤ length s → get_or (over s a xs) (a + j) 0 ≡ get_or (xs ++ drop (length xs) (drop a s)) j 0
over_from s xs a j h =
    ap (λ (n : ℕ). get_or (over s a xs) (n + j) 0) (sym (length-take-le a s h)) ∙ get_or-append-add (take a s) (xs ++ drop (length xs) (drop a s)) j 0

pub over_above : (s xs : List ℕ) (a i : ℕ) → a ≤ length s → a + length xs ≤ i → get_or (over s a xs) i 0 ≡ get_or s i 0
over_above s xs a i h l =
    let j = i - (a + length xs) in
    let e : i ≡ a + (length xs + j) = omega arith in
    let f : a + (length xs + j) ≡ i = omega arith in
    ap (λ (n : ℕ). get_or (over s a xs) n 0) e ∙ over_from s xs a (length xs + j) h ∙ get_or-append-add xs _ j 0
    ∙ get_or-drop (length xs) (drop a s) j 0 ∙ get_or-drop a s (length xs + j) 0 ∙ ap (λ (n : ℕ). get_or s n 0) f

pub over_in : (s xs : List ℕ) (a j : ℕ) → a ≤ length s → j < length xs → get_or (over s a xs) (a + j) 0 ≡ get_or xs j 0
over_in s xs a j h l = over_from s xs a j h ∙ get_or-append xs _ 0 j l

-- what was laid over is read back
pub over_part : (s xs : List ℕ) (a : ℕ) → a + length xs ≤ length s → part (over s a xs) a (length xs) ≡ xs
over_part s xs a h =
    let l = over_length s xs a h in
    let p = part_length (over s a xs) a (length xs) (omega arith) in
    ext_get_or 0 (part (over s a xs) a (length xs)) xs p (λ i k.
    let m : i < length xs = omega arith in
    part_at (over s a xs) a (length xs) i m ∙ over_in s xs a i (omega arith) m)

-- none laid over changes nothing
pub over_none : (s : List ℕ) (a : ℕ) → over s a [] ≡ s
over_none s a = take-append-drop a s

-- a byte stored is one laid over
pub set_over : (s : List ℕ) (i x : ℕ) → i < length s → set s i x ≡ over s i (x ∷ [])
set_over s i x h = rw (set_split s i x h, drop-drop, add-one) refl

-- what is laid over right after the first part is laid over with it
pub over_more : (s xs ys : List ℕ) (a : ℕ) → a + length xs ≤ length s → over (over s a xs) (a + length xs) ys ≡ over s a (xs ++ ys)
over_more s xs ys a h =
    let rest = drop (length xs) (drop a s) in
    let front = take a s ++ xs in
    let n : length front ≡ a + length xs = rw length-append (omega (arith, length-take-le a s (omega arith))) in
    let k = a + length xs in
    rw (← append_assoc (take a s) xs rest, take_at front rest k n, drop_at front rest k n, length-append, ← drop-drop (length ys) (length xs) (drop a s))
    (append_assoc (take a s) xs (ys ++ drop (length ys) rest) ∙ ap (λ (l : List ℕ). take a s ++ l) (sym (append_assoc xs ys (drop (length ys) rest))))

-- laid over what follows a front
pub over_after : (front s xs : List ℕ) → over (front ++ s) (length front) xs ≡ front ++ over s 0 xs
over_after front s xs = rw (take-append_seam, drop-append_seam) refl

-- ---- a copier's loop

copied_more : (src d : List ℕ) (i : ℕ) → i < length src → i < length d → set (take i src ++ drop i d) i (get_or src i 0) ≡ take (suc i) src ++ drop (suc i) d
copied_more [] d i h k = absurd (not-suc-le-zero h)
copied_more (x ∷ xs) [] i h k = absurd (not-suc-le-zero k)
copied_more (x ∷ xs) (y ∷ ys) zero h k = refl
copied_more (x ∷ xs) (y ∷ ys) (suc i) h k = ap (λ (l : List ℕ). x ∷ l) (copied_more xs ys i (le_of_suc-le-suc h) (le_of_suc-le-suc k))

module _ (src d dst : List ℕ) (i : ℕ) (so_far : dst ≡ take i src ++ drop i d) where
  pub copied_next : i < length src → i < length d → set dst i (get_or src i 0) ≡ take (i + 1) src ++ drop (i + 1) d
  copied_next h k = rw (so_far, add-one) (copied_more src d i h k)

  pub copied_all : i ≡ length src → dst ≡ over d 0 src
  copied_all q = rw (so_far, q, take-length)

-- ---- a part that was lent, `&mut s[a..]` or `&s[a..a + n]`, as its borrower saw it and as it came back

pub lent_rest : (a : ℕ) (s : List ℕ) → mid_of a (length s - a) s ≡ drop a s
lent_rest a s = take_all (length s - a) (drop a s) (rw length-drop (le_refl _))

pub lent_part : (a n : ℕ) (s : List ℕ) → mid_of a (a + n - a) s ≡ part s a n
lent_part a n s = rw add-sub_cancel_left

rest_back : (a : ℕ) (s ys : List ℕ) → put_mid a (length s - a) s ys ≡ take a s ++ ys
rest_back a s ys = rw (drop_of_length-le (drop a s) {i = length s - a} (rw length-drop (le_refl _)), append-nil)

-- a copier that was lent the rest of s from place off on, and the n bytes of t from place a on, has laid these over it
pub copied_over : (off a n : ℕ) (s t ys : List ℕ)
    → ys ≡ over (mid_of off (length s - off) s) 0 (mid_of a (a + n - a) t)
    → put_mid off (length s - off) s ys ≡ over s off (part t a n)
copied_over off a n s t ys e = rw (rest_back, e, lent_rest, lent_part)

pub copy_fits : (off a n : ℕ) (s t : List ℕ) → a + n ≤ length t → off + n ≤ length s
    → length (mid_of a (a + n - a) t) ≤ length (mid_of off (length s - off) s)
copy_fits off a n s t h k = rw (lent_rest, lent_part, part_length t a n h, length-drop) (omega arith)
