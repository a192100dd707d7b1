-- The filemarks among elements: how many, where, and in parts.
-- Assumes nothing.
use Rattle.std.specs.Prelude.{if◌then◌else◌}
use mathlib.Core.Path.{◌≡◌, refl, ap, ◌∙◌}
use mathlib.Core.Bool.{Bool, true, false}
use mathlib.Core.List.{List, [], ◌∷◌, ◌++◌}
use Prim.Native.Nat.{ℕ, zero, suc, ◌+◌, ◌-◌, ◌<◌, ◌≤◌}
use native.Mathlib.Omega.{arith}
use lib.ListN.{length, get_or}
use Rattle.image.specs.Elements.{is_filemark, kind_at}
use Rattle.index.specs.Entries.{marks_from}

-- place p is among them or not
abbrev pub with_place : Bool → ℕ → List ℕ → List ℕ
with_place b p ps = if b then p ∷ ps else ps

place_append : (b : Bool) (p : ℕ) (ps qs : List ℕ) → with_place b p (ps ++ qs) ≡ with_place b p ps ++ qs
place_append true p ps qs = refl
place_append false p ps qs = refl

pub place_few : (b : Bool) (p n : ℕ) (ps : List ℕ) → length ps ≤ n → length (with_place b p ps) ≤ suc n
place_few true p n ps l = omega arith
place_few false p n ps l = omega arith

-- each of them is a place from p on and before p + n
abbrev pub Within : ℕ → ℕ → List ℕ → Type 0
Within p n ps = (j : ℕ) → j < length ps → (p ≤ get_or ps j 0) × (get_or ps j 0 < p + n)

place_within : (b : Bool) (p n : ℕ) (ps : List ℕ) → Within (p + 1) n ps → Within p (suc n) (with_place b p ps)
place_within true p n ps w zero l = (omega arith, omega arith)
place_within true p n ps w (suc j) l = let x = w j (omega arith) in (omega arith, omega arith)
place_within false p n ps w j l = let x = w j l in (omega arith, omega arith)

module _ (s : List ℕ) (kinds : ℕ) where
  pub marks_none : (p : ℕ) → marks_from s kinds 0 p ≡ []
  unfolding marks_from
  marks_none p = refl

  pub marks_first : (n p : ℕ) → marks_from s kinds (suc n) p ≡ with_place (is_filemark (kind_at s kinds p)) p (marks_from s kinds n (p + 1))
  unfolding marks_from
  marks_first n p = refl

  -- those of two stretches are those of the first, then those of the second
  pub marks_split : (a b p : ℕ) → marks_from s kinds (a + b) p ≡ marks_from s kinds a p ++ marks_from s kinds b (p + a)
  marks_split zero b p =
      let x : 0 + b ≡ b = omega arith in
      let y : p + 0 ≡ p = omega arith in
      rw (x, y, marks_none) refl
  marks_split (suc a) b p =
      let x : suc a + b ≡ suc (a + b) = omega arith in
      let y : p + suc a ≡ p + 1 + a = omega arith in
      rw (x, y, marks_first, marks_first, marks_split a b (p + 1))
      (place_append (is_filemark (kind_at s kinds p)) p (marks_from s kinds a (p + 1)) (marks_from s kinds b (p + 1 + a)))

  -- those below an end, parted at place p
  pub marks_parted : (u p : ℕ) → p ≤ u → marks_from s kinds u 0 ≡ marks_from s kinds p 0 ++ marks_from s kinds (u - p) p
  marks_parted u p l =
      let x : u ≡ p + (u - p) = omega arith in
      let y : 0 + p ≡ p = omega arith in
      ap (λ (n : ℕ). marks_from s kinds n 0) x ∙ marks_split p (u - p) 0
      ∙ ap (λ (n : ℕ). marks_from s kinds p 0 ++ marks_from s kinds (u - p) n) y

  pub marks_few : (n p : ℕ) → length (marks_from s kinds n p) ≤ n
  marks_few zero p = rw marks_none (omega arith)
  marks_few (suc n) p = rw marks_first (place_few (is_filemark (kind_at s kinds p)) p n (marks_from s kinds n (p + 1)) (marks_few n (p + 1)))

  pub marks_within : (n p : ℕ) → Within p n (marks_from s kinds n p)
  marks_within zero p = rw marks_none (λ j l. absurd (omega arith))
  marks_within (suc n) p = rw marks_first (place_within (is_filemark (kind_at s kinds p)) p n (marks_from s kinds n (p + 1)) (marks_within n (p + 1)))

-- elements of the same kinds have the same filemarks
pub marks_same : (s t : List ℕ) (kinds n p : ℕ) → ((i : ℕ) → p ≤ i → i < p + n → kind_at t kinds i ≡ kind_at s kinds i)
    → marks_from t kinds n p ≡ marks_from s kinds n p
marks_same s t kinds zero p f = rw (marks_none, marks_none) refl
marks_same s t kinds (suc n) p f =
    rw (marks_first, marks_first, f p (omega arith) (omega arith), marks_same s t kinds n (p + 1) (λ i a b. f i (omega arith) (omega arith))) refl
