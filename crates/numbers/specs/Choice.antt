-- The library's tests of numbers written between their numbers.
-- Assumes nothing.
use Rattle.std.specs.Prelude.{Bool, ℕ, leb, ltb, eqb}

infix 50 ◌≡ᵇ◌
abbrev pub ◌≡ᵇ◌ : ℕ → ℕ → Bool
m ≡ᵇ n = eqb m n

infix 50 ◌<ᵇ◌
abbrev pub ◌<ᵇ◌ : ℕ → ℕ → Bool
m <ᵇ n = ltb m n

infix 50 ◌≤ᵇ◌
abbrev pub ◌≤ᵇ◌ : ℕ → ℕ → Bool
m ≤ᵇ n = leb m n
