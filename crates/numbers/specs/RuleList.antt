-- A list of rules on numbers, as one test that computes and as one product of plain facts.
-- Assumes nothing.
use Rattle.std.specs.Prelude.{◌≡◌, Bool, true, ◌&&◌, List, [], ◌∷◌, ℕ, ◌≤◌, leb, eqb}
use Rattle.numbers.specs.Member.{is_in}

-- a rule: a number is at most another, is equal to it, or stands in a table
infix 50 ◌≤ʳ◌
infix 50 ◌≡ʳ◌
infix 50 ◌∈ʳ◌
pub data Rule : Type 0 where
  ◌≤ʳ◌ : ℕ → ℕ → Rule
  ◌≡ʳ◌ : ℕ → ℕ → Rule
  ◌∈ʳ◌ : ℕ → List ℕ → Rule

abbrev pub holds : Rule → Bool
holds (m ≤ʳ n) = leb m n
holds (m ≡ʳ n) = eqb m n
holds (m ∈ʳ ns) = is_in m ns

-- every rule of the list holds
unfoldable pub all_hold : List Rule → Bool
all_hold [] = true
all_hold (r ∷ rs) = holds r && all_hold rs

abbrev pub Holds : Rule → Type 0
Holds (m ≤ʳ n) = m ≤ n
Holds (m ≡ʳ n) = m ≡ n
Holds (m ∈ʳ ns) = is_in m ns ≡ true

-- the same as a product of the rules' facts
abbrev pub Each : List Rule → Type 0
Each [] = Unit {0}
Each (r ∷ rs) = Holds r × Each rs
