-- A list of rules: the test passes exactly when each rule holds.
-- Assumes nothing.
use mathlib.Core.Path.{◌≡◌, refl}
use mathlib.Core.Bool.{Bool, true, false, ◌&&◌}
use mathlib.Core.List.{List, [], ◌∷◌}
use borrow.Author.Tests.{le-leb, leb-true, eq-eqb, eqb-true}
use Rattle.numbers.specs.RuleList.{Rule, ◌≤ʳ◌, ◌≡ʳ◌, ◌∈ʳ◌, holds, all_hold, Holds, Each}

pub split : (a b : Bool) → (a && b) ≡ true → (a ≡ true) × (b ≡ true)
split true b e = (refl, e)
split false b e = (e, (cc))

holds_of : (r : Rule) → holds r ≡ true → Holds r
holds_of (m ≤ʳ n) e = leb-true m n e
holds_of (m ≡ʳ n) e = eqb-true m n e
holds_of (m ∈ʳ ns) e = e

of_holds : (r : Rule) → Holds r → holds r ≡ true
of_holds (m ≤ʳ n) h = le-leb m n h
of_holds (m ≡ʳ n) h = eq-eqb m n h
of_holds (m ∈ʳ ns) h = h

-- the test passed: each rule holds
pub each_of : (rs : List Rule) → all_hold rs ≡ true → Each rs
unfolding all_hold
each_of [] e = tt
each_of (r ∷ rs) e = let p = split (holds r) (all_hold rs) e in (holds_of r p.0, each_of rs p.1)

pub pass : (rs : List Rule) → Each rs → all_hold rs ≡ true
unfolding all_hold
pass [] h = refl
pass (r ∷ rs) h = simp (of_holds r h.0) (pass rs h.1)
