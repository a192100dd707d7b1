-- Rulesets for `search`: a result that a definition gives by a choice, and tests joined by and, or, not.
-- Assumes nothing.
use mathlib.Core.Bool.{Bool, true, false, not, cond, ◌&&◌, ◌||◌}
use borrow.Author.Tests.{lt-ltb, le-ltb, le-leb, lt-leb, eq-eqb, ne_eqb}
use mathlib.Core.Path.{◌≡◌, sym, ◌∙◌}

pub if_true : {A : Type 0} (b : Bool) (x y r : A) → b ≡ true → r ≡ x → r ≡ cond b x y
if_true b x y r e q = rw e q

pub if_false : {A : Type 0} (b : Bool) (x y r : A) → b ≡ false → r ≡ y → r ≡ cond b x y
if_false b x y r e q = rw e q

pub by_test : (t b v : Bool) → t ≡ b → t ≡ v → b ≡ v
by_test t b v p q = sym p ∙ q

pub and_path : (a b x y : Bool) → a ≡ x → b ≡ y → (a && b) ≡ (x && y)
and_path a b x y p q = rw (p, q)

pub or_path : (a b x y : Bool) → a ≡ x → b ≡ y → (a || b) ≡ (x || y)
or_path a b x y p q = rw (p, q)

pub not_path : (a x : Bool) → a ≡ x → not a ≡ not x
not_path a x p = rw p

pub ruleset bools = (and_path, or_path, not_path)

pub ruleset branches = (if_true, if_false, by_test)

pub ruleset tests = (branches, lt-ltb, le-ltb, le-leb, lt-leb, eq-eqb, ne_eqb)
