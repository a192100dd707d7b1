-- What a promise has to settle.
-- Assumes nothing.
use Rattle.std.specs.Prelude.{◌≡◌}

-- 01: "Prove that any two outcomes allowed by it coincide"
abbrev pub Settles : {A : Type 0} → (A → Type 0) → Type 0
Settles {A} Allowed = (x y : A) → Allowed x → Allowed y → x ≡ y
