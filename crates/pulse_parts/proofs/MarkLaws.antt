-- What a command is refused for, by the marks.
-- Assumes nothing.
use Prim.Native.Nat.{ℕ}
use mathlib.Core.Bool.{Bool, true, false, not, ◌&&◌}
use mathlib.Core.Path.{◌≡◌}
use Rattle.std.specs.Prelude.{Some}
use Rattle.pulse_codes.specs.Codes.{needs_cartridge, needs_reference}
use Rattle.pulse_codes.specs.Errors.{cartridge_missing, not_referenced}
use Rattle.pulse_parts.specs.Marking.{command_error}
use Rattle.pulse_parts.specs.declared.marks.Marks.{Marks}

module _ (m : Marks) (n : ℕ) where
  module _ (a b : Bool) (f : m.fresh ≡ false) (p : a ≡ needs_cartridge n) where
    pub is-missing : (a && not m.inside) ≡ true → Some cartridge_missing ≡ command_error m n
    unfolding command_error
    is-missing e = rw (f, ← p, e)

    module _ (i : (a && not m.inside) ≡ false) (q : b ≡ needs_reference n) where
      pub is-unreferenced : (b && not m.referenced) ≡ true → Some not_referenced ≡ command_error m n
      unfolding command_error
      is-unreferenced e = rw (f, ← p, i, ← q, e)
