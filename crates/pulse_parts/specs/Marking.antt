-- What the drive remembers of the cartridge.
-- Assumes nothing.
use Rattle.std.specs.Prelude.{ℕ, Bool, true, false, not, ◌&&◌, if◌then◌else◌, Option, Some, None}
use Rattle.pulse_codes.specs.Codes.{needs_cartridge, needs_reference}
use Rattle.pulse_codes.specs.Errors.{cartridge_missing, new_cartridge_pending, not_referenced}
use Rattle.pulse_parts.specs.declared.marks.Marks.{Marks}

-- no cartridge is in
abbrev pub no_marks : Marks
no_marks = record { inside = false; referenced = false; fresh = false; asked = false }

-- a cartridge was put in: the new mark
abbrev pub new_marks : Marks
new_marks = record { inside = true; referenced = false; fresh = true; asked = false }

abbrev pub mark_referenced : Marks → Bool → Marks
mark_referenced m x = record { inside = m.inside; referenced = x; fresh = m.fresh; asked = m.asked }

abbrev pub mark_fresh : Marks → Bool → Marks
mark_fresh m x = record { inside = m.inside; referenced = m.referenced; fresh = x; asked = m.asked }

abbrev pub mark_asked : Marks → Bool → Marks
mark_asked m x = record { inside = m.inside; referenced = m.referenced; fresh = m.fresh; asked = x }

-- what the marks refuse a command for. 01: "New mark: 13. No cartridge (10-14, skips): 2. Not referenced (10, 13, skips): 19."
unfoldable pub command_error : Marks → ℕ → Option ℕ
command_error m n =
    if m.fresh then Some new_cartridge_pending else
    if needs_cartridge n && not m.inside then Some cartridge_missing else
    if needs_reference n && not m.referenced then Some not_referenced else
    None
