-- Insertion, removal, and time that passes.
-- Assumes nothing.
use Rattle.std.specs.Prelude.{ℕ, zero, suc, if◌then◌else◌, None}
use Rattle.pulse_codes.specs.Errors.{cartridge_missing}
use Rattle.pulse_parts.specs.declared.cartridge.Cartridge.{Cartridge}
use Rattle.pulse_parts.specs.declared.head.Head.{Head}
use Rattle.pulse_parts.specs.declared.marks.Marks.{Marks}
use Rattle.pulse_parts.specs.Cartridges.{no_cartridge}
use Rattle.pulse_parts.specs.Faults.{no_command}
use Rattle.pulse_parts.specs.Heads.{at_start, standing_at}
use Rattle.pulse_parts.specs.Marking.{new_marks, no_marks}
use Rattle.pulse_parts.specs.Reports.{no_report}
use Rattle.pulse.specs.declared.drive.Drive.{Drive}
use Rattle.pulse.specs.Drives.{drive_of, is_ready}
use Rattle.pulse.specs.Motions.{latched, load_started, ticked}

-- another cartridge, or none. 01: "Both drop report and arguments, and forget that status was asked."
abbrev pub exchanged : Drive → Cartridge → Head → Marks → Drive
exchanged d cart head marks = drive_of cart head marks d.fault no_report None d.rate d.level d.vendor d.rom

-- 01: "Insertion: S as described, track 0, new mark, load starts."
unfoldable pub inserted : Drive → Cartridge → ℕ → Drive
inserted d cart place = load_started (exchanged d cart (standing_at place) new_marks)

-- 01: "clears motion, referenced, new mark; S, target, track and the description become 0"
abbrev pub emptied : Drive → Drive
emptied d = exchanged d no_cartridge at_start no_marks

-- 01: "Removal: error 2, command 0, if moving"
unfoldable pub removed : Drive → Drive
removed d =
    if is_ready d then emptied d else
    emptied (latched d cartridge_missing no_command)

-- the drive after k ticks
unfoldable pub run_for : ℕ → Drive → Drive
run_for zero d = d
run_for (suc k) d = ticked (run_for k d)

-- 01: "ticks until ready or a limit": the ticks to readiness, cut at the limit
unfoldable pub steps_to : ℕ → Drive → ℕ
steps_to zero d = 0
steps_to (suc limit) d =
    if is_ready d then 0 else
    suc (steps_to limit (ticked d))
