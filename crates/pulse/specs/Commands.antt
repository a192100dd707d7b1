-- Step 7 of a train: the other commands.
-- Assumes nothing.
use Rattle.std.specs.Prelude.{ℕ, not, ◌&&◌, ◌||◌, if◌then◌else◌, Some}
use Rattle.numbers.specs.Choice.{◌≡ᵇ◌}
use Rattle.pulse_codes.specs.Codes.{pause, stop_tape, logical_forward, physical_forward, physical_reverse, seek_load_point}
use Rattle.pulse_codes.specs.Codes.{needs_cartridge, needs_reference, stops_motion}
use Rattle.pulse_codes.specs.Errors.{cartridge_missing, new_cartridge_pending, not_ready, not_referenced}
use Rattle.pulse_parts.specs.Faults.{error_held}
use Rattle.pulse_parts.specs.Heads.{is_run}
use Rattle.pulse.specs.declared.drive.Drive.{Drive}
use Rattle.pulse.specs.Drives.{is_ready, with_waiting}
use Rattle.pulse.specs.Motions.{latched, load_started, run_started, stopped}

-- 01: "10 and 12 go to G; 11 and 14 to 0, 14 as a load. 3 and 18 stop."; the others wait for their arguments
unfoldable pub obeyed : Drive → ℕ → Drive
obeyed d n =
    if (n ≡ᵇ pause) || (n ≡ᵇ stop_tape) then stopped d else
    if (n ≡ᵇ logical_forward) || (n ≡ᵇ physical_forward) then run_started d d.cart.segments else
    if n ≡ᵇ physical_reverse then run_started d 0 else
    if n ≡ᵇ seek_load_point then load_started d else
    with_waiting d (Some record { code = n; held = 0; value = 0 })

-- 01: "Held error: rejected, it stays. New mark: 13. No cartridge (10-14, skips): 2. Not referenced (10, 13, skips): 19."
unfoldable pub checked : Drive → ℕ → Drive
checked d n =
    if error_held d.fault then d else
    if d.marks.fresh then latched d new_cartridge_pending n else
    if needs_cartridge n && not d.marks.inside then latched d cartridge_missing n else
    if needs_reference n && not d.marks.referenced then latched d not_referenced n else
    obeyed d n

-- 01: "7. Others. Moving: 3, 18, 25, 26, 34, 35 stop a motion that isn't a load and go on through these checks; else error 1, not obeyed."
unfoldable pub step_command : Drive → ℕ → Drive
step_command d n =
    if is_ready d then checked d n else
    if is_run d.head.motion && stops_motion n then checked (stopped d) n else
    latched d not_ready n
