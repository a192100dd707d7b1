-- What moves the tape, what stops it, and an error that is held.
-- Assumes nothing.
use Rattle.std.specs.Prelude.{ℕ, if◌then◌else◌}
use Rattle.numbers.specs.Choice.{◌≡ᵇ◌}
use Rattle.pulse_parts.specs.declared.head.Motion.{Motion}
use Rattle.pulse_parts.specs.declared.head.Motion.TheVariants.{Still, Run, Load}
use Rattle.pulse_parts.specs.Faults.{error_held}
use Rattle.pulse_parts.specs.Heads.{at_start, held_at, headed_for, is_run, stood_at, toward}
use Rattle.pulse_parts.specs.Marking.{mark_referenced}
use Rattle.pulse.specs.declared.drive.Drive.{Drive}
use Rattle.pulse.specs.Drives.{is_ready, with_fault, with_head, with_marks, without_arguments}

-- 01: "a stop sets target S"
abbrev pub stopped : Drive → Drive
stopped d = with_head d (held_at d.head)

-- 01: "A load moves to S = 0, then track 0, referenced = burst present."
abbrev pub load_ended : Drive → Drive
load_ended d = with_marks (with_head d at_start) (mark_referenced d.marks d.cart.burst)

-- 01: "A motion already there ends at once."
unfoldable pub load_started : Drive → Drive
load_started d =
    if d.head.place ≡ᵇ 0 then load_ended d else
    with_head d (headed_for d.head 0 Load)

unfoldable pub run_started : Drive → ℕ → Drive
run_started d target =
    if d.head.place ≡ᵇ target then stopped d else
    with_head d (headed_for d.head target Run)

-- 01: "The first error stays until read"; "An error latched stops any motion but a load.", which is a run
unfoldable pub latched : Drive → ℕ → ℕ → Drive
latched d error command =
    if error_held d.fault then d else
    if is_run d.head.motion then stopped (with_fault d error command) else
    with_fault d error command

-- how each motion ends: a run by a stop, a load as 01 says of it
abbrev pub motion_ended : Motion → Drive → Drive
motion_ended Still d = d
motion_ended Run d = stopped d
motion_ended Load d = load_ended d

-- 01: "at the target motion ends"
unfoldable pub arrived : Drive → Drive
arrived d =
    if d.head.place ≡ᵇ d.head.target then motion_ended d.head.motion d else
    d

-- 01: "A tick drops unfinished arguments and moves S one toward the target"
unfoldable pub ticked : Drive → Drive
ticked d =
    if is_ready d then without_arguments d else
    arrived (with_head (without_arguments d) (stood_at d.head (toward d.head.place d.head.target)))
