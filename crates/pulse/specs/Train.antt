-- A train of n pulses: its seven steps, in 01's order.
-- Assumes nothing.
use Rattle.std.specs.Prelude.{ℕ, true, false, not, if◌then◌else◌}
use Rattle.numbers.specs.Choice.{◌≡ᵇ◌, ◌<ᵇ◌}
use Rattle.pulse_codes.specs.Arguments.{is_waiting}
use Rattle.pulse_codes.specs.Codes.{soft_reset, report_next_bit, report_vendor, supported, is_report}
use Rattle.pulse_codes.specs.Errors.{software_reset, undefined_command}
use Rattle.pulse_parts.specs.Marking.{mark_asked, mark_referenced}
use Rattle.pulse_parts.specs.Reports.{is_open, no_report}
use Rattle.pulse.specs.declared.drive.Drive.{Drive}
use Rattle.pulse.specs.Arguments.{step_argument}
use Rattle.pulse.specs.Commands.{step_command}
use Rattle.pulse.specs.Drives.{with_fault, with_level, with_marks, with_report, without_arguments}
use Rattle.pulse.specs.Motions.{latched, load_started}
use Rattle.pulse.specs.Reports.{step_open_report, step_report}

-- 01: "report and arguments dropped, status forgotten, referenced cleared, error 27 command 1"
abbrev pub cleared : Drive → Drive
cleared d =
    with_marks
    (with_fault (with_report (without_arguments d) no_report) software_reset soft_reset)
    (mark_asked (mark_referenced d.marks false) false)

-- 01: "1. n = 1: .., load starts if a cartridge is in."
unfoldable pub step_reset : Drive → Drive
step_reset d =
    if d.marks.inside then load_started (cleared d) else
    cleared d

-- 01: "4. 2 alone: level 1, nothing else."
abbrev pub step_next_bit : Drive → Drive
step_next_bit d = with_level d true

-- 01: "5. Unsupported: below 32 error 6, above ignored."
unfoldable pub step_unsupported : Drive → ℕ → Drive
step_unsupported d n =
    if n <ᵇ report_vendor then latched d undefined_command n else
    d

-- 01: "Train n, in order"
unfoldable pub train_step : Drive → ℕ → Drive
train_step d n =
    if n ≡ᵇ soft_reset then step_reset d else
    if is_waiting d.waiting then step_argument d n else
    if is_open d.report then step_report d n else
    if n ≡ᵇ report_next_bit then step_next_bit d else
    if not (supported n) then step_unsupported d n else
    if is_report n then step_open_report d n else
    step_command d n
