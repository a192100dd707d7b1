-- Steps 3 and 6 of a train: a train in an open report, and a report that opens.
-- Assumes nothing.
use Rattle.std.specs.Prelude.{ℕ, true, false, not, ◌&&◌, if◌then◌else◌}
use Rattle.numbers.specs.Choice.{◌≡ᵇ◌}
use Rattle.pulse_codes.specs.Codes.{report_next_bit, report_status, report_error, report_configuration, report_rom, report_vendor, ignored}
use Rattle.pulse_codes.specs.Errors.{illegal_in_report, no_error}
use Rattle.pulse_parts.specs.declared.reports.Report.{Report}
use Rattle.pulse_parts.specs.Faults.{no_command}
use Rattle.pulse_parts.specs.Marking.{mark_asked, mark_fresh}
use Rattle.pulse_parts.specs.Reports.{configuration_bits, error_bits, item_level, items_left, no_report, owing, report_of8, report_of16, status_bits, tape_bits}
use Rattle.pulse.specs.declared.drive.Drive.{Drive}
use Rattle.pulse.specs.Drives.{is_ready, with_fault, with_level, with_marks, with_report}
use Rattle.pulse.specs.Motions.{latched}

-- 01: "2 gives the next item"; "the next 2 repeats the last level"
unfoldable pub item_given : Drive → Drive
item_given d =
    if d.report.repeat then with_report d (owing d.report false) else
    with_level (with_report d (items_left d.report)) (item_level d.report)

-- 01: "Others: error 8, report closed, level 0, not obeyed."
abbrev pub report_broken : Drive → ℕ → Drive
report_broken d n = latched (with_level (with_report d no_report) false) illegal_in_report n

-- 01: "3. Report open: 2 gives the next item. An unsupported n > 32 is ignored, and the next 2 repeats the last level."
unfoldable pub step_report : Drive → ℕ → Drive
step_report d n =
    if n ≡ᵇ report_next_bit then item_given d else
    if ignored n then with_report d (owing d.report true) else
    report_broken d n

-- the bits of report n as they stand, with the final 1 (000, table 2c)
unfoldable pub report_of : Drive → ℕ → Report
report_of d n =
    if n ≡ᵇ report_status then report_of8 (status_bits d.head d.fault d.marks d.cart) else
    if n ≡ᵇ report_error then report_of16 (error_bits d.fault) else
    if n ≡ᵇ report_configuration then report_of8 (configuration_bits d.rate d.marks d.cart) else
    if n ≡ᵇ report_rom then report_of8 d.rom else
    if n ≡ᵇ report_vendor then report_of16 d.vendor else
    report_of8 (tape_bits d.marks d.cart)

-- 01: "if a 6 came while ready since insertion or reset"
unfoldable pub status_asked : Drive → Drive
status_asked d =
    if is_ready d then with_marks d (mark_asked d.marks true) else
    d

-- 01: "when not moving it clears the error, and the new mark if a 6 came while ready"
unfoldable pub error_read : Drive → Drive
error_read d =
    if is_ready d then with_marks (with_fault d no_error no_command) (mark_fresh d.marks (d.marks.fresh && not d.marks.asked)) else
    d

-- 01: "level 1, then the bits as they stood then, lowest first, then a final 1"
abbrev pub opened : Drive → ℕ → Drive
opened d n = with_level (with_report d (report_of d n)) true

-- 01: "6. Reports 6-9, 32, 33"
unfoldable pub step_open_report : Drive → ℕ → Drive
step_open_report d n =
    if n ≡ᵇ report_status then status_asked (opened d n) else
    if n ≡ᵇ report_error then error_read (opened d n) else
    opened d n
