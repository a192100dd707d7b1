-- 01, "Record rules (8)", in its order.
-- Assumes nothing.
use Rattle.std.specs.Prelude.{ℕ, Bool, not, ◌&&◌, ◌||◌, if◌then◌else◌}
use Rattle.numbers.specs.Choice.{◌≡ᵇ◌, ◌<ᵇ◌, ◌≤ᵇ◌}
use Rattle.pulse_codes.specs.Arguments.{highest_rate, waiting_fits}
use Rattle.pulse_codes.specs.Errors.{admitted}
use Rattle.pulse_parts.specs.declared.cartridge.Cartridge.{Cartridge}
use Rattle.pulse_parts.specs.declared.fault.Fault.{Fault}
use Rattle.pulse_parts.specs.declared.head.Head.{Head}
use Rattle.pulse_parts.specs.declared.marks.Marks.{Marks}
use Rattle.pulse_parts.specs.declared.reports.Report.{Report}
use Rattle.pulse_parts.specs.Cartridges.{is_none}
use Rattle.pulse_parts.specs.Faults.{error_held}
use Rattle.pulse_parts.specs.Heads.{is_still, is_run, motion_fits}
use Rattle.pulse_parts.specs.Reports.{is_open, report_fits}
use Rattle.pulse.specs.declared.drive.Drive.{Drive}

abbrev pub max_segments : ℕ
max_segments = 4095

abbrev pub max_tracks : ℕ
max_tracks = 64

abbrev pub max_format : ℕ
max_format = 4

abbrev pub max_kind : ℕ
max_kind = 7

-- 01: "Cartridge: segments G 1-4095, tracks 1-64, .., format 0-4, type 0-7"
abbrev pub in_ranges : Cartridge → Bool
in_ranges c =
    (1 ≤ᵇ c.segments) && (c.segments ≤ᵇ max_segments) && (1 ≤ᵇ c.tracks) && (c.tracks ≤ᵇ max_tracks) && (c.format ≤ᵇ max_format)
    && (c.kind ≤ᵇ max_kind)

-- 01: "cartridge within its ranges, S and target <= G, track < tracks"
abbrev pub head_inside : Cartridge → Head → Bool
head_inside c h = in_ranges c && (h.place ≤ᵇ c.segments) && (h.target ≤ᵇ c.segments) && (h.track <ᵇ c.tracks)

-- 01: "with none, these and the description 0, not referenced or new"
abbrev pub nothing_inside : Cartridge → Head → Marks → Bool
nothing_inside c h m =
    is_none c && (h.place ≡ᵇ 0) && (h.target ≡ᵇ 0) && (h.track ≡ᵇ 0) && not m.referenced && not m.fresh

unfoldable pub cartridge_fits : Cartridge → Head → Marks → Bool
cartridge_fits c h m =
    if m.inside then head_inside c h else
    nothing_inside c h m

-- 01: "waiting arguments only with no open report, no motion, no error and no new mark"
abbrev pub is_free : Report → Head → Fault → Marks → Bool
is_free r h f m = not (is_open r) && is_still h.motion && not (error_held f) && not m.fresh

-- 01: "a held error moves only by a load"
abbrev pub held_error_fits : Fault → Head → Bool
held_error_fits f h = not (error_held f) || not (is_run h.motion)

unfoldable pub keeps_rules : Drive → Bool
keeps_rules d =
    cartridge_fits d.cart d.head d.marks
    && motion_fits d.head.motion d.head.place d.head.target
    && (d.rate ≤ᵇ highest_rate)
    && admitted d.fault.error
    && report_fits d.report
    && waiting_fits d.waiting (is_free d.report d.head d.fault d.marks) d.marks.referenced
    && held_error_fits d.fault d.head
