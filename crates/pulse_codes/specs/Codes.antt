-- The pulse codes (000, table 2a) and what 01 says of each.
-- Assumes nothing.
use Rattle.std.specs.Prelude.{ℕ, Bool, not, ◌&&◌, ◌||◌}
use Rattle.numbers.specs.Choice.{◌≡ᵇ◌, ◌<ᵇ◌, ◌≤ᵇ◌}

abbrev pub soft_reset : ℕ
soft_reset = 1

abbrev pub report_next_bit : ℕ
report_next_bit = 2

abbrev pub pause : ℕ
pause = 3

abbrev pub report_status : ℕ
report_status = 6

abbrev pub report_error : ℕ
report_error = 7

abbrev pub report_configuration : ℕ
report_configuration = 8

abbrev pub report_rom : ℕ
report_rom = 9

abbrev pub logical_forward : ℕ
logical_forward = 10

abbrev pub physical_reverse : ℕ
physical_reverse = 11

abbrev pub physical_forward : ℕ
physical_forward = 12

abbrev pub seek_track : ℕ
seek_track = 13

abbrev pub seek_load_point : ℕ
seek_load_point = 14

abbrev pub stop_tape : ℕ
stop_tape = 18

abbrev pub skip_reverse : ℕ
skip_reverse = 25

abbrev pub skip_forward : ℕ
skip_forward = 26

abbrev pub select_rate : ℕ
select_rate = 27

abbrev pub report_vendor : ℕ
report_vendor = 32

abbrev pub report_tape : ℕ
report_tape = 33

abbrev pub skip_extended_reverse : ℕ
skip_extended_reverse = 34

abbrev pub skip_extended_forward : ℕ
skip_extended_forward = 35

-- n is one of the codes from a to b
abbrev pub between : ℕ → ℕ → ℕ → Bool
between a b n = (a ≤ᵇ n) && (n ≤ᵇ b)

-- 01: "Supported: 1-3, 6-14, 18, 25-27, 32-35."
abbrev pub supported : ℕ → Bool
supported n =
    between soft_reset pause n || between report_status seek_load_point n || (n ≡ᵇ stop_tape)
    || between skip_reverse select_rate n || between report_vendor skip_extended_forward n

-- 01: "An unsupported n > 32 is ignored"
abbrev pub ignored : ℕ → Bool
ignored n = not (supported n) && (report_vendor <ᵇ n)

-- 01: "Reports 6-9, 32, 33"
abbrev pub is_report : ℕ → Bool
is_report n = between report_status report_rom n || (n ≡ᵇ report_vendor) || (n ≡ᵇ report_tape)

-- 000, table 2a: the four codes named Skip N Segments
abbrev pub is_skip : ℕ → Bool
is_skip n = (n ≡ᵇ skip_reverse) || (n ≡ᵇ skip_forward) || (n ≡ᵇ skip_extended_reverse) || (n ≡ᵇ skip_extended_forward)

-- 01: "3, 18, 25, 26, 34, 35 stop a motion that isn't a load"
abbrev pub stops_motion : ℕ → Bool
stops_motion n = (n ≡ᵇ pause) || (n ≡ᵇ stop_tape) || is_skip n

-- 01: "No cartridge (10-14, skips): 2."
abbrev pub needs_cartridge : ℕ → Bool
needs_cartridge n = between logical_forward seek_load_point n || is_skip n

-- 01: "Not referenced (10, 13, skips): 19."
abbrev pub needs_reference : ℕ → Bool
needs_reference n = (n ≡ᵇ logical_forward) || (n ≡ᵇ seek_track) || is_skip n
