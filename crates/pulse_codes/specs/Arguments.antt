-- The arguments of a code.
-- Assumes nothing.
use Rattle.std.specs.Prelude.{ℕ, ◌+◌, ◌-◌, ◌*◌, ◌%◌, Bool, true, false, not, ◌&&◌, ◌||◌, if◌then◌else◌, Option, Some, None}
use Rattle.numbers.specs.Choice.{◌≡ᵇ◌, ◌<ᵇ◌, ◌≤ᵇ◌}
use Rattle.pulse_codes.specs.Codes.{seek_track, select_rate, skip_reverse, skip_forward, skip_extended_reverse, skip_extended_forward, is_skip}
use Rattle.pulse_codes.specs.declared.arguments.Waiting.{Waiting}

-- 000, table 2b: how many arguments a code takes
unfoldable pub needed : ℕ → ℕ
needed code =
    if (code ≡ᵇ seek_track) || (code ≡ᵇ select_rate) then 1 else
    if (code ≡ᵇ skip_reverse) || (code ≡ᵇ skip_forward) then 2 else
    if (code ≡ᵇ skip_extended_reverse) || (code ≡ᵇ skip_extended_forward) then 3 else
    0

abbrev pub highest_nibble : ℕ
highest_nibble = 15

abbrev pub highest_rate : ℕ
highest_rate = 3

-- 01: "Nibbles 0-15, rate 0-3"; a track may have any value here
abbrev pub in_range : ℕ → ℕ → Bool
in_range code value =
    if code ≡ᵇ seek_track then true else
    if code ≡ᵇ select_rate then value ≤ᵇ highest_rate else
    value ≤ᵇ highest_nibble

-- 01: "its value is n - 2", or out of range
unfoldable pub nibble_of : ℕ → ℕ → Option ℕ
nibble_of code n = if in_range code (n - 2) then Some (n - 2) else None

-- 000, table 2b: (N&15), ((N/16)&15), ((N/256)&15): the nibble of argument number `held` joins those held, of which the value is read
-- modulo 16^held; no code takes more than three
abbrev pub joined : ℕ → ℕ → ℕ → ℕ
joined value held nibble =
    if held ≡ᵇ 0 then nibble else
    if held ≡ᵇ 1 then value % 16 + nibble * 16 else
    value % 256 + nibble * 256

abbrev pub is_waiting : Option Waiting → Bool
is_waiting None = false
is_waiting (Some w) = true

-- 01: "arguments held fewer than needed; waiting arguments only with no open report, no motion, no error and no new mark, and those
-- of 13 or a skip only when referenced" (free: no open report, no motion, no error and no new mark)
abbrev pub waiting_fits : Option Waiting → Bool → Bool → Bool
waiting_fits None free referenced = true
waiting_fits (Some w) free referenced =
    (w.held <ᵇ needed w.code) && free && (referenced || not ((w.code ≡ᵇ seek_track) || is_skip w.code))
