-- Step 2 of a train: an argument.
-- Assumes nothing.
use Rattle.std.specs.Prelude.{ℕ, ◌+◌, ◌||◌, if◌then◌else◌, Option, Some, None}
use Rattle.numbers.specs.Choice.{◌≡ᵇ◌, ◌<ᵇ◌}
use Rattle.pulse_codes.specs.declared.arguments.Waiting.{Waiting}
use Rattle.pulse_codes.specs.Arguments.{joined, needed, nibble_of}
use Rattle.pulse_codes.specs.Codes.{seek_track, select_rate, skip_reverse, skip_extended_reverse}
use Rattle.pulse_codes.specs.Errors.{illegal_track}
use Rattle.pulse_parts.specs.Heads.{on_track, skipped_back, skipped_on}
use Rattle.pulse.specs.declared.drive.Drive.{Drive}
use Rattle.pulse.specs.Drives.{with_head, with_rate, with_waiting, without_arguments}
use Rattle.pulse.specs.Motions.{latched, run_started}

-- 01: "13 sets the track at once."; "Track not below the count: error 7."; "error 7 keeps 13"
unfoldable pub track_sought : Drive → ℕ → Drive
track_sought d track =
    if track <ᵇ d.cart.tracks then with_head d (on_track d.head track) else
    latched d illegal_track seek_track

-- 01: "Skips add or subtract N, held within 0-G"
unfoldable pub skipped : Drive → ℕ → ℕ → Drive
skipped d code count =
    if (code ≡ᵇ skip_reverse) || (code ≡ᵇ skip_extended_reverse) then run_started d (skipped_back d.head.place count) else
    run_started d (skipped_on d.head.place d.cart.segments count)

-- one nibble more of a skip's N: its last is obeyed
unfoldable pub nibble_taken : Drive → ℕ → ℕ → ℕ → ℕ → Drive
nibble_taken d code held low nibble =
    if held + 1 <ᵇ needed code then with_waiting d (Some record { code = code; held = held + 1; value = joined low held nibble }) else
    skipped (without_arguments d) code (joined low held nibble)

-- the argument of `code` after the `held` ones, whose value is `low`
unfoldable pub argument_taken : Drive → ℕ → ℕ → ℕ → ℕ → Drive
argument_taken d code held low value =
    if code ≡ᵇ seek_track then track_sought (without_arguments d) value else
    if code ≡ᵇ select_rate then with_rate (without_arguments d) value else
    nibble_taken d code held low value

-- 01: "beyond that the list is dropped, no error"
abbrev pub argument_or : Drive → ℕ → ℕ → ℕ → Option ℕ → Drive
argument_or d code held low (Some value) = argument_taken d code held low value
argument_or d code held low None = without_arguments d

unfoldable pub argument_read : Drive → ℕ → ℕ → ℕ → ℕ → Drive
argument_read d code held low n = argument_or d code held low (nibble_of code n)

abbrev pub argument_for : Option Waiting → Drive → ℕ → Drive
argument_for None d n = d
argument_for (Some w) d n = argument_read d w.code w.held w.value n

-- 01: "2. Argument waiting: its value is n - 2."
unfoldable pub step_argument : Drive → ℕ → Drive
step_argument d n = argument_for d.waiting d n
