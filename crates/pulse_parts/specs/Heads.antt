-- Where the tape stands and where it goes.
-- Assumes nothing.
use Rattle.std.specs.Prelude.{ℕ, ◌+◌, ◌-◌, min, Bool, true, false, not, ◌&&◌, if◌then◌else◌}
use Rattle.numbers.specs.Choice.{◌≡ᵇ◌, ◌<ᵇ◌}
use Rattle.pulse_parts.specs.declared.head.Head.{Head}
use Rattle.pulse_parts.specs.declared.head.Motion.{Motion}
use Rattle.pulse_parts.specs.declared.head.Motion.TheVariants.{Still, Run, Load}

-- "motion: 0 still, 1 run, 2 load"; any other byte is read as 0
unfoldable pub motion_of : ℕ → Motion
motion_of byte =
    if byte ≡ᵇ 1 then Run else
    if byte ≡ᵇ 2 then Load else
    Still

abbrev pub motion_byte : Motion → ℕ
motion_byte Still = 0
motion_byte Run = 1
motion_byte Load = 2

abbrev pub is_still : Motion → Bool
is_still Still = true
is_still Run = false
is_still Load = false

abbrev pub is_run : Motion → Bool
is_run Still = false
is_run Run = true
is_run Load = false

abbrev pub is_load : Motion → Bool
is_load Still = false
is_load Run = false
is_load Load = true

-- 01: "moving exactly when S is off its target (a stop sets target S), a load only moving to 0"
abbrev pub motion_fits : Motion → ℕ → ℕ → Bool
motion_fits Still place target = place ≡ᵇ target
motion_fits Run place target = not (place ≡ᵇ target)
motion_fits Load place target = not (place ≡ᵇ target) && (target ≡ᵇ 0)

-- at a place, on track 0, with no motion
abbrev pub standing_at : ℕ → Head
standing_at place = record { place = place; target = place; track = 0; motion = Still }

-- S, target and track 0, and no motion: no cartridge, and a load's end
abbrev pub at_start : Head
at_start = standing_at 0

-- 01: "a stop sets target S"
abbrev pub held_at : Head → Head
held_at h = record { place = h.place; target = h.place; track = h.track; motion = Still }

-- a motion with its target
abbrev pub headed_for : Head → ℕ → Motion → Head
headed_for h target motion = record { place = h.place; target = target; track = h.track; motion = motion }

-- another place
abbrev pub stood_at : Head → ℕ → Head
stood_at h place = record { place = place; target = h.target; track = h.track; motion = h.motion }

-- another track
abbrev pub on_track : Head → ℕ → Head
on_track h track = record { place = h.place; target = h.target; track = track; motion = h.motion }

-- 01: "moves S one toward the target"
abbrev pub toward : ℕ → ℕ → ℕ
toward place target =
    if place <ᵇ target then place + 1 else
    if target <ᵇ place then place - 1 else
    place

-- 01: "Skips add or subtract N, held within 0-G" (`-` ends at 0)
abbrev pub skipped_back : ℕ → ℕ → ℕ
skipped_back place count = place - count

abbrev pub skipped_on : ℕ → ℕ → ℕ → ℕ
skipped_on place segments count = min (place + count) segments
