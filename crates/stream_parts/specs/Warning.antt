-- The early warning, which a tape gives before its end.
-- Assumes nothing.
use Rattle.std.specs.Prelude.{ℕ, ◌-◌, Bool}
use Rattle.numbers.specs.Choice.{◌<ᵇ◌}
use Rattle.image.specs.declared.header.Header.{Header}

-- 0Ah and 34h: "P > C - W"; 02, A3: "U > C - W"
abbrev pub past_warning : Header → ℕ → Bool
past_warning h place = h.capacity - h.warning <ᵇ place
