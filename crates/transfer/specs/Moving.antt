-- How a run over the tape ends.
-- Assumes nothing.
use Rattle.std.specs.Prelude.{ℕ}
use Rattle.transfer.specs.declared.Moved.{Moved}
use Rattle.transfer.specs.declared.Stop.{Stop}

-- at this place, with so many of those asked for not done, and why
abbrev pub halts : ℕ → ℕ → Stop → Moved
halts place left stop = record { place = place; left = left; stop = stop }
