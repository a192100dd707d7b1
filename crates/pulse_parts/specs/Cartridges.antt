-- The cartridge's description.
-- Assumes nothing.
use Rattle.std.specs.Prelude.{Bool, false, not, ◌&&◌}
use Rattle.numbers.specs.Choice.{◌≡ᵇ◌}
use Rattle.pulse_parts.specs.declared.cartridge.Cartridge.{Cartridge}

-- the description where no cartridge is in
abbrev pub no_cartridge : Cartridge
no_cartridge = record { segments = 0; tracks = 0; protected = false; burst = false; wide = false; format = 0; kind = 0 }

-- 01: "with none, these and the description 0"
abbrev pub is_none : Cartridge → Bool
is_none c =
    (c.segments ≡ᵇ 0) && (c.tracks ≡ᵇ 0) && not c.protected && not c.burst && not c.wide && (c.format ≡ᵇ 0)
    && (c.kind ≡ᵇ 0)
