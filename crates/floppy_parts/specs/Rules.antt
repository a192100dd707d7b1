-- 02, A1, refusal 3.
-- Assumes nothing.
use Rattle.std.specs.Prelude.{Bool, ◌&&◌}
use Rattle.numbers.specs.Choice.{◌≤ᵇ◌}
use Rattle.image.specs.declared.header.Header.{Header}
use Rattle.packet_state.specs.States.{keeps_record_rules}
use Rattle.floppy_parts.specs.declared.tape.Floppy.{Floppy}
use Rattle.floppy_parts.specs.Tape.{product}

-- "3 also when the product exceeds C or P exceeds the product"
unfoldable pub keeps_floppy_rules : Header → Floppy → Bool
keeps_floppy_rules h f =
    keeps_record_rules h.recorded f.shared
    && (product f.tape ≤ᵇ h.capacity)
    && (f.shared.position ≤ᵇ product f.tape)
