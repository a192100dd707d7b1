-- What the bench program does with a byte.
-- Assumes nothing.
use Rattle.std.specs.Prelude.{ℕ, if◌then◌else◌}
use Rattle.numbers.specs.Choice.{◌≡ᵇ◌}
use Rattle.pulse.specs.declared.drive.Drive.{Drive}
use Rattle.pulse.specs.Calls.{Step, tick_call, train_call}

-- 01, the bench program: "takes bytes on standard input as trains .. (0 is a tick ..)"
unfoldable pub byte_call : Drive → ℕ → Step
byte_call d byte =
    if byte ≡ᵇ 0 then tick_call d else
    train_call d byte
