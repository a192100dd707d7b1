-- The held error.
-- Assumes nothing.
use Rattle.std.specs.Prelude.{ℕ, Bool, not}
use Rattle.numbers.specs.Choice.{◌≡ᵇ◌}
use Rattle.pulse_codes.specs.Errors.{no_error, power_on_reset}
use Rattle.pulse_parts.specs.declared.fault.Fault.{Fault}

abbrev pub error_held : Fault → Bool
error_held f = not (f.error ≡ᵇ no_error)

-- the command of an error that no train gave
abbrev pub no_command : ℕ
no_command = 0

-- no error is held
abbrev pub no_fault : Fault
no_fault = record { error = no_error; command = no_command }

-- an error and the command it came with
abbrev pub fault_of : ℕ → ℕ → Fault
fault_of error command = record { error = error; command = command }

-- 01: "Power-on: .. error 26 with command 0"
abbrev pub power_on_fault : Fault
power_on_fault = record { error = power_on_reset; command = no_command }
