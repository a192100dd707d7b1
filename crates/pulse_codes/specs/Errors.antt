-- The error numbers (000, section 3.5) that 01 admits.
-- Assumes nothing.
use Rattle.std.specs.Prelude.{ℕ, Bool, List, [], ◌∷◌}
use Rattle.numbers.specs.Member.{is_in}
use Rattle.pulse_codes.specs.declared.errors.ErrorNumber.{ErrorNumber}
use Rattle.pulse_codes.specs.declared.errors.ErrorNumber.TheVariants.{NotReady, CartridgeMissing, UndefinedCommand, IllegalTrack, IllegalInReport}
use Rattle.pulse_codes.specs.declared.errors.ErrorNumber.TheVariants.{NewCartridgePending, NotReferenced, PowerOnReset, SoftwareReset}

abbrev pub no_error : ℕ
no_error = 0

-- 000: "Command Received While Drive Not Ready"
abbrev pub not_ready : ℕ
not_ready = 1

-- 000: "Cartridge Not Present or Removed"
abbrev pub cartridge_missing : ℕ
cartridge_missing = 2

-- 000: "Undefined or Reserved Command Code"
abbrev pub undefined_command : ℕ
undefined_command = 6

-- 000: "Illegal Track Address Specified for Seek"
abbrev pub illegal_track : ℕ
illegal_track = 7

-- 000: "Illegal Command in Report Subcontext"
abbrev pub illegal_in_report : ℕ
illegal_in_report = 8

-- 000: "Command Received While New Cartridge Pending"
abbrev pub new_cartridge_pending : ℕ
new_cartridge_pending = 13

-- 000: "Command Illegal When Cartridge Not Referenced"
abbrev pub not_referenced : ℕ
not_referenced = 19

-- 000: "Power On Reset Occurred"
abbrev pub power_on_reset : ℕ
power_on_reset = 26

-- 000: "Software Reset Occurred"
abbrev pub software_reset : ℕ
software_reset = 27

-- the number of a named error
abbrev pub error_byte : ErrorNumber → ℕ
error_byte NotReady = not_ready
error_byte CartridgeMissing = cartridge_missing
error_byte UndefinedCommand = undefined_command
error_byte IllegalTrack = illegal_track
error_byte IllegalInReport = illegal_in_report
error_byte NewCartridgePending = new_cartridge_pending
error_byte NotReferenced = not_referenced
error_byte PowerOnReset = power_on_reset
error_byte SoftwareReset = software_reset

abbrev pub admitted_errors : List ℕ
admitted_errors =
    no_error ∷ not_ready ∷ cartridge_missing ∷ undefined_command ∷ illegal_track ∷ illegal_in_report ∷ new_cartridge_pending
    ∷ not_referenced ∷ power_on_reset ∷ software_reset ∷ []

-- 01: "error 0, 1, 2, 6, 7, 8, 13, 19, 26 or 27"
abbrev pub admitted : ℕ → Bool
admitted e = is_in e admitted_errors
