-- The plates of 01 marked * for the pulse drive, as one table.
-- Assumes nothing.
use Rattle.std.specs.Prelude.{ℕ, Bool, true, false, ◌&&◌, List, [], ◌∷◌, map}
use Rattle.numbers.specs.Choice.{◌≡ᵇ◌}
use Rattle.numbers.specs.Flags.{weight_of}
use Rattle.numbers.specs.Same.{same}
use Rattle.pulse_codes.specs.Codes.{report_error, skip_extended_forward}
use Rattle.pulse.specs.declared.drive.Drive.{Drive}
use Rattle.pulse.specs.Calls.{Step, insert_call}
use Rattle.pulse.specs.Drives.{power_on}
use Rattle.pulse_laws.specs.Runs.{after_trains, answers, next_bits, recovery_trains}

-- trains that are sent to a drive, the levels that they answer, and then the items left of the report and the tape's target
pub record Plate : Type 0 where
  pub drive : Drive
  pub trains : List ℕ
  pub levels : List ℕ
  pub items_left : ℕ
  pub target : ℕ

abbrev pub powered_on : Drive
powered_on = power_on 0 0

-- a cartridge of 4095 segments at its start, its error and new mark read: ready and referenced
abbrev pub loaded : Drive
loaded =
    after_trains
    (insert_call powered_on
    record { segments = 4095; tracks = 20; protected = false; burst = true; wide = false; format = 2; kind = 1 }
    0
    ).drive
    recovery_trains

-- the sixteen bits of error 26 with command 0, lowest first, and the final 1
abbrev pub power_on_bits : List ℕ
power_on_bits = 0 ∷ 1 ∷ 0 ∷ 1 ∷ 1 ∷ 0 ∷ 0 ∷ 0 ∷ 0 ∷ 0 ∷ 0 ∷ 0 ∷ 0 ∷ 0 ∷ 0 ∷ 0 ∷ 1 ∷ []

abbrev pub plates : List Plate
plates =
    -- 01: "N = 300 by code 35: arguments 14, 4, 3."
    record { drive = loaded; trains = skip_extended_forward ∷ 14 ∷ 4 ∷ 3 ∷ []; levels = 1 ∷ 1 ∷ 1 ∷ 1 ∷ []; items_left = 0; target = 300 }
    -- 01: "Power-on, 7: 0 1 0 1 1 0 0 0, eight 0, then 1."
    ∷ record { drive = powered_on; trains = report_error ∷ next_bits 17; levels = 1 ∷ power_on_bits; items_left = 0; target = 0 }
    -- 01: "Power-on, 7, 36: eighteen 2s close the report, seventeen don't."
    ∷ record { drive = powered_on; trains = report_error ∷ 36 ∷ next_bits 18; levels = 1 ∷ 1 ∷ 1 ∷ power_on_bits; items_left = 0; target = 0 }
    ∷ record {
      drive = powered_on;
      trains = report_error ∷ 36 ∷ next_bits 17;
      levels = 1 ∷ 1 ∷ 1 ∷ 0 ∷ 1 ∷ 0 ∷ 1 ∷ 1 ∷ 0 ∷ 0 ∷ 0 ∷ 0 ∷ 0 ∷ 0 ∷ 0 ∷ 0 ∷ 0 ∷ 0 ∷ 0 ∷ [];
      items_left = 1;
      target = 0;
    }
    ∷ []

-- the plate prints as it should
unfoldable pub prints : Plate → Bool
prints p =
    same (map (λ (s : Step). weight_of s.level 1) (answers p.drive p.trains)) p.levels
    && ((after_trains p.drive p.trains).report.left ≡ᵇ p.items_left)
    && ((after_trains p.drive p.trains).head.target ≡ᵇ p.target)

unfoldable pub all_print : List Plate → Bool
all_print [] = true
all_print (p ∷ ps) = prints p && all_print ps
