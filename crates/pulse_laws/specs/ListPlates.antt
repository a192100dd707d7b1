-- Lists of trains with what they leave (02, A5), worked out by hand, as one table.
-- Assumes nothing.
use Rattle.std.specs.Prelude.{ℕ, Bool, true, ◌&&◌, List, [], ◌∷◌, ◌++◌, replicate}
use Rattle.numbers.specs.Choice.{◌≡ᵇ◌}
use Rattle.numbers.specs.Same.{same}
use Rattle.pulse_codes.specs.Codes.{report_error, report_next_bit, skip_extended_forward, soft_reset}
use Rattle.pulse.specs.declared.drive.Drive.{Drive}
use Rattle.pulse.specs.Calls.{empty_train, not_refused, rules_broken}
use Rattle.pulse.specs.Drives.{with_level, with_rate}
use Rattle.pulse.specs.Trains.{Sent, level_byte, short_levels, trains_call}
use Rattle.pulse_laws.specs.Plates.{loaded, power_on_bits, powered_on}
use Rattle.pulse_laws.specs.Runs.{next_bits}

-- a list that is sent to a drive with a level buffer; the number and level that answer it, the buffer after it, and the tape's target then
pub record ListPlate : Type 0 where
  pub drive : Drive
  pub counts : List ℕ
  pub buffer : List ℕ
  pub number : ℕ
  pub level : ℕ
  pub levels : List ℕ
  pub target : ℕ

-- a drive whose level is 1, and one that breaks the rules: rate 4
abbrev pub high : Drive
high = with_level powered_on true

abbrev pub broken : Drive
broken = with_rate high 4

abbrev pub refused_plate : Drive → List ℕ → List ℕ → ℕ → ListPlate
refused_plate d counts buffer number =
    record { drive = d; counts = counts; buffer = buffer; number = number; level = 0; levels = buffer; target = d.head.target }

abbrev pub list_plates : List ListPlate
list_plates =
    -- an empty list is accepted, and answers the level as it stood
    record { drive = powered_on; counts = []; buffer = []; number = not_refused; level = 0; levels = []; target = 0 }
    ∷ record { drive = high; counts = []; buffer = 9 ∷ []; number = not_refused; level = 1; levels = 9 ∷ []; target = 0 }
    -- a whole exchange, N = 300 by code 35, in a buffer of its length
    ∷ record {
      drive = loaded;
      counts = skip_extended_forward ∷ 14 ∷ 4 ∷ 3 ∷ [];
      buffer = 9 ∷ 9 ∷ 9 ∷ 9 ∷ [];
      number = not_refused;
      level = 1;
      levels = 1 ∷ 1 ∷ 1 ∷ 1 ∷ [];
      target = 300;
    }
    -- the error of power-on read out; "Bytes of the level buffer beyond the list stay."
    ∷ record {
      drive = powered_on;
      counts = report_error ∷ next_bits 17;
      buffer = replicate 20 9;
      number = not_refused;
      level = 1;
      levels = 1 ∷ (power_on_bits ++ (9 ∷ 9 ∷ []));
      target = 0;
    }
    -- a list that ends within the report answers its last level, 0: the first of the error's bits
    ∷ record {
      drive = powered_on;
      counts = report_error ∷ report_next_bit ∷ [];
      buffer = 9 ∷ 9 ∷ 9 ∷ [];
      number = not_refused;
      level = 0;
      levels = 1 ∷ 0 ∷ 9 ∷ [];
      target = 0;
    }
    -- "5 if any count is 0": first, in the middle, last; and before 4
    ∷ refused_plate high (0 ∷ report_next_bit ∷ report_next_bit ∷ []) (9 ∷ 9 ∷ 9 ∷ []) empty_train
    ∷ refused_plate high (soft_reset ∷ 0 ∷ report_next_bit ∷ []) (9 ∷ 9 ∷ 9 ∷ []) empty_train
    ∷ refused_plate loaded (skip_extended_forward ∷ 14 ∷ 4 ∷ 3 ∷ 0 ∷ []) (9 ∷ 9 ∷ 9 ∷ 9 ∷ []) empty_train
    -- "4 if the level buffer is shorter than the list": by one
    ∷ refused_plate loaded (skip_extended_forward ∷ 14 ∷ 4 ∷ 3 ∷ []) (9 ∷ 9 ∷ 9 ∷ []) short_levels
    -- 8 before both
    ∷ refused_plate broken (0 ∷ []) [] rules_broken
    ∷ []

-- the plate answers as it should
unfoldable pub answers_as : ListPlate → Sent → Bool
answers_as p left =
    (left.step.number ≡ᵇ p.number)
    && (level_byte left.step.level ≡ᵇ p.level)
    && same left.levels p.levels
    && (left.step.drive.head.target ≡ᵇ p.target)

unfoldable pub all_answer : List ListPlate → Bool
all_answer [] = true
all_answer (p ∷ ps) = answers_as p (trains_call p.drive p.counts p.buffer) && all_answer ps
