-- A list of trains in one call.
-- Assumes nothing.
use Rattle.std.specs.Prelude.{ℕ, Bool, not, List, [], ◌∷◌, ◌≡◌, length, if◌then◌else◌}
use Rattle.numbers.specs.Choice.{◌<ᵇ◌}
use Rattle.numbers.specs.Flags.{weight_of}
use Rattle.numbers.specs.Member.{is_in}
use Rattle.numbers.specs.Over.{over}
use Rattle.pulse.specs.declared.drive.Drive.{Drive}
use Rattle.pulse.specs.Calls.{Step, accepted, empty_train, refused, rules_broken}
use Rattle.pulse.specs.Rules.{keeps_rules}
use Rattle.pulse.specs.Train.{train_step}

-- 02, A5: "4 if the level buffer is shorter than the list"
abbrev pub short_levels : ℕ
short_levels = 4

-- a level in its byte
abbrev pub level_byte : Bool → ℕ
level_byte level = weight_of level 1

-- 02, A5: "It hands over 16-bit pulse counts in one list": the drive after them
unfoldable pub after_list : Drive → List ℕ → Drive
after_list d [] = d
after_list d (n ∷ ns) = after_list (train_step d n) ns

-- 02, A5: "and gets the level after each in a byte buffer"
unfoldable pub levels_of : Drive → List ℕ → List ℕ
levels_of d [] = []
levels_of d (n ∷ ns) = level_byte (train_step d n).level ∷ levels_of (train_step d n) ns

-- all that the call leaves: its answer with the next record, and the level buffer
pub record Sent : Type 0 where
  pub step : Step
  pub levels : List ℕ

abbrev pub sent : Step → List ℕ → Sent
sent step levels = record { step = step; levels = levels }

-- 02, A5: "Refusals: 8, then 5 if any count is 0, then 4 if the level buffer is shorter than the list; then nothing is sent.";
-- "Bytes of the level buffer beyond the list stay."
unfoldable pub trains_call : Drive → List ℕ → List ℕ → Sent
trains_call d counts levels =
    if not (keeps_rules d) then sent (refused d rules_broken) levels else
    if is_in 0 counts then sent (refused d empty_train) levels else
    if length levels <ᵇ length counts then sent (refused d short_levels) levels else
    sent (accepted (after_list d counts)) (over levels 0 (levels_of d counts))

abbrev pub TrainsPromise : Drive → List ℕ → List ℕ → Sent → Type 0
TrainsPromise d counts levels left = left ≡ trains_call d counts levels
