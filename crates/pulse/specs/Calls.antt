-- The public calls, with their refusals. 01: "Pulse order: 8, then 7 or 5, then 6."
-- Assumes nothing.
use Rattle.std.specs.Prelude.{ℕ, Bool, false, not, ◌&&◌, ◌≡◌, if◌then◌else◌, Result, Ok, Err}
use Rattle.numbers.specs.Choice.{◌≡ᵇ◌, ◌≤ᵇ◌}
use Rattle.numbers.specs.declared.refusals.Refusal.{Refusal}
use Rattle.numbers.specs.Refusals.{number_of}
use Rattle.pulse_parts.specs.declared.cartridge.Cartridge.{Cartridge}
use Rattle.pulse.specs.declared.calls.Waited.{Waited as Passed}
use Rattle.pulse.specs.declared.drive.Drive.{Drive}
use Rattle.pulse.specs.Drives.{power_on}
use Rattle.pulse.specs.Events.{inserted, removed, run_for, steps_to}
use Rattle.pulse.specs.Motions.{ticked}
use Rattle.pulse.specs.Rules.{in_ranges, keeps_rules}
use Rattle.pulse.specs.Train.{train_step}

-- 01: "else the number is 0"
abbrev pub not_refused : ℕ
not_refused = 0

-- 01: "a train of 0 pulses"
abbrev pub empty_train : ℕ
empty_train = 5

-- 01: "cartridge description outside its ranges"
abbrev pub outside_ranges : ℕ
outside_ranges = 6

-- 01: "insertion with a cartridge in, or removal with none"
abbrev pub already_so : ℕ
already_so = 7

-- 01: "pulse record breaks the rules"
abbrev pub rules_broken : ℕ
rules_broken = 8

-- what a call tells: its number, the level, and the record that it leaves
pub record Step : Type 0 where
  pub number : ℕ
  pub level : Bool
  pub drive : Drive

-- the same of a wait, with its ticks
pub record Waited : Type 0 where
  pub number : ℕ
  pub level : Bool
  pub ticks : ℕ
  pub drive : Drive

-- 01: "A refusal returns its number, .. (pulse calls: level 0, 0 ticks), and alters nothing"
abbrev pub refused : Drive → ℕ → Step
refused d number = record { number = number; level = false; drive = d }

abbrev pub accepted : Drive → Step
accepted d = record { number = not_refused; level = d.level; drive = d }

-- what the result of a call on d tells: the next drive, or the refusal, and d stays
abbrev pub told : Drive → Result Drive Refusal → Step
told d (Ok next) = accepted next
told d (Err refusal) = refused d (number_of refusal)

unfoldable pub train_call : Drive → ℕ → Step
train_call d n =
    if not (keeps_rules d) then refused d rules_broken else
    if n ≡ᵇ 0 then refused d empty_train else
    accepted (train_step d n)

unfoldable pub tick_call : Drive → Step
tick_call d =
    if not (keeps_rules d) then refused d rules_broken else
    accepted (ticked d)

unfoldable pub insert_call : Drive → Cartridge → ℕ → Step
insert_call d cart place =
    if not (keeps_rules d) then refused d rules_broken else
    if d.marks.inside then refused d already_so else
    if not (in_ranges cart && (place ≤ᵇ cart.segments)) then refused d outside_ranges else
    accepted (inserted d cart place)

unfoldable pub remove_call : Drive → Step
remove_call d =
    if not (keeps_rules d) then refused d rules_broken else
    if not d.marks.inside then refused d already_so else
    accepted (removed d)

abbrev pub refused_wait : Drive → ℕ → Waited
refused_wait d number = record { number = number; level = false; ticks = 0; drive = d }

abbrev pub accepted_wait : ℕ → Drive → Waited
accepted_wait ticks d = record { number = not_refused; level = d.level; ticks = ticks; drive = d }

abbrev pub told_wait : Drive → Result Passed Refusal → Waited
told_wait d (Ok passed) = accepted_wait passed.ticks passed.drive
told_wait d (Err refusal) = refused_wait d (number_of refusal)

-- 01: "A wait call ticks until ready or a limit, and its answer counts the ticks"
unfoldable pub wait_call : Drive → ℕ → Waited
wait_call d limit =
    if not (keeps_rules d) then refused_wait d rules_broken else
    accepted_wait (steps_to limit d) (run_for (steps_to limit d) d)

-- What each public call promises of what it gives, for every input.
abbrev pub PowerOnPromise : ℕ → ℕ → Drive → Type 0
PowerOnPromise vendor rom d = d ≡ power_on vendor rom

abbrev pub TrainPromise : Drive → ℕ → Step → Type 0
TrainPromise d n step = step ≡ train_call d n

abbrev pub TickPromise : Drive → Step → Type 0
TickPromise d step = step ≡ tick_call d

abbrev pub InsertPromise : Drive → Cartridge → ℕ → Step → Type 0
InsertPromise d cart place step = step ≡ insert_call d cart place

abbrev pub RemovePromise : Drive → Step → Type 0
RemovePromise d step = step ≡ remove_call d

abbrev pub WaitPromise : Drive → ℕ → Waited → Type 0
WaitPromise d limit waited = waited ≡ wait_call d limit
