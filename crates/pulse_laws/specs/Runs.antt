-- Calls one after the other, and the measures that the demands speak of.
-- Assumes nothing.
use Rattle.std.specs.Prelude.{ℕ, zero, suc, ◌+◌, ◌-◌, ◌*◌, ◌/◌, ◌%◌, min, max, Bool, true, false, not, ◌&&◌, ◌||◌, if◌then◌else◌}
use Rattle.std.specs.Prelude.{List, [], ◌∷◌, ◌++◌, ◌↔◌, ◌≢◌, ◌≡◌, replicate}
use Rattle.numbers.specs.Choice.{◌≡ᵇ◌, ◌≤ᵇ◌}
use Rattle.pulse_codes.specs.Arguments.{is_waiting}
use Rattle.pulse_codes.specs.Codes.{ignored, is_report, report_error, report_next_bit, report_status, soft_reset}
use Rattle.pulse_parts.specs.declared.cartridge.Cartridge.{Cartridge}
use Rattle.pulse_parts.specs.declared.fault.Fault.{Fault}
use Rattle.pulse_parts.specs.declared.head.Head.{Head}
use Rattle.pulse_parts.specs.Heads.{held_at, is_run}
use Rattle.pulse_parts.specs.Reports.{is_open}
use Rattle.pulse.specs.declared.drive.Drive.{Drive}
use Rattle.pulse.specs.Calls.{Step, rules_broken, insert_call, not_refused, remove_call, tick_call, train_call}
use Rattle.pulse.specs.Drives.{power_on}
use Rattle.pulse.specs.Rules.{in_ranges}

-- the drives that accepted calls lead to from power-on, with any vendor and ROM (a wait call leads to none but these: WaitReaches)
pub data Reachable : Drive → Type 0 where
  at_power_on : (vendor rom : ℕ) → Reachable (power_on vendor rom)
  by_train : (d : Drive) (n : ℕ) → Reachable d → (train_call d n).number ≡ not_refused → Reachable (train_call d n).drive
  by_tick : (d : Drive) → Reachable d → (tick_call d).number ≡ not_refused → Reachable (tick_call d).drive
  by_insertion : (d : Drive) (cart : Cartridge) (place : ℕ) → Reachable d → (insert_call d cart place).number ≡ not_refused →
      Reachable (insert_call d cart place).drive
  by_removal : (d : Drive) → Reachable d → (remove_call d).number ≡ not_refused → Reachable (remove_call d).drive

-- the drive after k tick calls
unfoldable pub after_ticks : ℕ → Drive → Drive
after_ticks zero d = d
after_ticks (suc k) d = (tick_call (after_ticks k d)).drive

-- the answers to trains that are sent one by one
unfoldable pub answers : Drive → List ℕ → List Step
answers d [] = []
answers d (n ∷ ns) = train_call d n ∷ answers (train_call d n).drive ns

-- the drive after them
unfoldable pub after_trains : Drive → List ℕ → Drive
after_trains d [] = d
after_trains d (n ∷ ns) = after_trains (train_call d n).drive ns

-- the answers to trains that are sent at any pace: `pauses 0` ticks before the first, `pauses 1` before the second, and so on
unfoldable pub paced_answers : (ℕ → ℕ) → Drive → List ℕ → List Step
paced_answers pauses d [] = []
paced_answers pauses d (n ∷ ns) =
    train_call (after_ticks (pauses 0) d) n ∷ paced_answers (λ i. pauses (suc i)) (train_call (after_ticks (pauses 0) d) n).drive ns

-- the drive after them
unfoldable pub after_paced : (ℕ → ℕ) → Drive → List ℕ → Drive
after_paced pauses d [] = d
after_paced pauses d (n ∷ ns) = after_paced (λ i. pauses (suc i)) (train_call (after_ticks (pauses 0) d) n).drive ns

-- so many 2s
abbrev pub next_bits : ℕ → List ℕ
next_bits k = replicate k report_next_bit

-- 2s that close any report: at most seventeen items, and a repeat
abbrev pub closing : ℕ
closing = 18

-- 2s that read out the status, and those that read out the error: the bits and the final 1
abbrev pub status_items : ℕ
status_items = 9

abbrev pub error_items : ℕ
error_items = 17

abbrev pub before_error_report : List ℕ
before_error_report = next_bits closing ++ (report_status ∷ next_bits status_items)

abbrev pub error_report : List ℕ
error_report = report_error ∷ next_bits error_items

-- 01: "Recovery: eighteen 2s; 6, nine 2s; 7, seventeen 2s; 46 trains."
abbrev pub recovery_trains : List ℕ
recovery_trains = before_error_report ++ error_report

-- as many ticks as a track has segments
abbrev pub silent_ticks : Drive → ℕ
silent_ticks d = d.cart.segments

-- the lowest k bits of a number, the lowest first
unfoldable pub bits_of : ℕ → ℕ → List Bool
bits_of zero value = []
bits_of (suc k) value = (value % 2 ≡ᵇ 1) ∷ bits_of k (value / 2)

-- what a 7 and the 2s after it answer: 1, then error and command, lowest bit first, then the final 1
abbrev pub spelled : Fault → List Bool
spelled f = true ∷ (bits_of 16 (f.error + f.command * 256) ++ (true ∷ []))

-- how far the tape is from its target
unfoldable pub distance : Drive → ℕ
distance d = (d.head.target - d.head.place) + (d.head.place - d.head.target)

-- k places from one toward another, and no further
unfoldable pub place_after : ℕ → ℕ → ℕ → ℕ
place_after k place target =
    if place ≤ᵇ target then min (place + k) target else
    max (place - k) target

-- the trains that name a level: an item of a report or its end, a 2 alone, a report that opens (steps 3, 4 and 6)
abbrev pub names_level : Drive → ℕ → Bool
names_level d n =
    not (n ≡ᵇ soft_reset) && not (is_waiting d.waiting)
    && (if is_open d.report then not (ignored n) else (n ≡ᵇ report_next_bit) || is_report n)

-- what a train that starts nothing leaves of a head: place, target, track and motion as they were, or a run that is stopped where it stands
pub data NotStarted (before after : Head) : Type 0 where
  as_it_was : after ≡ before → NotStarted before after
  run_stopped : is_run before.motion ≡ true → after ≡ held_at before → NotStarted before after

-- a refusal answers level 0 and alters nothing
abbrev pub KeepsIfRefused : Drive → Step → Type 0
KeepsIfRefused d s = s.number ≢ not_refused → (s.level ≡ false) × (s.drive ≡ d)

-- 01: "cartridge description outside its ranges", of which its place is one
abbrev pub outside_its_ranges : Cartridge → ℕ → Bool
outside_its_ranges cart place = not (in_ranges cart && (place ≤ᵇ cart.segments))

-- 01: "Pulse order: 8, then 7 or 5, then 6."; 02, A5: "8, then 5 .., then 4": each number exactly under its condition with no earlier one
-- holding, 0 exactly under none
pub record Exactly (number : ℕ) (broken : Bool) (second : ℕ) (second_holds : Bool) (third : ℕ) (third_holds : Bool) : Type 0 where
  pub eight : (number ≡ rules_broken) ↔ (broken ≡ true)
  pub next : (number ≡ second) ↔ ((broken ≡ false) × (second_holds ≡ true))
  pub last : (number ≡ third) ↔ ((broken ≡ false) × (second_holds ≡ false) × (third_holds ≡ true))
  pub zero : (number ≡ not_refused) ↔ ((broken ≡ false) × (second_holds ≡ false) × (third_holds ≡ false))
