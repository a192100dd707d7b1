-- What is demanded of the pulse drive: each demand is one type, proved under the same name in proofs/.
-- Assumes nothing.
use Rattle.std.specs.Prelude.{ℕ, ◌-◌, ◌≤◌, min, true, false, not, ◌||◌, List, map, ◌≢◌, ◌≡◌, drop, length, replicate, Result}
use Rattle.numbers.specs.declared.refusals.Refusal.{Refusal}
use Rattle.numbers.specs.Choice.{◌≡ᵇ◌, ◌<ᵇ◌}
use Rattle.numbers.specs.Member.{is_in}
use Rattle.numbers.specs.Outcomes.{Settles}
use Rattle.pulse_codes.specs.Codes.{soft_reset}
use Rattle.pulse_codes.specs.Errors.{no_error}
use Rattle.pulse_parts.specs.declared.cartridge.Cartridge.{Cartridge}
use Rattle.pulse_parts.specs.Faults.{error_held}
use Rattle.pulse.specs.declared.calls.Waited.{Waited as Passed}
use Rattle.pulse.specs.declared.drive.Drive.{Drive}
use Rattle.pulse.specs.Calls.{Step, already_so, empty_train, insert_call, not_refused, outside_ranges, refused, remove_call, tick_call, train_call, wait_call}
use Rattle.pulse.specs.Calls.{told, told_wait, InsertPromise, PowerOnPromise, RemovePromise, TickPromise, TrainPromise, WaitPromise}
use Rattle.pulse.specs.Drives.{is_ready, power_on}
use Rattle.pulse.specs.Rules.{keeps_rules, max_segments}
use Rattle.pulse.specs.Trains.{TrainsPromise, sent, short_levels, trains_call}
use Rattle.pulse_laws.specs.Plates.{all_print, plates}
use Rattle.pulse_laws.specs.Runs.{Exactly, KeepsIfRefused, NotStarted, Reachable, names_level, outside_its_ranges}
use Rattle.pulse_laws.specs.Runs.{after_paced, after_ticks, after_trains, answers, distance, paced_answers, place_after}
use Rattle.pulse_laws.specs.Runs.{before_error_report, recovery_trains, silent_ticks, spelled}

-- 01: "Every record that power-on or a call gives keeps the record rules."
pub record RulesKept : Type 0 where
  pub by_power_on : (vendor rom : ℕ) → keeps_rules (power_on vendor rom) ≡ true
  pub train : (d : Drive) (n : ℕ) → keeps_rules d ≡ true → keeps_rules (train_call d n).drive ≡ true
  pub tick : (d : Drive) → keeps_rules d ≡ true → keeps_rules (tick_call d).drive ≡ true
  pub insert : (d : Drive) (cart : Cartridge) (place : ℕ) → keeps_rules d ≡ true → keeps_rules (insert_call d cart place).drive ≡ true
  pub remove : (d : Drive) → keeps_rules d ≡ true → keeps_rules (remove_call d).drive ≡ true
  pub wait : (d : Drive) (limit : ℕ) → keeps_rules d ≡ true → keeps_rules (wait_call d limit).drive ≡ true
  pub trains : (d : Drive) (counts levels : List ℕ) → keeps_rules d ≡ true → keeps_rules (trains_call d counts levels).step.drive ≡ true

-- 01: "A refusal returns its number, .. (pulse calls: level 0, 0 ticks), and alters nothing"
pub record RefusedKeeps : Type 0 where
  pub train : (d : Drive) (n : ℕ) → KeepsIfRefused d (train_call d n)
  pub tick : (d : Drive) → KeepsIfRefused d (tick_call d)
  pub insert : (d : Drive) (cart : Cartridge) (place : ℕ) → KeepsIfRefused d (insert_call d cart place)
  pub remove : (d : Drive) → KeepsIfRefused d (remove_call d)
  pub wait : (d : Drive) (limit : ℕ) → (wait_call d limit).number ≢ not_refused →
      ((wait_call d limit).level ≡ false) × ((wait_call d limit).ticks ≡ 0) × ((wait_call d limit).drive ≡ d)
  -- 02, A5: "then nothing is sent"
  pub trains : (d : Drive) (counts levels : List ℕ) → (trains_call d counts levels).step.number ≢ not_refused →
      trains_call d counts levels ≡ sent (refused d (trains_call d counts levels).step.number) levels

-- 01: "Given exactly when"; "Pulse order: 8, then 7 or 5, then 6."
pub record NumberExactly : Type 0 where
  pub train : (d : Drive) (n : ℕ) → Exactly (train_call d n).number (not (keeps_rules d)) empty_train (n ≡ᵇ 0) outside_ranges false
  pub tick : (d : Drive) → Exactly (tick_call d).number (not (keeps_rules d)) empty_train false outside_ranges false
  pub insert : (d : Drive) (cart : Cartridge) (place : ℕ) →
      Exactly (insert_call d cart place).number (not (keeps_rules d)) already_so d.marks.inside outside_ranges (outside_its_ranges cart place)
  pub remove : (d : Drive) → Exactly (remove_call d).number (not (keeps_rules d)) already_so (not d.marks.inside) outside_ranges false
  pub wait : (d : Drive) (limit : ℕ) → Exactly (wait_call d limit).number (not (keeps_rules d)) empty_train false outside_ranges false
  -- 02, A5: "8, then 5 if any count is 0, then 4 if the level buffer is shorter than the list"
  pub trains : (d : Drive) (counts levels : List ℕ) →
      Exactly (trains_call d counts levels).step.number (not (keeps_rules d)) empty_train (is_in 0 counts) short_levels (length levels <ᵇ length counts)

-- 01 shuts out "a tick that does nothing, or a first tick that jumps to the target while later ones pretend (the place is fixed after each tick)"
abbrev pub TickPlace : Type 0
TickPlace =
    (d : Drive) (k : ℕ) → keeps_rules d ≡ true →
    ((tick_call (after_ticks k d)).number ≡ not_refused)
    × ((after_ticks k d).head.place ≡ place_after k d.head.place d.head.target)
    × ((after_ticks k d).head.target ≡ d.head.target)
    × (distance (after_ticks k d) ≡ distance d - k)

-- 01: "A wait call ticks until ready or a limit, and its answer counts the ticks: the smaller of limit and distance left."
abbrev pub WaitCounts : Type 0
WaitCounts =
    (d : Drive) (limit : ℕ) → keeps_rules d ≡ true →
    ((wait_call d limit).number ≡ not_refused)
    × ((wait_call d limit).ticks ≡ min limit (distance d))
    × ((wait_call d limit).drive ≡ after_ticks (wait_call d limit).ticks d)

-- a wait call leads to no drive that ticks do not lead to
abbrev pub WaitReaches : Type 0
WaitReaches = (d : Drive) (limit : ℕ) → Reachable d → Reachable (wait_call d limit).drive

-- 01: "A train or event with no level named below keeps the level."
pub record LevelKept : Type 0 where
  pub train : (d : Drive) (n : ℕ) → names_level d n ≡ false → (train_call d n).drive.level ≡ d.level
  pub tick : (d : Drive) → (tick_call d).drive.level ≡ d.level
  pub insert : (d : Drive) (cart : Cartridge) (place : ℕ) → (insert_call d cart place).drive.level ≡ d.level
  pub remove : (d : Drive) → (remove_call d).drive.level ≡ d.level
  pub wait : (d : Drive) (limit : ℕ) → (wait_call d limit).drive.level ≡ d.level

-- "the 46 recovery trains leave the drive ready, with no error, no new mark and no open report; their bits name the error that was held;
-- the tape stands still": after each of the trains, and at the end; `told` are their answers
pub record Regained (told : List Step) (before rested last : Drive) : Type 0 where
  pub answered : map (λ (s : Step). s.number) told ≡ replicate 46 not_refused
  pub ready : is_ready last ≡ true
  pub errorless : last.fault.error ≡ no_error
  pub known : last.marks.fresh ≡ false
  pub closed : last.report.left ≡ 0
  pub named : map (λ (s : Step). s.level) (drop (length before_error_report) told) ≡ spelled before.fault
  pub stood : map (λ (s : Step). s.drive.head) told ≡ replicate 46 rested.head
  pub stands : last.head ≡ rested.head

-- a workstation that has lost its place may not know G, and 46 trains take time: any number of silent ticks from G up, and any number before each train
pub record RecoversAtAnyPace : Type 0 where
  pub paced : (d : Drive) (k : ℕ) (pauses : ℕ → ℕ) → keeps_rules d ≡ true → d.marks.inside ≡ true → silent_ticks d ≤ k →
      Regained (paced_answers pauses (after_ticks k d) recovery_trains) d (after_ticks k d) (after_paced pauses (after_ticks k d) recovery_trains)
  -- so that 4,095 always do
  pub enough : (d : Drive) → keeps_rules d ≡ true → d.marks.inside ≡ true → silent_ticks d ≤ max_segments

-- the trains sent without a pause
abbrev pub Recovered : Drive → Drive → Drive → Type 0
Recovered before rested last = Regained (answers rested recovery_trains) before rested last

-- "From any reachable pulse state with a cartridge in: after as many silent ticks as a track has segments, the 46 recovery trains .."
abbrev pub Recovers : Type 0
Recovers =
    (d : Drive) → Reachable d → d.marks.inside ≡ true →
    Recovered d (after_ticks (silent_ticks d) d) (after_trains (after_ticks (silent_ticks d) d) recovery_trains)

-- "While an error or that mark stands, no train but soft reset starts the tape.": moving or not, a load goes on to 0 and nothing else begins
abbrev pub OnlyResetStarts : Type 0
OnlyResetStarts =
    (d : Drive) (n : ℕ) → keeps_rules d ≡ true → (error_held d.fault || d.marks.fresh) ≡ true → n ≢ soft_reset →
    NotStarted d.head (train_call d n).drive.head

-- 01: "Prove that any two outcomes allowed by it coincide"
pub record Settled : Type 0 where
  pub by_power_on : (vendor rom : ℕ) → Settles (PowerOnPromise vendor rom)
  pub train : (d : Drive) (n : ℕ) → Settles (TrainPromise d n)
  pub tick : (d : Drive) → Settles (TickPromise d)
  pub insert : (d : Drive) (cart : Cartridge) (place : ℕ) → Settles (InsertPromise d cart place)
  pub remove : (d : Drive) → Settles (RemovePromise d)
  pub wait : (d : Drive) (limit : ℕ) → Settles (WaitPromise d limit)
  pub trains : (d : Drive) (counts levels : List ℕ) → Settles (TrainsPromise d counts levels)
  -- and what a call on d tells gives back its result
  pub results : (d : Drive) (r r' : Result Drive Refusal) → told d r ≡ told d r' → r ≡ r'
  pub waits : (d : Drive) (r r' : Result Passed Refusal) → told_wait d r ≡ told_wait d r' → r ≡ r'

-- 01: "A small set is proved together as one table (*)"
abbrev pub PlatesPrint : Type 0
PlatesPrint = all_print plates ≡ true
