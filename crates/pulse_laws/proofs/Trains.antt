-- Power-on, every train, ticks, insertion and removal keep the rules.
-- Assumes nothing.
use Prim.Native.Nat.{ℕ, zero, suc}
use mathlib.Core.Bool.{Bool, true, false, not, ◌&&◌, or-true}
use mathlib.Core.Path.{◌≡◌, refl, sym, ◌∙◌, ap}
use Rattle.std.specs.Prelude.{Option, Some, None}
use borrow.Author.Tests.{leb-true}
use Rattle.numbers.specs.Choice.{◌<ᵇ◌, ◌≡ᵇ◌, ◌≤ᵇ◌}
use Rattle.numbers.specs.Member.{is_in}
use Rattle.numbers.proofs.Cases.{ands, either, never}
use Rattle.pulse_codes.specs.declared.arguments.Waiting.{Waiting}
use Rattle.pulse_codes.specs.Arguments.{is_waiting}
use Rattle.pulse_codes.specs.Codes.{report_vendor}
use Rattle.pulse_codes.specs.Errors.{cartridge_missing, undefined_command}
use Rattle.pulse_parts.specs.declared.cartridge.Cartridge.{Cartridge}
use Rattle.pulse_parts.specs.declared.head.Motion.{Motion}
use Rattle.pulse_parts.specs.Faults.{error_held, no_command}
use Rattle.pulse_parts.specs.Heads.{is_run, standing_at, toward}
use Rattle.pulse_parts.specs.Marking.{new_marks}
use Rattle.pulse.specs.declared.drive.Drive.{Drive}
use Rattle.pulse.specs.Drives.{is_ready, power_on, with_head, without_arguments}
use Rattle.pulse.specs.Events.{emptied, exchanged, inserted, removed, run_for}
use Rattle.pulse.specs.Motions.{arrived, latched, load_started, stopped, ticked}
use Rattle.pulse.specs.Reports.{step_open_report, step_report}
use Rattle.pulse.specs.Rules.{in_ranges}
use Rattle.pulse.specs.Train.{cleared, step_reset, step_unsupported, train_step}
use Rattle.pulse_laws.proofs.Arguments.{argument_rules}
use Rattle.pulse_laws.proofs.Commands.{command_rules}
use Rattle.pulse_laws.proofs.Idle.{Awaits, Idle, idle_rules, latch_idle, load_waiting}
use Rattle.pulse_laws.proofs.Motion.{ended, latch_calm, load_calm, nearer, stop_calm, tick_calm}
use Rattle.pulse_laws.proofs.Reports.{in_report_idle, open_report_idle}
use Rattle.pulse_laws.proofs.Rules.{Calm, Cart, Moves, Rules, Within, bare, full, loads, rests, runs}
use Rattle.pulse_laws.proofs.Steps.{Taken, by_argument, by_command, by_next_bit, by_unsupported, by_opening, by_report, by_reset, train_taken}

pub power_rules : (vendor rom : ℕ) → Rules (power_on vendor rom)
unfolding power_on is_in
power_rules vendor rom = (
  record {
    cart = bare refl (record { none = refl; place = refl; target = refl; track = refl; referenced = refl; fresh = refl });
    motion = rests refl refl;
    rate = refl;
    error = refl;
    report = refl;
    held = refl;
  },
  refl,
)

-- ---- ticks
pub ticked_waiting : (d : Drive) → (ticked d).waiting ≡ None
unfolding ticked arrived
ticked_waiting d =
    either (Awaits None) (is_ready d) _ _ (λ e. refl)
    (λ e.
    either (Awaits None) (toward d.head.place d.head.target ≡ᵇ d.head.target) _ _
    (λ f. ended (Awaits None) d.head.motion (with_head (without_arguments d) (nearer d.head)) (λ s. refl) (λ s. refl) (λ s. refl))
    (λ f. refl))

pub tick_rules : (d : Drive) → Rules d → Rules (ticked d)
tick_rules d r = idle_rules (ticked d) (tick_calm d r.0, ticked_waiting d)

pub run_rules : (k : ℕ) (d : Drive) → Rules d → Rules (run_for k d)
unfolding run_for
run_rules zero d r = r
run_rules (suc k) d r = tick_rules (run_for k d) (run_rules k d r)

-- ---- insertion and removal
new_within : (c : Cartridge) (place : ℕ) → (in_ranges c && (place ≤ᵇ c.segments)) ≡ true → Within c place place 0
new_within c place e =
    let p = leb-true place c.segments (search ands) in
    let t : (1 ≤ᵇ c.tracks) ≡ true = search ands depth 8 in
    record { ranges = search ands; place = p; target = p; track = leb-true 1 c.tracks t }

pub insert_rules : (d : Drive) (c : Cartridge) (place : ℕ) → (in_ranges c && (place ≤ᵇ c.segments)) ≡ true → Rules d → Rules (inserted d c place)
unfolding inserted
insert_rules d c place e r =
    idle_rules (load_started x) (load_calm x calm refl, load_waiting x)
  where
    x : Drive
    x = exchanged d c (standing_at place) new_marks

    calm : Calm x
    calm =
        record {
          cart = full refl (new_within c place e);
          motion = rests refl refl;
          rate = r.0.rate;
          error = r.0.error;
          report = refl;
          held = or-true (not (error_held d.fault));
        }

empty_rules : (d : Drive) → Calm d → Rules (emptied d)
empty_rules d r = (
  record {
    cart = bare refl (record { none = refl; place = refl; target = refl; track = refl; referenced = refl; fresh = refl });
    motion = rests refl refl;
    rate = r.rate;
    error = r.error;
    report = refl;
    held = or-true (not (error_held d.fault));
  },
  refl,
)

pub remove_rules : (d : Drive) → Rules d → Rules (removed d)
unfolding removed is_in
remove_rules d r =
    either Rules (is_ready d) _ _ (λ e. empty_rules d r.0)
    (λ e. empty_rules (latched d cartridge_missing no_command) (latch_calm d cartridge_missing no_command refl r.0))

-- ---- trains
cleared_cart : {c : Cartridge} {s t k : ℕ} {i r f : Bool} → Cart c s t k i r f → Cart c s t k i false f
cleared_cart (full p w) = full p w
cleared_cart (bare p w) = bare p (record { none = w.none; place = w.place; target = w.target; track = w.track; referenced = refl; fresh = w.fresh })

cleared_idle : (d : Drive) → Calm d → is_run d.head.motion ≡ false → Idle (cleared d)
unfolding is_in
cleared_idle d r e =
    (record { cart = cleared_cart r.cart; motion = r.motion; rate = r.rate; error = refl; report = refl; held = rw e }, refl)

-- without a cartridge nothing runs
no_run : {c : Cartridge} {s t k : ℕ} {i r f : Bool} {m : Motion} → Cart c s t k i r f → i ≡ false → Moves m s t → is_run m ≡ false
no_run (full p w) e m = never p e
no_run (bare p w) e (rests q x) = ap is_run q
no_run (bare p w) e (runs q n) = absurd (n (w.place ∙ sym w.target))
no_run (bare p w) e (loads q z n) = ap is_run q

-- the load after a reset starts from where the tape stands, whatever moved it
reset_rules : (d : Drive) → Rules d → Rules (step_reset d)
unfolding step_reset load_started
reset_rules d r =
    either Rules d.marks.inside _ _ (λ e. idle_rules (load_started x) (load_calm x y.0 e, load_waiting x))
    (λ e. idle_rules (cleared d) (cleared_idle d r.0 (no_run r.0.cart e r.0.motion)))
  where
    x : Drive
    x = cleared (stopped d)

    y : Idle x
    y = cleared_idle (stopped d) (stop_calm d r.0) refl

-- where no argument is waited for
idle : (d : Drive) → Rules d → is_waiting d.waiting ≡ false → Idle d
idle d r e = (r.0, nothing d.waiting e)
  where
    nothing : (w : Option Waiting) → is_waiting w ≡ false → w ≡ None
    nothing None e = refl
    nothing (Some a) e = never refl e

unsupported_rules : (d : Drive) (n : ℕ) → Rules d → Idle d → Rules (step_unsupported d n)
unfolding step_unsupported is_in
unsupported_rules d n r i =
    either Rules (n <ᵇ report_vendor) _ _ (λ l. idle_rules (latched d undefined_command n) (latch_idle d undefined_command n refl i)) (λ l. r)

taken_rules : (d : Drive) (n : ℕ) {x : Drive} → Rules d → Taken d n x → Rules x
taken_rules d n r (by_reset e) = reset_rules d r
taken_rules d n r (by_argument e w) = argument_rules d n r
taken_rules d n r (by_report e w o) = idle_rules (step_report d n) (in_report_idle d n o (idle d r w))
taken_rules d n r (by_next_bit h f) = r
taken_rules d n r (by_unsupported h) = unsupported_rules d n r (idle d r h.waiting)
taken_rules d n r (by_opening h p) = idle_rules (step_open_report d n) (open_report_idle d n (idle d r h.waiting))
taken_rules d n r (by_command h c) = command_rules d n (idle d r h.waiting) c h.report

pub train_rules : (d : Drive) (n : ℕ) → Rules d → Rules (train_step d n)
train_rules d n r = taken_rules d n r (train_taken d n)
