-- Every call of the pulse drive leaves numbers that fit their bytes.
-- Assumes nothing.
use Rattle.std.specs.Prelude.{Option, Some, None}
use mathlib.Core.Path.{◌≡◌, refl}
use mathlib.Core.Bool.{Bool, true, false, not, ◌&&◌, ◌||◌}
use mathlib.Core.List.{List, [], ◌∷◌}
use Prim.Native.Nat.{ℕ, zero, suc, ◌+◌, ◌-◌, ◌^◌, ◌<◌, ◌≤◌}
use native.Mathlib.Nat.{pow-le-pow_right, zero-lt-suc}
use native.Mathlib.Omega.{arith}
use borrow.Author.Tests.{eqb-true, eqb-false, ne_eqb, leb-true, leb-false, ltb-true, ltb-false, not-false}
use Rattle.numbers.specs.Choice.{◌≡ᵇ◌, ◌<ᵇ◌, ◌≤ᵇ◌}
use Rattle.numbers.proofs.Cases.{ands, either, test}
use Rattle.numbers.proofs.MemberLaws.{largest, in_largest}
use Rattle.pulse_codes.specs.declared.arguments.Waiting.{Waiting}
use Rattle.pulse_codes.specs.Arguments.{highest_nibble, highest_rate, in_range, joined, needed, nibble_of}
use Rattle.pulse_codes.specs.Codes.{ignored, logical_forward, needs_cartridge, needs_reference, pause, physical_forward, physical_reverse}
use Rattle.pulse_codes.specs.Codes.{report_configuration, report_error, report_next_bit, report_rom, report_status, report_vendor, seek_load_point, seek_track}
use Rattle.pulse_codes.specs.Codes.{select_rate, skip_extended_reverse, skip_reverse, soft_reset, stop_tape, stops_motion, supported}
use Rattle.pulse_codes.specs.Errors.{admitted_errors, cartridge_missing, illegal_in_report, illegal_track, new_cartridge_pending, no_error, not_ready}
use Rattle.pulse_codes.specs.Errors.{not_referenced, software_reset, undefined_command}
use Rattle.pulse_parts.specs.declared.cartridge.Cartridge.{Cartridge}
use Rattle.pulse_parts.specs.declared.fault.Fault.{Fault}
use Rattle.pulse_parts.specs.declared.head.Head.{Head}
use Rattle.pulse_parts.specs.declared.marks.Marks.{Marks}
use Rattle.pulse_parts.specs.declared.reports.Report.{Report}
use Rattle.pulse_parts.specs.Cartridges.{no_cartridge}
use Rattle.pulse_parts.specs.Faults.{error_held, no_command}
use Rattle.pulse_parts.specs.Heads.{at_start, is_run, is_still, standing_at}
use Rattle.pulse_parts.specs.Marking.{new_marks, no_marks}
use Rattle.pulse_parts.specs.Reports.{extra_length, items_left, no_report, owing, qic80, status_bits, configuration_bits, tape_bits}
use Rattle.pulse.specs.declared.drive.Drive.{Drive}
use Rattle.pulse.specs.Arguments.{argument_for, argument_or, argument_read, argument_taken, nibble_taken, skipped, step_argument, track_sought}
use Rattle.pulse.specs.Calls.{Step, Waited, insert_call, not_refused, remove_call, tick_call, train_call, wait_call}
use Rattle.pulse.specs.Commands.{checked, obeyed, step_command}
use Rattle.pulse.specs.Drives.{is_ready, power_on, with_fault, with_level, with_report, with_waiting, without_arguments}
use Rattle.pulse.specs.Events.{exchanged, inserted, removed, run_for, steps_to}
use Rattle.pulse.specs.Motions.{arrived, latched, load_started, run_started, stopped, ticked}
use Rattle.pulse.specs.Reports.{error_read, item_given, opened, report_broken, report_of, status_asked, step_open_report, step_report}
use Rattle.pulse.specs.Rules.{max_format, max_kind}
use Rattle.pulse.specs.Train.{cleared, step_reset, step_unsupported, train_step}
use Rattle.pulse.specs.Trains.{trains_call}
use Rattle.pulse_laws.specs.Runs.{after_trains}
use Rattle.pulse_laws.proofs.Answers.{refused_keeps}
use Rattle.pulse_laws.proofs.Calls.{insert_by, remove_by, tick_by, train_by, wait_by}
use Rattle.pulse_laws.proofs.Commands.{supported_low}
use Rattle.pulse_laws.proofs.Lists.{list_is_singles}
use Rattle.pulse_laws.proofs.Motion.{ended}
use Rattle.pulse_laws.proofs.Rules.{Calm, Cart, bare, full, to_rules}
use Rattle.pulse_laws.proofs.Steps.{Taken, by_argument, by_command, by_next_bit, by_unsupported, by_opening, by_report, by_reset, train_taken}
use Rattle.card_laws.specs.Promises.{FitsBytes, HeldAlone}
use Rattle.card_laws.proofs.ByteLaws.{weight_most}

-- a drive of which only the numbers that must fit are kept: a step that leaves these leaves their facts
abbrev numbers_of : Drive → Drive
numbers_of d =
    record {
      cart = no_cartridge;
      head = at_start;
      marks = no_marks;
      fault = record { error = no_error; command = d.fault.command };
      report = record { left = d.report.left; bits = d.report.bits; repeat = false };
      waiting = d.waiting;
      rate = 0;
      level = false;
      vendor = d.vendor;
      rom = d.rom;
    }

abbrev Fit : Drive → Type 0
Fit d = FitsBytes (numbers_of d)

to_fit : (d : Drive) → FitsBytes d → Fit d
to_fit d f = record { vendor = f.vendor; rom = f.rom; command = f.command; bits = f.bits; closed = f.closed; held = f.held }

of_fit : (d : Drive) → Fit d → FitsBytes d
of_fit d f = record { vendor = f.vendor; rom = f.rom; command = f.command; bits = f.bits; closed = f.closed; held = f.held }

-- bits that fit, and none where no item is left
abbrev Sound : Report → Type 0
Sound r = (r.bits < 2 ^ 16) × (r.left ≡ 0 → r.bits ≡ 0)

-- ---- parts replaced, motions and errors

module _ (d : Drive) (f : Fit d) where
  fault_fit : (error command : ℕ) → command < 2 ^ 8 → Fit (with_fault d error command)
  fault_fit error command l = record { vendor = f.vendor; rom = f.rom; command = l; bits = f.bits; closed = f.closed; held = f.held }

  report_fit : (r : Report) → Sound r → Fit (with_report d r)
  report_fit r s = record { vendor = f.vendor; rom = f.rom; command = f.command; bits = s.0; closed = s.1; held = f.held }

  waiting_fit : (w : Option Waiting) → HeldAlone w → Fit (with_waiting d w)
  waiting_fit w h = record { vendor = f.vendor; rom = f.rom; command = f.command; bits = f.bits; closed = f.closed; held = h }

  unasked_fit : Fit (without_arguments d)
  unasked_fit = waiting_fit None tt

  shut_fit : Fit (with_report d no_report)
  shut_fit = report_fit no_report (omega arith, λ e. refl)

  load_fit : Fit (load_started d)
  unfolding load_started
  load_fit = either Fit (d.head.place ≡ᵇ 0) _ _ (λ e. f) (λ e. f)

  run_fit : (target : ℕ) → Fit (run_started d target)
  unfolding run_started
  run_fit target = either Fit (d.head.place ≡ᵇ target) _ _ (λ e. f) (λ e. f)

  latch_fit : (error command : ℕ) → command < 2 ^ 8 → Fit (latched d error command)
  unfolding latched
  latch_fit error command l =
      let x = fault_fit error command l in
      either Fit (error_held d.fault) _ _ (λ p. f) (λ p. either Fit (is_run d.head.motion) _ _ (λ q. x) (λ q. x))

  arrive_fit : Fit (arrived d)
  unfolding arrived
  arrive_fit =
      either Fit (d.head.place ≡ᵇ d.head.target) _ _ (λ e. ended Fit d.head.motion d (λ s. f) (λ s. f) (λ s. f)) (λ e. f)

-- report and arguments are dropped
dropped_fit : (d : Drive) → Fit d → Fit (with_report (without_arguments d) no_report)
dropped_fit d f = shut_fit (without_arguments d) (unasked_fit d f)

-- ---- ticks, insertion and removal

tick_fit : (d : Drive) → Fit d → Fit (ticked d)
unfolding ticked
tick_fit d f = let x = unasked_fit d f in either Fit (is_ready d) _ _ (λ e. x) (λ e. arrive_fit _ x)

ticks_fit : (k : ℕ) (d : Drive) → Fit d → Fit (run_for k d)
unfolding run_for
ticks_fit zero d f = f
ticks_fit (suc k) d f = tick_fit (run_for k d) (ticks_fit k d f)

insert_fit : (d : Drive) (cart : Cartridge) (place : ℕ) → Fit d → Fit (inserted d cart place)
unfolding inserted
insert_fit d cart place f = load_fit (exchanged d cart (standing_at place) new_marks) (dropped_fit d f)

remove_fit : (d : Drive) → Fit d → Fit (removed d)
unfolding removed
remove_fit d f =
    either Fit (is_ready d) _ _ (λ e. dropped_fit d f)
    (λ e. dropped_fit (latched d cartridge_missing no_command) (latch_fit d f cartridge_missing no_command (omega arith)))

-- ---- step 1 of a train: a reset

reset_fit : (d : Drive) → Fit d → Fit (step_reset d)
unfolding step_reset
reset_fit d f =
    let x = fault_fit (with_report (without_arguments d) no_report) (dropped_fit d f) software_reset soft_reset (omega arith) in
    either Fit d.marks.inside _ _ (λ e. load_fit (cleared d) x) (λ e. x)

-- ---- step 2: an argument

-- one nibble more fits one more
joined_low : (low held nibble : ℕ) → nibble ≤ highest_nibble → joined low held nibble < 16 ^ (held + 1)
joined_low low zero nibble l = omega arith
joined_low low (suc zero) nibble l = omega arith
joined_low low (suc (suc k)) nibble l =
    let three : 3 ≤ suc (suc k) + 1 = omega arith in
    rw (ne_eqb (suc (suc k)) 0 (λ e. omega arith), ne_eqb (suc (suc k)) 1 (λ e. omega arith))
    (omega (arith, pow-le-pow_right (zero-lt-suc 15) three))

module _ (d : Drive) (f : Fit d) (code held low : ℕ) where
  track_fit : (track : ℕ) → Fit (track_sought (without_arguments d) track)
  unfolding track_sought
  track_fit track =
      let x = unasked_fit d f in
      either Fit (track <ᵇ d.cart.tracks) _ _ (λ l. x) (λ l. latch_fit (without_arguments d) x illegal_track seek_track (omega arith))

  nibble_fit : (nibble : ℕ) → nibble ≤ highest_nibble → Fit (nibble_taken d code held low nibble)
  unfolding nibble_taken skipped
  nibble_fit nibble l =
      let run = run_fit (without_arguments d) (unasked_fit d f) in
      either Fit (held + 1 <ᵇ needed code) _ _
      (λ m. waiting_fit d f (Some record { code = code; held = held + 1; value = joined low held nibble }) (joined_low low held nibble l))
      (λ m. either Fit ((code ≡ᵇ skip_reverse) || (code ≡ᵇ skip_extended_reverse)) _ _ (λ b. run _) (λ b. run _))

  value_fit : (value : ℕ) → in_range code value ≡ true → Fit (argument_taken d code held low value)
  unfolding argument_taken
  value_fit value e =
      either Fit (code ≡ᵇ seek_track) _ _ (λ p. track_fit value)
      (λ p. either Fit (code ≡ᵇ select_rate) _ _ (λ q. unasked_fit d f) (λ q. nibble_fit value (leb-true value highest_nibble (rw (p, q) at e))))

  read_fit : (n : ℕ) → Fit (argument_read d code held low n)
  unfolding argument_read nibble_of
  read_fit n = either (λ x. Fit (argument_or d code held low x)) (in_range code (n - 2)) _ _ (value_fit (n - 2)) (λ e. unasked_fit d f)

argument_fit : (w : Option Waiting) (d : Drive) (n : ℕ) → Fit d → Fit (argument_for w d n)
argument_fit None d n f = f
argument_fit (Some w) d n f = read_fit d f w.code w.held w.value n

-- ---- step 3: a train in an open report

items_sound : (r : Report) → r.bits < 2 ^ 16 → Sound (items_left r)
items_sound r l =
    either Sound (r.left ≤ᵇ 1) _ _ (λ e. (omega arith, λ z. refl)) (λ e. (omega arith, λ z. omega (arith, leb-false r.left 1 e)))

item_fit : (d : Drive) → Fit d → Fit (item_given d)
unfolding item_given
item_fit d f = either Fit d.report.repeat _ _ (λ e. f) (λ e. report_fit d f (items_left d.report) (items_sound d.report f.bits))

-- a code that is not ignored fits a byte
heeded_low : (n : ℕ) → ignored n ≡ false → n < 2 ^ 8
heeded_low n e = test (supported n) (λ s. omega (arith, supported_low n s)) (λ s. omega (arith, ltb-false report_vendor n (rw s at e)))

in_report_fit : (d : Drive) (n : ℕ) → Fit d → Fit (step_report d n)
unfolding step_report
in_report_fit d n f =
    either Fit (n ≡ᵇ report_next_bit) _ _ (λ e. item_fit d f)
    (λ e. either Fit (ignored n) (with_report d (owing d.report true)) (report_broken d n) (λ i. f)
    (λ i. latch_fit (with_level (with_report d no_report) false) (shut_fit d f) illegal_in_report n (heeded_low n i)))

-- ---- step 6: a report opens

status_low : (h : Head) (x : Fault) (m : Marks) (c : Cartridge) → status_bits h x m c < 2 ^ 16
status_low h x m c =
    omega (
      arith,
      weight_most (is_still h.motion) 1,
      weight_most (error_held x) 2,
      weight_most m.inside 4,
      weight_most c.protected 8,
      weight_most m.fresh 16,
      weight_most m.referenced 32,
      weight_most (m.inside && (h.place ≡ᵇ 0)) 64,
      weight_most (m.inside && (h.place ≡ᵇ c.segments)) 128,
    )

configuration_low : (rate : ℕ) (m : Marks) (c : Cartridge) → rate ≤ highest_rate → configuration_bits rate m c < 2 ^ 16
configuration_low rate m c l =
    omega (
      arith,
      weight_most (m.referenced && (c.kind ≡ᵇ extra_length)) 64,
      weight_most (m.referenced && (c.format ≡ᵇ qic80)) 128,
    )

-- no format or type is sent without a cartridge
tape_low : (m : Marks) (c : Cartridge) {s t k : ℕ} {i f : Bool} → Cart c s t k i m.referenced f → tape_bits m c < 2 ^ 16
tape_low m c (full p w) =
    let r = w.ranges in
    let format = leb-true c.format max_format (search ands depth 7) in
    let kind = leb-true c.kind max_kind (search ands depth 7) in
    let wide = weight_most c.wide 128 in
    either (λ x. x < 2 ^ 16) m.referenced _ _ (λ e. omega arith) (λ e. omega arith)
tape_low m c (bare p w) = rw w.referenced (omega (arith, weight_most c.wide 128))

module _ (d : Drive) (n : ℕ) (r : Calm d) (f : Fit d) where
  report_sound : Sound (report_of d n)
  unfolding report_of largest
  report_sound =
      let error : d.fault.error ≤ software_reset = in_largest d.fault.error admitted_errors r.error in
      either Sound (n ≡ᵇ report_status) _ _ (λ e. (status_low d.head d.fault d.marks d.cart, λ z. omega arith))
      (λ e. either Sound (n ≡ᵇ report_error) _ _ (λ e. (omega (arith, f.command), λ z. omega arith))
      (λ e. either Sound (n ≡ᵇ report_configuration) _ _
      (λ e. (configuration_low d.rate d.marks d.cart (leb-true _ _ r.rate), λ z. omega arith))
      (λ e. either Sound (n ≡ᵇ report_rom) _ _ (λ e. (omega (arith, f.rom), λ z. omega arith))
      (λ e. either Sound (n ≡ᵇ report_vendor) _ _ (λ e. (f.vendor, λ z. omega arith))
      (λ e. (tape_low d.marks d.cart r.cart, λ z. omega arith))))))

  open_fit : Fit (opened d n)
  open_fit = report_fit d f (report_of d n) report_sound

  error_read_fit : Fit (error_read (opened d n))
  unfolding error_read
  error_read_fit = either Fit (is_ready d) _ _ (λ e. fault_fit (opened d n) open_fit no_error no_command (omega arith)) (λ e. open_fit)

  open_report_fit : Fit (step_open_report d n)
  unfolding step_open_report status_asked
  open_report_fit =
      either Fit (n ≡ᵇ report_status) _ _ (λ e. either Fit (is_ready d) _ _ (λ y. open_fit) (λ y. open_fit))
      (λ e. either Fit (n ≡ᵇ report_error) _ _ (λ e. error_read_fit) (λ e. open_fit))

-- ---- step 7: a command

obey_fit : (d : Drive) (n : ℕ) → Fit d → Fit (obeyed d n)
unfolding obeyed
obey_fit d n f =
    either Fit ((n ≡ᵇ pause) || (n ≡ᵇ stop_tape)) _ _ (λ e. f)
    (λ e. either Fit ((n ≡ᵇ logical_forward) || (n ≡ᵇ physical_forward)) _ _ (λ e. run_fit d f d.cart.segments)
    (λ e. either Fit (n ≡ᵇ physical_reverse) _ _ (λ e. run_fit d f 0)
    (λ e. either Fit (n ≡ᵇ seek_load_point) _ _ (λ e. load_fit d f) (λ e. waiting_fit d f (Some record { code = n; held = 0; value = 0 }) (omega arith)))))

module _ (n : ℕ) (low : n < 2 ^ 8) where
  check_fit : (d : Drive) → Fit d → Fit (checked d n)
  unfolding checked
  check_fit d f =
      either Fit (error_held d.fault) _ _ (λ e. f)
      (λ e. either Fit d.marks.fresh _ _ (λ e. latch_fit d f new_cartridge_pending n low)
      (λ e. either Fit (needs_cartridge n && not d.marks.inside) _ _ (λ e. latch_fit d f cartridge_missing n low)
      (λ e. either Fit (needs_reference n && not d.marks.referenced) _ _ (λ e. latch_fit d f not_referenced n low) (λ e. obey_fit d n f))))

  command_fit : (d : Drive) → Fit d → Fit (step_command d n)
  unfolding step_command
  command_fit d f =
      either Fit (is_ready d) _ _ (λ e. check_fit d f)
      (λ e. either Fit (is_run d.head.motion && stops_motion n) _ _ (λ s. check_fit (stopped d) f) (λ s. latch_fit d f not_ready n low))

-- ---- a train

unsupported_fit : (d : Drive) (n : ℕ) → Fit d → Fit (step_unsupported d n)
unfolding step_unsupported
unsupported_fit d n f =
    either Fit (n <ᵇ report_vendor) _ _ (λ l. latch_fit d f undefined_command n (omega (arith, ltb-true n report_vendor l))) (λ l. f)

taken_fit : (d : Drive) (n : ℕ) {x : Drive} → Calm d → Fit d → Taken d n x → Fit x
unfolding step_argument
taken_fit d n r f (by_reset e) = reset_fit d f
taken_fit d n r f (by_argument e w) = argument_fit d.waiting d n f
taken_fit d n r f (by_report e w o) = in_report_fit d n f
taken_fit d n r f (by_next_bit h e) = f
taken_fit d n r f (by_unsupported h) = unsupported_fit d n f
taken_fit d n r f (by_opening h p) = open_report_fit d n r f
taken_fit d n r f (by_command h c) = command_fit n (omega (arith, supported_low n c.known)) d f

-- ---- the calls; a drive that breaks the rules is left as it is

abbrev Good : Step → Type 0
Good s = FitsBytes s.drive

pub power_on_fits : (vendor rom : ℕ) → vendor < 2 ^ 16 → rom < 2 ^ 8 → FitsBytes (power_on vendor rom)
unfolding power_on
power_on_fits vendor rom v r = record { vendor = v; rom = r; command = omega arith; bits = omega arith; closed = λ e. refl; held = tt }

module _ (d : Drive) (f : FitsBytes d) where
  pub train_fits : (n : ℕ) → FitsBytes (train_call d n).drive
  train_fits n =
      train_by Good d (λ p. f) n (λ p z. f)
      (λ p z. of_fit (train_step d n) (taken_fit d n (to_rules d (not-false _ p)).0 (to_fit d f) (train_taken d n)))

  pub tick_fits : FitsBytes (tick_call d).drive
  tick_fits = tick_by Good d (λ p. f) (λ p. of_fit (ticked d) (tick_fit d (to_fit d f)))

  pub insert_fits : (cart : Cartridge) (place : ℕ) → FitsBytes (insert_call d cart place).drive
  insert_fits cart place =
      insert_by Good d (λ p. f) cart place (λ p i. f) (λ p i o. f) (λ p i o. of_fit (inserted d cart place) (insert_fit d cart place (to_fit d f)))

  pub remove_fits : FitsBytes (remove_call d).drive
  remove_fits = remove_by Good d (λ p. f) (λ p i. f) (λ p i. of_fit (removed d) (remove_fit d (to_fit d f)))

  pub wait_fits : (limit : ℕ) → FitsBytes (wait_call d limit).drive
  wait_fits limit =
      wait_by (λ (w : Waited). FitsBytes w.drive) d limit (λ p. f)
      (λ p. of_fit (run_for (steps_to limit d) d) (ticks_fit (steps_to limit d) d (to_fit d f)))

-- ---- a list of trains, which is its trains sent singly

all_fit : (d : Drive) (ns : List ℕ) → FitsBytes d → FitsBytes (after_trains d ns)
unfolding after_trains
all_fit d [] f = f
all_fit d (n ∷ ns) f = all_fit (train_call d n).drive ns (train_fits d f n)

pub trains_fits : (d : Drive) (counts levels : List ℕ) → FitsBytes d → FitsBytes (trains_call d counts levels).step.drive
trains_fits d counts levels f =
    let x = trains_call d counts levels in
    test (x.step.number ≡ᵇ not_refused)
    (λ e. rw (list_is_singles d counts levels (eqb-true _ _ e)).drive (all_fit d counts f))
    (λ e. rw (refused_keeps.trains d counts levels (eqb-false _ _ e)) f)
