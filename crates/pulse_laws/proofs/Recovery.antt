-- Recovery: the silent ticks, eighteen 2s, a 6 and nine 2s, a 7 and seventeen 2s.
-- Assumes nothing.
use Prim.Native.Nat.{ℕ, zero, suc, ◌≤◌}
use native.Mathlib.Nat.{le_refl, lt_irrefl}
use native.Mathlib.Omega.{arith}
use mathlib.Core.Bool.{Bool, true, false, and-false}
use mathlib.Core.List.{List, [], ◌∷◌, ◌++◌, map}
use mathlib.Core.Path.{◌≡◌, refl, sym, ◌∙◌, ap}
use Rattle.std.specs.Prelude.{None}
use borrow.Author.Tests.{leb-true, le-ltb}
use lib.ListN.{length}
use Rattle.numbers.specs.Choice.{◌≡ᵇ◌, ◌≤ᵇ◌}
use Rattle.numbers.proofs.Cases.{and_l, and_r, ands, either, test}
use Rattle.pulse_codes.specs.Codes.{report_error, report_status}
use Rattle.pulse_codes.specs.Errors.{no_error}
use Rattle.pulse_parts.specs.declared.fault.Fault.{Fault}
use Rattle.pulse_parts.specs.declared.marks.Marks.{Marks}
use Rattle.pulse_parts.specs.declared.reports.Report.{Report}
use Rattle.pulse_parts.specs.Heads.{toward}
use Rattle.pulse_parts.specs.Reports.{error_bits, is_open, most_items, report_of16}
use Rattle.pulse.specs.declared.drive.Drive.{Drive}
use Rattle.pulse.specs.Calls.{Step, accepted, train_call}
use Rattle.pulse.specs.Drives.{is_ready, with_head, with_waiting, without_arguments}
use Rattle.pulse.specs.Events.{run_for}
use Rattle.pulse.specs.Motions.{arrived, ticked}
use Rattle.pulse.specs.Reports.{error_read, report_of, status_asked, step_open_report}
use Rattle.pulse.specs.Rules.{max_segments}
use Rattle.pulse.specs.Train.{train_step}
use Rattle.pulse_laws.proofs.Idle.{Idle, idle_rules}
use Rattle.pulse_laws.proofs.Kept.{reachable_keeps}
use Rattle.pulse_laws.proofs.Motion.{ended, nearer, within}
use Rattle.pulse_laws.proofs.Reading.{Paid, Steady, Stood, all_read, owed, paid, read_out, reads, stood, train_steady}
use Rattle.pulse_laws.proofs.Reading.{after_append, after_cons, answers_cons, answers_drop, call_is, seven_is, six_is, still_ready}
use Rattle.pulse_laws.proofs.Reports.{few}
use Rattle.pulse_laws.proofs.Rules.{Rules, to_rules}
use Rattle.pulse_laws.proofs.Ticks.{ready_after, ticks_run}
use Rattle.pulse_laws.proofs.Trains.{run_rules, ticked_waiting}
use Rattle.pulse_laws.specs.Demands.{Recovered, Recovers, RecoversAtAnyPace, Regained}
use Rattle.pulse_laws.specs.Runs.{after_paced, after_ticks, after_trains, answers, distance, paced_answers, silent_ticks}
use Rattle.pulse_laws.specs.Runs.{before_error_report, bits_of, closing, error_items, error_report, next_bits, recovery_trains, spelled, status_items}

-- ---- the silent ticks
-- a tick leaves the error as it is
abbrev Holds : Fault → Drive → Type 0
Holds f x = x.fault ≡ f

tick_holds : (d : Drive) → Holds d.fault (ticked d)
unfolding ticked arrived
tick_holds d =
    either (Holds d.fault) (is_ready d) _ _ (λ e. refl)
    (λ e. either (Holds d.fault) (toward d.head.place d.head.target ≡ᵇ d.head.target) _ _
    (λ f. ended (Holds d.fault) d.head.motion (with_head (without_arguments d) (nearer d.head)) (λ s. refl) (λ s. refl) (λ s. refl))
    (λ f. refl))

run_holds : (k : ℕ) (d : Drive) → Holds d.fault (run_for k d)
unfolding run_for
run_holds zero d = refl
run_holds (suc k) d = tick_holds (run_for k d) ∙ run_holds k d

-- ---- eighteen 2s, a 6 and nine 2s
none_left : (r : Report) → owed r ≤ 0 → r.left ≡ 0
unfolding owed
none_left r l = test r.repeat (λ e. omega (arith, rw e at l)) (λ e. omega (arith, rw e at l))

shut : (r : Report) → owed r ≤ 0 → is_open r ≡ false
shut r l = le-ltb 0 r.left (omega (arith, none_left r l))

-- no report is open, status was asked, the error is the one that d held
record Asked (d x : Drive) : Type 0 where
  pub idle : Idle x
  pub fault : x.fault ≡ d.fault
  pub asked : x.marks.asked ≡ true
  pub shut : is_open x.report ≡ false

module _ (d : Drive) (i : Idle d) (y : is_ready d ≡ true) (o : is_open d.report ≡ false) where
  six : ((train_step d report_status).fault ≡ d.fault) × ((train_step d report_status).marks.asked ≡ true)
      × (owed (train_step d report_status).report ≡ status_items)
  unfolding step_open_report status_asked report_of owed
  six = rw (six_is d i, o, y) (refl, refl, refl)

  seven : d.marks.asked ≡ true →
      ((train_step d report_error).fault.error ≡ no_error) × ((train_step d report_error).marks.fresh ≡ false) × ((train_step d report_error).level ≡ true)
      × ((train_step d report_error).report ≡ report_of16 (error_bits d.fault))
  unfolding step_open_report error_read report_of
  seven a = rw (seven_is d i, o, y) (refl, rw a (and-false d.marks.fresh), refl, refl)

ask : (d : Drive) → Idle d → is_ready d ≡ true → owed d.report ≤ closing → Asked d (after_trains d before_error_report)
ask d i y l =
    rw (after_append d (next_bits closing) (report_status ∷ next_bits status_items), after_cons x p.idle xy report_status refl (next_bits status_items))
    (record {
      idle = q.idle;
      fault = q.same.fault ∙ (s.0 ∙ p.same.fault);
      asked = ap (λ (m : Marks). m.asked) q.same.marks ∙ s.1;
      shut = shut z.report (omega (arith, q.less, s.2));
    })
  where
    x : Drive
    x = after_trains d (next_bits closing)

    p : Paid closing d x
    p = paid closing d i y

    xy : is_ready x ≡ true
    xy = still_ready d.head x.head (stood d (next_bits closing) i y refl).head y

    s : ((train_step x report_status).fault ≡ x.fault) × ((train_step x report_status).marks.asked ≡ true)
        × (owed (train_step x report_status).report ≡ status_items)
    s = six x p.idle xy (shut x.report (omega (arith, p.less)))

    t : Steady x.head (train_step x report_status)
    t = train_steady x p.idle xy report_status refl

    z : Drive
    z = after_trains (train_step x report_status) (next_bits status_items)

    q : Paid status_items (train_step x report_status) z
    q = paid status_items (train_step x report_status) t.0 (still_ready x.head (train_step x report_status).head t.1 xy)

-- ---- the 7 and seventeen 2s
record Read (d x : Drive) : Type 0 where
  pub errorless : x.fault.error ≡ no_error
  pub known : x.marks.fresh ≡ false
  pub closed : x.report.left ≡ 0
  pub named : map (λ (s : Step). s.level) (answers d error_report) ≡ spelled d.fault

read : (d : Drive) → Idle d → is_ready d ≡ true → is_open d.report ≡ false → d.marks.asked ≡ true → Read d (after_trains d error_report)
unfolding owed
read d i y o a =
    rw (after_cons d i y report_error refl (next_bits error_items))
    (record {
      errorless = ap (λ (f : Fault). f.error) q.same.fault ∙ s.0;
      known = ap (λ (m : Marks). m.fresh) q.same.marks ∙ s.1;
      closed = none_left z.report (omega (arith, q.less, ap owed s.3));
      named =
          ap (map (λ (s : Step). s.level)) (answers_cons d i y report_error refl (next_bits error_items))
          ∙ (ap (λ (b : Bool). b ∷ map (λ (s : Step). s.level) (answers x (next_bits error_items))) s.2
          ∙ ap (λ (l : List Bool). true ∷ l)
          (read_out 16 x t.0 xy (ap (λ (r : Report). r.left) s.3) (ap (λ (r : Report). r.repeat) s.3)
          ∙ ap (λ (r : Report). bits_of 16 r.bits ++ (true ∷ [])) s.3));
    })
  where
    x : Drive
    x = train_step d report_error

    s : (x.fault.error ≡ no_error) × (x.marks.fresh ≡ false) × (x.level ≡ true) × (x.report ≡ report_of16 (error_bits d.fault))
    s = seven d i y o a

    t : Steady d.head x
    t = train_steady d i y report_error refl

    xy : is_ready x ≡ true
    xy = still_ready d.head x.head t.1 y

    z : Drive
    z = after_trains x (next_bits error_items)

    q : Paid error_items x z
    q = paid error_items x t.0 xy

-- ---- the 46 trains, to a drive that stands and waits for no argument
recover : (before d : Drive) → before.fault ≡ d.fault → Idle d → is_ready d ≡ true → owed d.report ≤ closing →
    Recovered before d (after_trains d recovery_trains)
recover before d f i y l =
    record {
      answered = w.numbers;
      ready = still_ready d.head (after_trains d recovery_trains).head w.head y;
      errorless = ap (λ (x : Drive). x.fault.error) e ∙ r.errorless;
      known = ap (λ (x : Drive). x.marks.fresh) e ∙ r.known;
      closed = ap (λ (x : Drive). x.report.left) e ∙ r.closed;
      named =
          ap (map (λ (s : Step). s.level)) (answers_drop d before_error_report error_report)
          ∙ (r.named ∙ ap spelled (k.fault ∙ sym f));
      stood = w.heads;
      stands = w.head;
    }
  where
    w : Stood (answers d recovery_trains) (after_trains d recovery_trains) (length recovery_trains) d.head
    w = stood d recovery_trains i y refl

    k : Asked d (after_trains d before_error_report)
    k = ask d i y l

    ky : is_ready (after_trains d before_error_report) ≡ true
    ky = still_ready d.head (after_trains d before_error_report).head (stood d before_error_report i y refl).head y

    e : after_trains d recovery_trains ≡ after_trains (after_trains d before_error_report) error_report
    e = after_append d before_error_report error_report

    r : Read (after_trains d before_error_report) (after_trains (after_trains d before_error_report) error_report)
    r = read (after_trains d before_error_report) k.idle ky k.shut k.asked

-- ---- at any pace: a tick does nothing to a drive that stands and waits for no argument
tick_nothing : (d : Drive) → Idle d → is_ready d ≡ true → ticked d ≡ d
unfolding ticked
tick_nothing d i y = rw y (ap (with_waiting d) (sym i.1))

run_nothing : (k : ℕ) (d : Drive) → Idle d → is_ready d ≡ true → run_for k d ≡ d
unfolding run_for
run_nothing zero d i y = refl
run_nothing (suc k) d i y = ap ticked (run_nothing k d i y) ∙ tick_nothing d i y

pause_nothing : (k : ℕ) (d : Drive) → Idle d → is_ready d ≡ true → after_ticks k d ≡ d
pause_nothing k d i y = ticks_run k d (idle_rules d i) ∙ run_nothing k d i y

-- the same answers, and the same drive, as without a pause
abbrev Unpaced : (ℕ → ℕ) → Drive → List ℕ → Type 0
Unpaced pauses d ns = (paced_answers pauses d ns ≡ answers d ns) × (after_paced pauses d ns ≡ after_trains d ns)

at_any_pace : (pauses : ℕ → ℕ) (d : Drive) (ns : List ℕ) → Idle d → is_ready d ≡ true → all_read ns ≡ true → Unpaced pauses d ns
unfolding paced_answers after_paced answers after_trains
at_any_pace pauses d [] i y a = (refl, refl)
at_any_pace pauses d (n ∷ ns) i y a =
    let e = and_l (reads n) (all_read ns) a in
    let t = train_steady d i y n e in
    let s = still_ready d.head (train_step d n).head t.1 y in
    let r = at_any_pace (λ j. pauses (suc j)) (train_step d n) ns t.0 s (and_r (reads n) (all_read ns) a) in
    rw (pause_nothing (pauses 0) d i y, call_is d i y n e) (ap (λ (l : List Step). accepted (train_step d n) ∷ l) r.0, r.1)

pub no_pauses : (d : Drive) (ns : List ℕ) → Unpaced (λ i. 0) d ns
unfolding paced_answers after_paced answers after_trains after_ticks
no_pauses d [] = (refl, refl)
no_pauses d (n ∷ ns) =
    let r = no_pauses (train_call d n).drive ns in
    (ap (λ (l : List Step). train_call d n ∷ l) r.0, r.1)

-- ---- from any drive that keeps the rules, with a cartridge in
run_waiting : (k : ℕ) (d : Drive) → 1 ≤ k → (run_for k d).waiting ≡ None
unfolding run_for
run_waiting zero d l = absurd (lt_irrefl 0 (omega arith))
run_waiting (suc k) d l = ticked_waiting (run_for k d)

near_enough : (d : Drive) → d.head.place ≤ d.cart.segments → d.head.target ≤ d.cart.segments → distance d ≤ silent_ticks d
unfolding distance
near_enough d p q = omega arith

few_owed : (r : Report) → r.left ≤ most_items → owed r ≤ closing
unfolding owed
few_owed r l = test r.repeat (λ e. rw e (omega arith)) (λ e. rw e (omega arith))

module _ (d : Drive) (k : ℕ) (pauses : ℕ → ℕ) (r : Rules d) (inside : d.marks.inside ≡ true) (l : silent_ticks d ≤ k) where
  rested_idle : Idle (run_for k d)
  rested_idle =
      let a = (within r.0.cart inside).ranges in
      let b : (1 ≤ᵇ silent_ticks d) ≡ true = search ands depth 8 in
      ((run_rules k d r).0, run_waiting k d (omega (arith, leb-true 1 (silent_ticks d) b)))

  rested_ready : is_ready (run_for k d) ≡ true
  rested_ready =
      let w = within r.0.cart inside in
      ready_after k d r (omega (arith, near_enough d w.place w.target))

  by_rules : Regained (paced_answers pauses (after_ticks k d) recovery_trains) d (after_ticks k d) (after_paced pauses (after_ticks k d) recovery_trains)
  by_rules =
      let i = rested_idle in
      let y = rested_ready in
      let p = at_any_pace pauses (run_for k d) recovery_trains i y refl in
      rw (ticks_run k d r, p.0, p.1)
      (recover d (run_for k d) (sym (run_holds k d)) i y (few_owed (run_for k d).report (few (run_for k d).report i.0.report)))

pub recovers_at_any_pace : RecoversAtAnyPace
recovers_at_any_pace =
    record {
      paced = λ d k pauses rules. by_rules d k pauses (to_rules d rules);
      enough = λ d rules inside.
          let a = (within (to_rules d rules).0.cart inside).ranges in
          leb-true (silent_ticks d) max_segments (search ands depth 8);
    }

pub recovers : Recovers
recovers d r inside =
    let x = after_ticks (silent_ticks d) d in
    let p = no_pauses x recovery_trains in
    rw (← p.0, ← p.1) (recovers_at_any_pace.paced d (silent_ticks d) (λ i. 0) (reachable_keeps r) inside (le_refl (silent_ticks d)))
