-- Reports read out: the trains 2, 6 and 7 leave a still tape where it is, and 2s close a report, item by item.
-- Assumes nothing.
use Prim.Native.Nat.{ℕ, zero, suc, ◌-◌, ◌/◌, ◌%◌, ◌≤◌}
use native.Mathlib.Omega.{arith}
use mathlib.Core.Bool.{Bool, true, false, not, cond, ◌&&◌, ◌||◌, or-false}
use mathlib.Core.List.{List, [], ◌∷◌, ◌++◌, map}
use mathlib.Core.Path.{◌≡◌, refl, sym, ◌∙◌, ap}
use borrow.Author.Tests.{eqb-true, ltb-false, lt-leb, le-leb, lt-ltb, not-true}
use lib.ListN.{drop, length, replicate}
use Rattle.numbers.specs.Choice.{◌≡ᵇ◌, ◌≤ᵇ◌}
use Rattle.numbers.proofs.Cases.{and_l, and_r, either, never, or_by, test}
use Rattle.pulse_codes.specs.Arguments.{is_waiting}
use Rattle.pulse_codes.specs.Codes.{report_error, report_next_bit, report_status}
use Rattle.pulse_parts.specs.declared.head.Head.{Head}
use Rattle.pulse_parts.specs.declared.reports.Report.{Report}
use Rattle.pulse_parts.specs.Heads.{is_still}
use Rattle.pulse_parts.specs.Reports.{is_open, item_level, items_left, most_items, report_fits}
use Rattle.pulse.specs.declared.drive.Drive.{Drive}
use Rattle.pulse.specs.Calls.{Step, accepted, not_refused, train_call}
use Rattle.pulse.specs.Drives.{is_ready, with_level, with_report}
use Rattle.pulse.specs.Reports.{item_given, step_open_report, step_report}
use Rattle.pulse.specs.Train.{train_step}
use Rattle.pulse_laws.proofs.Calls.{train_is}
use Rattle.pulse_laws.proofs.Idle.{Idle, idle_rules}
use Rattle.pulse_laws.proofs.Reports.{in_report_idle, open_report_idle}
use Rattle.pulse_laws.proofs.Resting.{Stays, in_report_stays, open_stays}
use Rattle.pulse_laws.specs.Runs.{after_trains, answers, bits_of, next_bits}

-- ---- trains in a row
pub after_append : (d : Drive) (xs ys : List ℕ) → after_trains d (xs ++ ys) ≡ after_trains (after_trains d xs) ys
unfolding after_trains
after_append d [] ys = refl
after_append d (n ∷ xs) ys = after_append (train_call d n).drive xs ys

pub answers_drop : (d : Drive) (xs ys : List ℕ) → drop (length xs) (answers d (xs ++ ys)) ≡ answers (after_trains d xs) ys
unfolding after_trains answers
answers_drop d [] ys = refl
answers_drop d (n ∷ xs) ys = answers_drop (train_call d n).drive xs ys

-- ---- 2, 6 and 7 to a drive that stands and waits for no argument
pub two_is : (d : Drive) → Idle d → train_step d report_next_bit ≡ cond (is_open d.report) (item_given d) (with_level d true)
unfolding train_step step_report
two_is d i = rw (ap is_waiting i.1)

abbrev pub Opens : Drive → ℕ → Drive
Opens d n = cond (is_open d.report) (step_report d n) (step_open_report d n)

pub six_is : (d : Drive) → Idle d → train_step d report_status ≡ Opens d report_status
unfolding train_step
six_is d i = rw (ap is_waiting i.1)

pub seven_is : (d : Drive) → Idle d → train_step d report_error ≡ Opens d report_error
unfolding train_step
seven_is d i = rw (ap is_waiting i.1)

abbrev pub reads : ℕ → Bool
reads n = (n ≡ᵇ report_next_bit) || (n ≡ᵇ report_status) || (n ≡ᵇ report_error)

-- it waits for none, and its head stays
abbrev pub Steady : Head → Drive → Type 0
Steady h x = Idle x × Stays h x

module _ (d : Drive) (i : Idle d) (y : is_ready d ≡ true) where
  in_report : (n : ℕ) → is_open d.report ≡ true → Steady d.head (step_report d n)
  in_report n o = (in_report_idle d n o i, in_report_stays d n y)

  opening : (n : ℕ) → Steady d.head (Opens d n)
  opening n = either (Steady d.head) (is_open d.report) _ _ (in_report n) (λ o. (open_report_idle d n i, open_stays d n))

  two_steady : Steady d.head (train_step d report_next_bit)
  unfolding step_report
  two_steady = rw (two_is d i) (either (Steady d.head) (is_open d.report) _ _ (in_report report_next_bit) (λ o. (i, refl)))

  pub train_steady : (n : ℕ) → reads n ≡ true → Steady d.head (train_step d n)
  train_steady n e =
      or_by ((n ≡ᵇ report_next_bit) || (n ≡ᵇ report_status)) (n ≡ᵇ report_error) e
      (λ f.
      or_by (n ≡ᵇ report_next_bit) (n ≡ᵇ report_status) f (λ g. rw (eqb-true n report_next_bit g) two_steady)
      (λ g. rw (eqb-true n report_status g, six_is d i) (opening report_status)))
      (λ f. rw (eqb-true n report_error f, seven_is d i) (opening report_error))

  pub call_is : (n : ℕ) → reads n ≡ true → train_call d n ≡ accepted (train_step d n)
  call_is n e = train_is d (idle_rules d i) n (test (n ≡ᵇ 0) (λ z. never e (rw (eqb-true n 0 z))) (λ z. z))

abbrev pub all_read : List ℕ → Bool
all_read [] = true
all_read (n ∷ ns) = reads n && all_read ns

module _ (d : Drive) (i : Idle d) (y : is_ready d ≡ true) (n : ℕ) (e : reads n ≡ true) (ns : List ℕ) where
  pub answers_cons : answers d (n ∷ ns) ≡ accepted (train_step d n) ∷ answers (train_step d n) ns
  unfolding answers
  answers_cons = rw (call_is d i y n e)

  pub after_cons : after_trains d (n ∷ ns) ≡ after_trains (train_step d n) ns
  unfolding after_trains
  after_cons = rw (call_is d i y n e)

answers_none : (d : Drive) → answers d [] ≡ []
unfolding answers
answers_none d = refl

-- such trains are all accepted, and leave the head as it is, one by one and at the end
pub record Stood (told : List Step) (last : Drive) (k : ℕ) (h : Head) : Type 0 where
  pub numbers : map (λ (s : Step). s.number) told ≡ replicate k not_refused
  pub heads : map (λ (s : Step). s.drive.head) told ≡ replicate k h
  pub idle : Idle last
  pub head : last.head ≡ h

pub still_ready : (h x : Head) → x ≡ h → is_still h.motion ≡ true → is_still x.motion ≡ true
still_ready h x p e = ap (λ (z : Head). is_still z.motion) p ∙ e

pub stood : (d : Drive) (ns : List ℕ) → Idle d → is_ready d ≡ true → all_read ns ≡ true →
    Stood (answers d ns) (after_trains d ns) (length ns) d.head
unfolding answers after_trains
stood d [] i y a = record { numbers = refl; heads = refl; idle = i; head = refl }
stood d (n ∷ ns) i y a =
    let e = and_l (reads n) (all_read ns) a in
    let t = train_steady d i y n e in
    let r = stood (train_step d n) ns t.0 (still_ready d.head (train_step d n).head t.1 y) (and_r (reads n) (all_read ns) a) in
    rw (answers_cons d i y n e ns, after_cons d i y n e ns)
    (record {
      numbers = ap (λ (l : List ℕ). not_refused ∷ l) r.numbers;
      heads = ap (λ (l : List Head). (train_step d n).head ∷ l) r.heads ∙ ap (λ (h : Head). h ∷ replicate (length ns) h) t.1;
      idle = r.idle;
      head = r.head ∙ t.1;
    })

-- ---- 2s
-- what a 2 leaves as it was
pub record Same (d x : Drive) : Type 0 where
  pub marks : x.marks ≡ d.marks
  pub fault : x.fault ≡ d.fault

two_same : (d : Drive) → Idle d → Same d (train_step d report_next_bit)
unfolding item_given
two_same d i =
    rw (two_is d i)
    (either (Same d) (is_open d.report) _ _
    (λ o. either (Same d) d.report.repeat _ _ (λ r. record { marks = refl; fault = refl }) (λ r. record { marks = refl; fault = refl }))
    (λ o. record { marks = refl; fault = refl }))

-- the 2s that a report still wants
unfoldable pub owed : Report → ℕ
owed r = cond r.repeat (suc r.left) r.left

-- no repeat is owed in a closed report
no_repeat : (r : Report) → report_fits r ≡ true → is_open r ≡ false → owed r ≡ 0
unfolding owed
no_repeat r e o =
    let l = ltb-false 0 r.left o in
    let p : not r.repeat ≡ true = sym (or-false (not r.repeat)) ∙ (rw o at (and_r (r.left ≤ᵇ most_items) (not r.repeat || is_open r) e)) in
    rw (not-true r.repeat p) (omega arith)

item_owed : (d : Drive) → owed (item_given d).report ≤ owed d.report - 1
unfolding item_given owed
item_owed d =
    test d.report.repeat (λ e. rw e (omega arith))
    (λ e. rw e (test (d.report.left ≤ᵇ 1) (λ f. rw f (omega arith)) (λ f. rw f (omega arith))))

two_owed : (d : Drive) → Idle d → owed (train_step d report_next_bit).report ≤ owed d.report - 1
two_owed d i =
    rw (two_is d i)
    (either (λ (x : Drive). owed x.report ≤ owed d.report - 1) (is_open d.report) _ _ (λ o. item_owed d)
    (λ o. let z = no_repeat d.report i.0.report o in omega arith))

pub record Paid (k : ℕ) (d x : Drive) : Type 0 where
  pub idle : Idle x
  pub same : Same d x
  pub less : owed x.report ≤ owed d.report - k

pub paid : (k : ℕ) (d : Drive) → Idle d → is_ready d ≡ true → Paid k d (after_trains d (next_bits k))
unfolding after_trains
paid zero d i y = record { idle = i; same = record { marks = refl; fault = refl }; less = omega arith }
paid (suc k) d i y =
    let t = two_steady d i y in
    let s = two_same d i in
    let p = paid k (train_step d report_next_bit) t.0 (still_ready d.head (train_step d report_next_bit).head t.1 y) in
    rw (after_cons d i y report_next_bit refl (next_bits k))
    (record {
      idle = p.idle;
      same = record { marks = p.same.marks ∙ s.marks; fault = p.same.fault ∙ s.fault };
      less = omega (arith, two_owed d i, p.less);
    })

-- an item of a report with k + 1 left
item_is : (d : Drive) → Idle d → (k : ℕ) → d.report.left ≡ suc k → d.report.repeat ≡ false →
    train_step d report_next_bit ≡ with_level (with_report d (items_left d.report)) (item_level d.report)
unfolding item_given
item_is d i k l r = two_is d i ∙ (rw (lt-ltb 0 d.report.left (omega arith), r))

-- a report of k + 1 items is read out: its bits, and the final 1
pub read_out : (k : ℕ) (d : Drive) → Idle d → is_ready d ≡ true → d.report.left ≡ suc k → d.report.repeat ≡ false →
    map (λ (s : Step). s.level) (answers d (next_bits (suc k))) ≡ bits_of k d.report.bits ++ (true ∷ [])
unfolding bits_of
read_out zero d i y l r =
    let final : (train_step d report_next_bit).level ≡ true =
    ap (λ (x : Drive). x.level) (item_is d i 0 l r) ∙ (rw (le-leb d.report.left 1 (omega arith))) in
    rw (answers_cons d i y report_next_bit refl [], answers_none (train_step d report_next_bit), final)
read_out (suc k) d i y l r =
    let t = two_steady d i y in
    let more = lt-leb d.report.left 1 (omega arith) in
    let x = item_is d i (suc k) l r in
    let level : (train_step d report_next_bit).level ≡ (d.report.bits % 2 ≡ᵇ 1) = ap (λ (x : Drive). x.level) x ∙ (rw more) in
    let left : (train_step d report_next_bit).report.left ≡ suc k = ap (λ (x : Drive). x.report.left) x ∙ (rw more (omega arith)) in
    let bits : (train_step d report_next_bit).report.bits ≡ d.report.bits / 2 = ap (λ (x : Drive). x.report.bits) x ∙ (rw more) in
    let repeat : (train_step d report_next_bit).report.repeat ≡ false = ap (λ (x : Drive). x.report.repeat) x ∙ (rw more) in
    let rest = read_out k (train_step d report_next_bit) t.0 (still_ready d.head (train_step d report_next_bit).head t.1 y) left repeat in
    ap (map (λ (s : Step). s.level)) (answers_cons d i y report_next_bit refl (next_bits (suc k)))
    ∙ (ap (λ (b : Bool). b ∷ map (λ (s : Step). s.level) (answers (train_step d report_next_bit) (next_bits (suc k)))) level
    ∙ ap (λ (l : List Bool). (d.report.bits % 2 ≡ᵇ 1) ∷ l) (rest ∙ ap (λ (v : ℕ). bits_of k v ++ (true ∷ [])) bits))
