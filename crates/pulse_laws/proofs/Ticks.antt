-- The place after each tick, and the ticks of a wait call.
-- Assumes nothing.
use Prim.Native.Nat.{ℕ, zero, suc, ◌+◌, ◌-◌, ◌≤◌, ◌<◌, min, max}
use native.Mathlib.Nat.{lt_irrefl}
use native.Mathlib.Omega.{arith}
use mathlib.Core.Bool.{true, false}
use mathlib.Core.Path.{◌≡◌, refl, sym, ◌∙◌, ap}
use borrow.Author.Tests.{leb-true, leb-false, ltb-true, ltb-false, eqb-true, le-leb, lt-leb, le-ltb, lt-ltb}
use Rattle.numbers.specs.Choice.{◌<ᵇ◌, ◌≡ᵇ◌, ◌≤ᵇ◌}
use Rattle.numbers.proofs.Cases.{either, never, test}
use Rattle.pulse_parts.specs.declared.head.Head.{Head}
use Rattle.pulse_parts.specs.declared.head.Motion.{Motion}
use Rattle.pulse_parts.specs.Heads.{is_load, is_still, toward}
use Rattle.pulse.specs.declared.drive.Drive.{Drive}
use Rattle.pulse.specs.Calls.{Step, tick_call, wait_call}
use Rattle.pulse.specs.Drives.{is_ready, with_head, without_arguments}
use Rattle.pulse.specs.Events.{run_for, steps_to}
use Rattle.pulse.specs.Motions.{arrived, ticked}
use Rattle.pulse_laws.proofs.Calls.{tick_is, wait_is}
use Rattle.pulse_laws.proofs.Kept.{reachable_keeps}
use Rattle.pulse_laws.proofs.Motion.{ended, nearer, off_target}
use Rattle.pulse_laws.proofs.Rules.{Moves, Rules, loads, rests, runs, to_rules}
use Rattle.pulse_laws.proofs.Trains.{run_rules, tick_rules}
use Rattle.pulse_laws.specs.Demands.{TickPlace, WaitCounts, WaitReaches}
use Rattle.pulse_laws.specs.Runs.{Reachable, after_ticks, by_tick, distance, place_after}

-- tick calls are ticks
pub ticks_run : (k : ℕ) (d : Drive) → Rules d → after_ticks k d ≡ run_for k d
unfolding after_ticks run_for
ticks_run zero d r = refl
ticks_run (suc k) d r =
    ap (λ (x : Drive). (tick_call x).drive) (ticks_run k d r) ∙ ap (λ (s : Step). s.drive) (tick_is (run_for k d) (run_rules k d r))

-- ---- one tick
pub at_rest : {m : Motion} {s t : ℕ} → Moves m s t → is_still m ≡ true → s ≡ t
at_rest (rests p e) f = e
at_rest (runs p n) f = never f (ap is_still p)
at_rest (loads p z n) f = never f (ap is_still p)

load_to_start : {m : Motion} {s t : ℕ} → Moves m s t → is_load m ≡ true → t ≡ 0
load_to_start (rests p e) f = never f (ap is_load p)
load_to_start (runs p n) f = never f (ap is_load p)
load_to_start (loads p z n) f = z

toward_up : (s t : ℕ) → s < t → toward s t ≡ s + 1
toward_up s t l = rw (lt-ltb s t l)

toward_down : (s t : ℕ) → t < s → toward s t ≡ s - 1
toward_down s t l = rw (le-ltb s t (omega arith), lt-ltb t s l)

toward_self : (s t : ℕ) → s ≡ t → toward s t ≡ s
toward_self s t e = rw (le-ltb s t (omega arith), le-ltb t s (omega arith))

-- where a tick leads from h
abbrev Next : Head → Drive → Type 0
Next h x = (x.head.place ≡ toward h.place h.target) × (x.head.target ≡ h.target)

tick_next : (d : Drive) → Rules d → Next d.head (ticked d)
unfolding ticked arrived
tick_next d r =
    either (Next d.head) (is_ready d) _ _ (λ e. (sym (toward_self _ _ (at_rest r.0.motion e)), refl))
    (λ e.
    either (Next d.head) (toward d.head.place d.head.target ≡ᵇ d.head.target) _ _
    (λ f.
    let q = eqb-true _ _ f in
    ended (Next d.head) d.head.motion (with_head (without_arguments d) (nearer d.head)) (λ s. (refl, refl)) (λ s. (refl, q))
    (λ s. let z = load_to_start r.0.motion (ap is_load s) in (sym z ∙ sym q, sym z)))
    (λ f. (refl, refl)))

-- ---- k ticks
after_up : (k s t : ℕ) → s ≤ t → place_after k s t ≡ min (s + k) t
unfolding place_after
after_up k s t l = rw (le-leb s t l)

after_down : (k s t : ℕ) → t < s → place_after k s t ≡ max (s - k) t
unfolding place_after
after_down k s t l = rw (lt-leb s t l)

one_more : (k s t : ℕ) → toward (place_after k s t) t ≡ place_after (suc k) s t
one_more k s t = test (s ≤ᵇ t) up down
  where
    up : (s ≤ᵇ t) ≡ true → toward (place_after k s t) t ≡ place_after (suc k) s t
    up e =
        let l = leb-true s t e in
        rw (after_up k s t l, after_up (suc k) s t l)
        (test (s + k <ᵇ t) (λ f. let x = ltb-true (s + k) t f in toward_up (min (s + k) t) t (omega arith) ∙ omega arith)
        (λ f. let x = ltb-false (s + k) t f in toward_self (min (s + k) t) t (omega arith) ∙ omega arith))

    down : (s ≤ᵇ t) ≡ false → toward (place_after k s t) t ≡ place_after (suc k) s t
    down e =
        let l = leb-false s t e in
        rw (after_down k s t l, after_down (suc k) s t l)
        (test (t <ᵇ s - k) (λ f. let x = ltb-true t (s - k) f in toward_down (max (s - k) t) t (omega arith) ∙ omega arith)
        (λ f. let x = ltb-false t (s - k) f in toward_self (max (s - k) t) t (omega arith) ∙ omega arith))

none_yet : (s t : ℕ) → s ≡ place_after 0 s t
none_yet s t =
    test (s ≤ᵇ t) (λ e. let l = leb-true s t e in rw (after_up 0 s t l) (omega arith))
    (λ e. let l = leb-false s t e in rw (after_down 0 s t l) (omega arith))

run_place : (k : ℕ) (d : Drive) → Rules d →
    ((run_for k d).head.place ≡ place_after k d.head.place d.head.target) × ((run_for k d).head.target ≡ d.head.target)
unfolding run_for
run_place zero d r = (none_yet d.head.place d.head.target, refl)
run_place (suc k) d r =
    let p = run_place k d r in
    let n = tick_next (run_for k d) (run_rules k d r) in
    (n.0 ∙ (rw (p.0, p.1) (one_more k d.head.place d.head.target)), n.1 ∙ p.1)

-- ---- the distance left
gap : ℕ → ℕ → ℕ
gap s t = (t - s) + (s - t)

gap_up : (s t : ℕ) → s ≤ t → gap s t ≡ t - s
unfolding gap
gap_up s t l = omega arith

gap_down : (s t : ℕ) → t ≤ s → gap s t ≡ s - t
unfolding gap
gap_down s t l = omega arith

gap_after : (k s t : ℕ) → gap (place_after k s t) t ≡ gap s t - k
gap_after k s t =
    test (s ≤ᵇ t)
    (λ e. let l = leb-true s t e in rw (after_up k s t l, gap_up s t l, gap_up (min (s + k) t) t (omega arith)) (omega arith))
    (λ e. let l = leb-false s t e in rw (after_down k s t l, gap_down s t (omega arith), gap_down (max (s - k) t) t (omega arith)) (omega arith))

pub run_distance : (k : ℕ) (d : Drive) → Rules d → distance (run_for k d) ≡ distance d - k
unfolding distance gap
run_distance k d r =
    let p = run_place k d r in
    rw (p.0, p.1) (gap_after k d.head.place d.head.target)

pub tick_place : TickPlace
tick_place d k e =
    let r = to_rules d e in
    let p = run_place k d r in
    rw (ticks_run k d r) (ap (λ (s : Step). s.number) (tick_is (run_for k d) (run_rules k d r)), p.0, p.1, run_distance k d r)

-- ---- a wait call
still_distance : (d : Drive) → Rules d → is_ready d ≡ true → distance d ≡ 0
unfolding distance
still_distance d r e =
    let q = at_rest r.0.motion e in
    omega arith

off_gap : (s t : ℕ) → (s ≡ t → ⊥) → 1 ≤ gap s t
unfolding gap
off_gap s t n = omega (arith, n)

pub far : (d : Drive) → Rules d → is_ready d ≡ false → 1 ≤ distance d
unfolding distance gap
far d r e = off_gap d.head.place d.head.target (off_target r.0.motion e)

steps_are : (k : ℕ) (d : Drive) → Rules d → steps_to k d ≡ min k (distance d)
unfolding steps_to run_for
steps_are zero d r = omega arith
steps_are (suc k) d r =
    let ih = steps_are k (ticked d) (tick_rules d r) in
    let less : distance (ticked d) ≡ distance d - 1 = run_distance 1 d r in
    either (λ x. x ≡ min (suc k) (distance d)) (is_ready d) _ _ (λ e. omega (arith, still_distance d r e)) (λ e. omega (arith, far d r e))

pub wait_counts : WaitCounts
wait_counts d limit e =
    let r = to_rules d e in
    rw (wait_is d r limit) (refl, steps_are limit d r, sym (ticks_run (steps_to limit d) d r))

-- after as many ticks as the distance, or more, the drive is ready
pub ready_after : (k : ℕ) (d : Drive) → Rules d → distance d ≤ k → is_ready (run_for k d) ≡ true
ready_after k d r l =
    test (is_ready (run_for k d)) (λ e. e)
    (λ e. absurd (lt_irrefl 0 (omega (arith, far (run_for k d) (run_rules k d r) e, run_distance k d r))))

-- ---- a wait call's drive is one after ticks
ticks_reach : (k : ℕ) (d : Drive) → Reachable d → Reachable (after_ticks k d)
unfolding after_ticks
ticks_reach zero d r = r
ticks_reach (suc k) d r = by_tick (after_ticks k d) (ticks_reach k d r) (tick_place d k (reachable_keeps r)).0

pub wait_reaches : WaitReaches
wait_reaches d limit r = rw (wait_counts d limit (reachable_keeps r)).2 (ticks_reach (wait_call d limit).ticks d r)
