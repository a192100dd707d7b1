-- What starts, stops and moves the tape, and an error that is held, keep the rules.
-- Assumes nothing.
use Prim.Native.Nat.{ℕ, ◌≤◌}
use native.Mathlib.Omega.{arith}
use mathlib.Core.Bool.{Bool, true, false, not, or-true}
use mathlib.Core.Path.{◌≡◌, refl, sym, ◌∙◌, ap}
use borrow.Author.Tests.{leb-true, ltb-true, eqb-false}
use Rattle.numbers.specs.Choice.{◌<ᵇ◌, ◌≡ᵇ◌, ◌≤ᵇ◌}
use Rattle.numbers.proofs.Cases.{ands, either, never, or_r}
use Rattle.pulse_codes.specs.Errors.{admitted}
use Rattle.pulse_parts.specs.declared.cartridge.Cartridge.{Cartridge}
use Rattle.pulse_parts.specs.declared.head.Head.{Head}
use Rattle.pulse_parts.specs.declared.head.Motion.{Motion}
use Rattle.pulse_parts.specs.declared.head.Motion.TheVariants.{Load, Run, Still}
use Rattle.pulse_parts.specs.Faults.{error_held}
use Rattle.pulse_parts.specs.Heads.{headed_for, held_at, is_run, is_still, stood_at, toward}
use Rattle.pulse.specs.declared.drive.Drive.{Drive}
use Rattle.pulse.specs.Drives.{is_ready, with_fault, with_head, without_arguments}
use Rattle.pulse.specs.Motions.{arrived, latched, load_ended, load_started, motion_ended, run_started, stopped, ticked}
use Rattle.pulse.specs.Rules.{held_error_fits}
use Rattle.pulse_laws.proofs.Rules.{Calm, Cart, Moves, Within, bare, full, loads, rests, runs}

-- where a cartridge is in
pub within : {c : Cartridge} {s t k : ℕ} {i r f : Bool} → Cart c s t k i r f → i ≡ true → Within c s t k
within (full p w) e = w
within (bare p w) e = never e p

-- what is off its target is within a cartridge
pub on_the_way : {c : Cartridge} {s t k : ℕ} {i r f : Bool} → Cart c s t k i r f → (s ≡ t → ⊥) → i ≡ true
on_the_way (full p w) n = p
on_the_way (bare p w) n = absurd (n (w.place ∙ sym w.target))

-- the head of a drive is replaced
head_calm : (d : Drive) (h : Head) → Calm d →
    Cart d.cart h.place h.target h.track d.marks.inside d.marks.referenced d.marks.fresh →
    Moves h.motion h.place h.target → held_error_fits d.fault h ≡ true → Calm (with_head d h)
head_calm d h r c m e = record { cart = c; motion = m; rate = r.rate; error = r.error; report = r.report; held = e }

held_cart : {c : Cartridge} {s t k : ℕ} {i r f : Bool} → Cart c s t k i r f → Cart c s s k i r f
held_cart (full p w) = full p (record { ranges = w.ranges; place = w.place; target = w.place; track = w.track })
held_cart (bare p w) =
    bare p (record { none = w.none; place = w.place; target = w.place; track = w.track; referenced = w.referenced; fresh = w.fresh })

pub stop_calm : (d : Drive) → Calm d → Calm (stopped d)
stop_calm d r = head_calm d (held_at d.head) r (held_cart r.cart) (rests refl refl) (or-true (not (error_held d.fault)))

-- an admitted error is held
fault_calm : (d : Drive) (e n : ℕ) → admitted e ≡ true → is_run d.head.motion ≡ false → Calm d → Calm (with_fault d e n)
fault_calm d e n a p r =
    record {
      cart = r.cart;
      motion = r.motion;
      rate = r.rate;
      error = a;
      report = r.report;
      held = or_r (not (not (e ≡ᵇ 0))) (not (is_run d.head.motion)) (ap not p);
    }

stop_fault_calm : (d : Drive) (e n : ℕ) → admitted e ≡ true → Calm d → Calm (stopped (with_fault d e n))
stop_fault_calm d e n a r = fault_calm (stopped d) e n a refl (stop_calm d r)

pub latch_calm : (d : Drive) (e n : ℕ) → admitted e ≡ true → Calm d → Calm (latched d e n)
unfolding latched
latch_calm d e n a r =
    either Calm (error_held d.fault) _ _ (λ p. r)
    (λ p. either Calm (is_run d.head.motion) _ _ (λ q. stop_fault_calm d e n a r) (λ q. fault_calm d e n a q r))

-- a load ends at the start, within any cartridge
start_within : {c : Cartridge} {s t k : ℕ} → Within c s t k → Within c 0 0 0
start_within {c} w =
    let x = w.ranges in
    let e : (1 ≤ᵇ c.tracks) ≡ true = search ands depth 7 in
    record { ranges = w.ranges; place = omega arith; target = omega arith; track = leb-true _ _ e }

pub end_calm : (d : Drive) → Calm d → d.marks.inside ≡ true → Calm (load_ended d)
end_calm d r i =
    record {
      cart = full i (start_within (within r.cart i));
      motion = rests refl refl;
      rate = r.rate;
      error = r.error;
      report = r.report;
      held = or-true (not (error_held d.fault));
    }

-- the target of a motion
aimed_within : {c : Cartridge} {s t k : ℕ} (u : ℕ) → u ≤ c.segments → Within c s t k → Within c s u k
aimed_within u l w = record { ranges = w.ranges; place = w.place; target = l; track = w.track }

pub load_calm : (d : Drive) → Calm d → d.marks.inside ≡ true → Calm (load_started d)
unfolding load_started
load_calm d r i =
    either Calm (d.head.place ≡ᵇ 0) _ _ (λ e. end_calm d r i)
    (λ e. head_calm d (headed_for d.head 0 Load) r (full i (aimed_within 0 (omega arith) (within r.cart i)))
    (loads refl refl (eqb-false _ _ e)) (or-true (not (error_held d.fault))))

pub run_calm : (d : Drive) (t : ℕ) → Calm d → d.marks.inside ≡ true → t ≤ d.cart.segments → error_held d.fault ≡ false →
    Calm (run_started d t)
unfolding run_started
run_calm d t r i l f =
    either Calm (d.head.place ≡ᵇ t) _ _ (λ e. stop_calm d r)
    (λ e. head_calm d (headed_for d.head t Run) r (full i (aimed_within t l (within r.cart i))) (runs refl (eqb-false _ _ e)) (rw f))

-- the end of a motion has what each motion's end has
pub ended : (P : Drive → Type 0) (m : Motion) (d : Drive) → (m ≡ Still → P d) → (m ≡ Run → P (stopped d)) →
    (m ≡ Load → P (load_ended d)) → P (motion_ended m d)
ended P Still d s r l = s refl
ended P Run d s r l = r refl
ended P Load d s r l = l refl

-- one place nearer
toward_within : {c : Cartridge} {s t k : ℕ} → Within c s t k → Within c (toward s t) t k
toward_within {c} {s} {t} w =
    record {
      ranges = w.ranges;
      place =
          either (λ x. x ≤ c.segments) (s <ᵇ t) _ _ (λ e. omega (arith, ltb-true s t e))
          (λ e. either (λ x. x ≤ c.segments) (t <ᵇ s) _ _ (λ f. omega arith) (λ f. w.place));
      target = w.target;
      track = w.track;
    }

abbrev pub nearer : Head → Head
nearer h = stood_at h (toward h.place h.target)

-- a drive that is off its target comes one nearer
near_calm : (d : Drive) → Calm d → d.marks.inside ≡ true → Moves d.head.motion (toward d.head.place d.head.target) d.head.target →
    Calm (with_head d (nearer d.head))
near_calm d r i m = head_calm d (nearer d.head) r (full i (toward_within (within r.cart i))) m r.held

module _ (d : Drive) (r : Calm d) (i : d.marks.inside ≡ true) where
  -- at the target, with any motion
  pub there_calm : Calm (with_head d (held_at (nearer d.head)))
  there_calm =
      head_calm d (held_at (nearer d.head)) r (held_cart (full i (toward_within (within r.cart i)))) (rests refl refl)
      (or-true (not (error_held d.fault)))

  pub arrive_calm : Moves d.head.motion d.head.place d.head.target → (d.head.place ≡ d.head.target → ⊥) →
      Calm (arrived (with_head d (nearer d.head)))
  unfolding arrived
  arrive_calm m n =
      either Calm (toward d.head.place d.head.target ≡ᵇ d.head.target) _ _
      (λ e. ended Calm d.head.motion (with_head d (nearer d.head)) (λ s. absurd (moves m s)) (λ s. there_calm) (λ s. end_calm d r i))
      (λ e. near_calm d r i (off m (eqb-false _ _ e)))
    where
      moves : Moves d.head.motion d.head.place d.head.target → d.head.motion ≡ Still → ⊥
      moves (rests p e) s = n e
      moves (runs p e) s = never (ap is_still s) (ap is_still p)
      moves (loads p z e) s = never (ap is_still s) (ap is_still p)

      off : Moves d.head.motion d.head.place d.head.target → (toward d.head.place d.head.target ≡ d.head.target → ⊥) →
          Moves d.head.motion (toward d.head.place d.head.target) d.head.target
      off (rests p e) f = absurd (n e)
      off (runs p e) f = runs p f
      off (loads p z e) f = loads p z f

pub off_target : {m : Motion} {s t : ℕ} → Moves m s t → is_still m ≡ false → s ≡ t → ⊥
off_target (rests p e) f = never (ap is_still p) f
off_target (runs p n) f = n
off_target (loads p z n) f = n

pub tick_calm : (d : Drive) → Calm d → Calm (ticked d)
unfolding ticked
tick_calm d r =
    either Calm (is_ready d) _ _ (λ e. r)
    (λ e.
    let n = off_target r.motion e in
    arrive_calm (without_arguments d) r (on_the_way r.cart n) r.motion n)
