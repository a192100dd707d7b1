-- The recovery, on the bytes of a record: the calls of the C interface follow the engine one after the other.
-- Assumes nothing.
use mathlib.Core.Path.{◌≡◌, refl, ◌∙◌, ap}
use mathlib.Core.List.{List, [], ◌∷◌, map}
use Prim.Native.Nat.{ℕ, zero, suc}
use native.Mathlib.Nat.{le_refl}
use Rattle.pulse.specs.declared.drive.Drive.{Drive}
use Rattle.pulse.specs.Calls.{tick_call, train_call}
use Rattle.pulse_laws.specs.Runs.{after_paced, after_ticks, after_trains, answers, paced_answers, recovery_trains, silent_ticks}
use Rattle.pulse_laws.proofs.Recovery.{no_pauses, recovers_at_any_pace}
use Rattle.pulse_record.specs.PulseRecord.{decode_drive}
use Rattle.tapecard.specs.PulseCalls.{pulse_left, pulse_train}
use Rattle.card_laws.specs.Promises.{Bytes, CardRecovers, CardRecoversAtAnyPace}
use Rattle.card_laws.specs.Sessions.{answers_on, paced_answers_on, paced_on, ticks_on, told, trains_on}
use Rattle.card_laws.proofs.PulseFollowing.{pulse_follows, stays_bytes}

pub ticks_bytes : (k : ℕ) (state : List ℕ) → Bytes state → Bytes (ticks_on k state)
unfolding ticks_on
ticks_bytes zero state b = b
ticks_bytes (suc k) state b = stays_bytes.tick (ticks_on k state) (ticks_bytes k state b)

pub ticks_follow : (k : ℕ) (state : List ℕ) → Bytes state → decode_drive (ticks_on k state) ≡ after_ticks k (decode_drive state)
unfolding ticks_on after_ticks
ticks_follow zero state b = refl
ticks_follow (suc k) state b =
    pulse_follows.tick (ticks_on k state) (ticks_bytes k state b) ∙ ap (λ (x : Drive). (tick_call x).drive) (ticks_follow k state b)

paced_follow : (pauses : ℕ → ℕ) (ns state : List ℕ) → Bytes state
    → decode_drive (paced_on pauses state ns) ≡ after_paced pauses (decode_drive state) ns
unfolding paced_on after_paced
paced_follow pauses [] state b = refl
paced_follow pauses (n ∷ ns) state b =
    let rested = ticks_on (pauses 0) state in
    let c = ticks_bytes (pauses 0) state b in
    paced_follow (λ i. pauses (suc i)) ns (pulse_train rested n).state (stays_bytes.train rested n c)
    ∙ ap (λ (x : Drive). after_paced (λ i. pauses (suc i)) x ns)
    (pulse_follows.train rested n c ∙ ap (λ (x : Drive). (train_call x n).drive) (ticks_follow (pauses 0) state b))

answers_follow : (pauses : ℕ → ℕ) (ns state : List ℕ) → Bytes state
    → paced_answers_on pauses state ns ≡ map told (paced_answers pauses (decode_drive state) ns)
unfolding paced_answers_on paced_answers pulse_train pulse_left
answers_follow pauses [] state b = refl
answers_follow pauses (n ∷ ns) state b =
    let rested = ticks_on (pauses 0) state in
    let c = ticks_bytes (pauses 0) state b in
    let ih = answers_follow (λ i. pauses (suc i)) ns (pulse_train rested n).state (stays_bytes.train rested n c) in
    rw (ih, pulse_follows.train rested n c, ticks_follow (pauses 0) state b)

pub card_recovers_at_any_pace : CardRecoversAtAnyPace
card_recovers_at_any_pace state k pauses b rules inside l =
    let rested = ticks_on k state in
    let c = ticks_bytes k state b in
    let x = recovers_at_any_pace.paced (decode_drive state) k pauses rules inside l in
    record {
      drive = rw (paced_follow pauses recovery_trains rested c, ticks_follow k state b) x;
      answered = answers_follow pauses recovery_trains rested c;
    }

-- ---- without a pause

no_pauses_on : (state ns : List ℕ) → (paced_on (λ i. 0) state ns ≡ trains_on state ns) × (paced_answers_on (λ i. 0) state ns ≡ answers_on state ns)
unfolding paced_on trains_on paced_answers_on answers_on ticks_on
no_pauses_on state [] = (refl, refl)
no_pauses_on state (n ∷ ns) =
    let r = no_pauses_on (pulse_train state n).state ns in
    (r.0, ap (λ (l : List (List ℕ)). (pulse_train state n).answer ∷ l) r.1)

-- trains sent one by one
pub trains_follow : (ns state : List ℕ) → Bytes state → decode_drive (trains_on state ns) ≡ after_trains (decode_drive state) ns
trains_follow ns state b = rw (← (no_pauses_on state ns).0, ← (no_pauses (decode_drive state) ns).1) (paced_follow (λ i. 0) ns state b)

pub singles_follow : (ns state : List ℕ) → Bytes state → answers_on state ns ≡ map told (answers (decode_drive state) ns)
singles_follow ns state b = rw (← (no_pauses_on state ns).1, ← (no_pauses (decode_drive state) ns).0) (answers_follow (λ i. 0) ns state b)

pub card_recovers : CardRecovers
card_recovers state b rules inside =
    let k = silent_ticks (decode_drive state) in
    let rested = ticks_on k state in
    let x = card_recovers_at_any_pace state k (λ i. 0) b rules inside (le_refl k) in
    let p = no_pauses_on rested recovery_trains in
    let q = no_pauses (decode_drive rested) recovery_trains in
    record { drive = rw (← p.0, ← q.0) x.drive; answered = rw (← p.1, ← q.0) x.answered }
