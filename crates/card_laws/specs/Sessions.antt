-- Calls of the pulse drive one after the other, on one record's bytes.
-- Assumes nothing.
use Rattle.std.specs.Prelude.{ℕ, zero, suc, List, [], ◌∷◌}
use Rattle.pulse.specs.Calls.{Step}
use Rattle.pulse_record.specs.PulseRecord.{encode_told}
use Rattle.tapecard.specs.PulseCalls.{pulse_train, pulse_tick}

-- the record after k tick calls
unfoldable pub ticks_on : ℕ → List ℕ → List ℕ
ticks_on zero state = state
ticks_on (suc k) state = (pulse_tick (ticks_on k state)).state

-- the record after trains that are sent one by one
unfoldable pub trains_on : List ℕ → List ℕ → List ℕ
trains_on state [] = state
trains_on state (n ∷ ns) = trains_on (pulse_train state n).state ns

-- the answers to them
unfoldable pub answers_on : List ℕ → List ℕ → List (List ℕ)
answers_on state [] = []
answers_on state (n ∷ ns) = (pulse_train state n).answer ∷ answers_on (pulse_train state n).state ns

-- the record after trains that are sent at any pace: `pauses 0` ticks before the first, `pauses 1` before the second, and so on
unfoldable pub paced_on : (ℕ → ℕ) → List ℕ → List ℕ → List ℕ
paced_on pauses state [] = state
paced_on pauses state (n ∷ ns) = paced_on (λ i. pauses (suc i)) (pulse_train (ticks_on (pauses 0) state) n).state ns

-- the answers to them
unfoldable pub paced_answers_on : (ℕ → ℕ) → List ℕ → List ℕ → List (List ℕ)
paced_answers_on pauses state [] = []
paced_answers_on pauses state (n ∷ ns) =
    (pulse_train (ticks_on (pauses 0) state) n).answer ∷ paced_answers_on (λ i. pauses (suc i)) (pulse_train (ticks_on (pauses 0) state) n).state ns

-- the eight bytes of a train's answer
abbrev pub told : Step → List ℕ
told x = encode_told x.number x.level 0
