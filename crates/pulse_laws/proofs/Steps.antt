-- What a train comes to: the first of 01's seven steps that takes it.
-- Assumes nothing.
use Prim.Native.Nat.{ℕ}
use mathlib.Core.Bool.{true, false, not}
use mathlib.Core.Path.{◌≡◌}
use borrow.Author.Tests.{not-false}
use Rattle.numbers.specs.Choice.{◌≡ᵇ◌}
use Rattle.numbers.proofs.Cases.{either}
use Rattle.pulse_codes.specs.Arguments.{is_waiting}
use Rattle.pulse_codes.specs.Codes.{is_report, report_next_bit, soft_reset, supported}
use Rattle.pulse_parts.specs.Reports.{is_open}
use Rattle.pulse.specs.declared.drive.Drive.{Drive}
use Rattle.pulse.specs.Arguments.{step_argument}
use Rattle.pulse.specs.Commands.{step_command}
use Rattle.pulse.specs.Reports.{step_open_report, step_report}
use Rattle.pulse.specs.Train.{step_next_bit, step_reset, step_unsupported, train_step}

-- n is no reset, and neither a waiting argument nor an open report takes it
pub record Heard (d : Drive) (n : ℕ) : Type 0 where
  pub reset : (n ≡ᵇ soft_reset) ≡ false
  pub waiting : is_waiting d.waiting ≡ false
  pub report : is_open d.report ≡ false

-- n is a supported code that steps 1 to 6 leave
pub record Command (n : ℕ) : Type 0 where
  pub known : supported n ≡ true
  pub report : is_report n ≡ false
  pub reset : (n ≡ᵇ soft_reset) ≡ false
  pub next : (n ≡ᵇ report_next_bit) ≡ false

pub data Taken (d : Drive) (n : ℕ) : Drive → Type 0 where
  by_reset : (n ≡ᵇ soft_reset) ≡ true → Taken d n (step_reset d)
  by_argument : (n ≡ᵇ soft_reset) ≡ false → is_waiting d.waiting ≡ true → Taken d n (step_argument d n)
  by_report : (n ≡ᵇ soft_reset) ≡ false → is_waiting d.waiting ≡ false → is_open d.report ≡ true → Taken d n (step_report d n)
  by_next_bit : Heard d n → (n ≡ᵇ report_next_bit) ≡ true → Taken d n (step_next_bit d)
  by_unsupported : Heard d n → Taken d n (step_unsupported d n)
  by_opening : Heard d n → is_report n ≡ true → Taken d n (step_open_report d n)
  by_command : Heard d n → Command n → Taken d n (step_command d n)

-- one of them takes it; whatever holds of each step holds of the train
pub train_taken : (d : Drive) (n : ℕ) → Taken d n (train_step d n)
unfolding train_step
train_taken d n =
    either (Taken d n) (n ≡ᵇ soft_reset) _ _ (λ e. by_reset e)
    (λ e. either (Taken d n) (is_waiting d.waiting) _ _ (λ w. by_argument e w)
    (λ w. either (Taken d n) (is_open d.report) _ _ (λ o. by_report e w o)
    (λ o.
    let h : Heard d n = record { reset = e; waiting = w; report = o } in
    either (Taken d n) (n ≡ᵇ report_next_bit) _ _ (λ f. by_next_bit h f)
    (λ f. either (Taken d n) (not (supported n)) _ _ (λ s. by_unsupported h)
    (λ s. either (Taken d n) (is_report n) _ _ (λ p. by_opening h p)
    (λ p. by_command h (record { known = not-false (supported n) s; report = p; reset = e; next = f })))))))
