-- What each call comes to: its refusals in their order, else the step.
-- Assumes nothing.
use Prim.Native.Nat.{ℕ}
use mathlib.Core.Bool.{true, false, not}
use mathlib.Core.List.{List}
use mathlib.Core.Path.{◌≡◌}
use lib.ListN.{length}
use Rattle.numbers.specs.Choice.{◌≡ᵇ◌, ◌<ᵇ◌}
use Rattle.numbers.specs.Member.{is_in}
use Rattle.numbers.specs.Over.{over}
use Rattle.numbers.proofs.Cases.{either}
use Rattle.pulse_parts.specs.declared.cartridge.Cartridge.{Cartridge}
use Rattle.pulse.specs.declared.drive.Drive.{Drive}
use Rattle.pulse.specs.Calls.{Step, Waited, accepted, accepted_wait, already_so, rules_broken, empty_train, insert_call, outside_ranges, refused, refused_wait}
use Rattle.pulse.specs.Calls.{remove_call, tick_call, train_call, wait_call}
use Rattle.pulse.specs.Events.{inserted, removed, run_for, steps_to}
use Rattle.pulse.specs.Motions.{ticked}
use Rattle.pulse.specs.Rules.{keeps_rules}
use Rattle.pulse.specs.Train.{train_step}
use Rattle.pulse.specs.Trains.{Sent, after_list, levels_of, sent, short_levels, trains_call}
use Rattle.pulse_laws.proofs.Rules.{Rules, of_rules}
use Rattle.pulse_laws.specs.Runs.{outside_its_ranges}

-- ---- whatever holds of every outcome holds of the call
module _ (P : Step → Type 0) (d : Drive) (broken : not (keeps_rules d) ≡ true → P (refused d rules_broken)) where
  pub train_by : (n : ℕ) → (not (keeps_rules d) ≡ false → (n ≡ᵇ 0) ≡ true → P (refused d empty_train)) →
      (not (keeps_rules d) ≡ false → (n ≡ᵇ 0) ≡ false → P (accepted (train_step d n))) → P (train_call d n)
  unfolding train_call
  train_by n f g = either P (not (keeps_rules d)) _ _ broken (λ e. either P (n ≡ᵇ 0) _ _ (f e) (g e))

  pub tick_by : (not (keeps_rules d) ≡ false → P (accepted (ticked d))) → P (tick_call d)
  unfolding tick_call
  tick_by f = either P (not (keeps_rules d)) _ _ broken f

  pub insert_by : (cart : Cartridge) (place : ℕ) → (not (keeps_rules d) ≡ false → d.marks.inside ≡ true → P (refused d already_so)) →
      (not (keeps_rules d) ≡ false → d.marks.inside ≡ false → outside_its_ranges cart place ≡ true → P (refused d outside_ranges)) →
      (not (keeps_rules d) ≡ false → d.marks.inside ≡ false → outside_its_ranges cart place ≡ false → P (accepted (inserted d cart place))) →
      P (insert_call d cart place)
  unfolding insert_call
  insert_by cart place f g h =
      either P (not (keeps_rules d)) _ _ broken
      (λ e. either P d.marks.inside _ _ (f e) (λ i. either P (outside_its_ranges cart place) _ _ (g e i) (h e i)))

  pub remove_by : (not (keeps_rules d) ≡ false → not d.marks.inside ≡ true → P (refused d already_so)) →
      (not (keeps_rules d) ≡ false → not d.marks.inside ≡ false → P (accepted (removed d))) → P (remove_call d)
  unfolding remove_call
  remove_by f g = either P (not (keeps_rules d)) _ _ broken (λ e. either P (not d.marks.inside) _ _ (f e) (g e))

pub wait_by : (P : Waited → Type 0) (d : Drive) (limit : ℕ) → (not (keeps_rules d) ≡ true → P (refused_wait d rules_broken)) →
    (not (keeps_rules d) ≡ false → P (accepted_wait (steps_to limit d) (run_for (steps_to limit d) d))) → P (wait_call d limit)
unfolding wait_call
wait_by P d limit f g = either P (not (keeps_rules d)) _ _ f g

pub trains_by : (P : Sent → Type 0) (d : Drive) (counts levels : List ℕ) → (not (keeps_rules d) ≡ true → P (sent (refused d rules_broken) levels)) →
    (not (keeps_rules d) ≡ false → is_in 0 counts ≡ true → P (sent (refused d empty_train) levels)) →
    (not (keeps_rules d) ≡ false → is_in 0 counts ≡ false → (length levels <ᵇ length counts) ≡ true → P (sent (refused d short_levels) levels)) →
    (not (keeps_rules d) ≡ false → is_in 0 counts ≡ false → (length levels <ᵇ length counts) ≡ false →
    P (sent (accepted (after_list d counts)) (over levels 0 (levels_of d counts)))) → P (trains_call d counts levels)
unfolding trains_call
trains_by P d counts levels f g h i =
    either P (not (keeps_rules d)) _ _ f
    (λ e. either P (is_in 0 counts) _ _ (g e) (λ z. either P (length levels <ᵇ length counts) _ _ (h e z) (i e z)))

-- ---- with a drive that keeps the rules
module _ (d : Drive) (r : Rules d) where
  pub train_is : (n : ℕ) → (n ≡ᵇ 0) ≡ false → train_call d n ≡ accepted (train_step d n)
  unfolding train_call
  train_is n e = rw (of_rules d r, e)

  pub tick_is : tick_call d ≡ accepted (ticked d)
  unfolding tick_call
  tick_is = rw (of_rules d r)

  pub wait_is : (limit : ℕ) → wait_call d limit ≡ accepted_wait (steps_to limit d) (run_for (steps_to limit d) d)
  unfolding wait_call
  wait_is limit = rw (of_rules d r)
