-- Every call keeps the rules, and every reachable drive keeps them.
-- Assumes nothing.
use Prim.Native.Nat.{ℕ}
use mathlib.Core.Bool.{true}
use mathlib.Core.List.{List, [], ◌∷◌}
use mathlib.Core.Path.{◌≡◌}
use borrow.Author.Tests.{not-false}
use Rattle.pulse_parts.specs.declared.cartridge.Cartridge.{Cartridge}
use Rattle.pulse.specs.declared.drive.Drive.{Drive}
use Rattle.pulse.specs.Calls.{Step, Waited, insert_call, remove_call, tick_call, train_call, wait_call}
use Rattle.pulse.specs.Drives.{power_on}
use Rattle.pulse.specs.Events.{inserted, removed, run_for, steps_to}
use Rattle.pulse.specs.Motions.{ticked}
use Rattle.pulse.specs.Rules.{keeps_rules}
use Rattle.pulse.specs.Train.{train_step}
use Rattle.pulse.specs.Trains.{Sent, after_list, trains_call}
use Rattle.pulse_laws.proofs.Calls.{insert_by, remove_by, tick_by, train_by, trains_by, wait_by}
use Rattle.pulse_laws.proofs.Rules.{Rules, of_rules, to_rules}
use Rattle.pulse_laws.proofs.Trains.{insert_rules, power_rules, remove_rules, run_rules, tick_rules, train_rules}
use Rattle.pulse_laws.specs.Demands.{RulesKept}
use Rattle.pulse_laws.specs.Runs.{Reachable, at_power_on, by_insertion, by_removal, by_tick, by_train}

abbrev Good : Step → Type 0
Good s = keeps_rules s.drive ≡ true

module _ (d : Drive) (e : keeps_rules d ≡ true) where
  train_kept : (n : ℕ) → Good (train_call d n)
  train_kept n = train_by Good d (λ p. e) n (λ p z. e) (λ p z. of_rules (train_step d n) (train_rules d n (to_rules d e)))

  tick_kept : Good (tick_call d)
  tick_kept = tick_by Good d (λ p. e) (λ p. of_rules (ticked d) (tick_rules d (to_rules d e)))

  insert_kept : (cart : Cartridge) (place : ℕ) → Good (insert_call d cart place)
  insert_kept cart place =
      insert_by Good d (λ p. e) cart place (λ p i. e) (λ p i o. e)
      (λ p i o. of_rules (inserted d cart place) (insert_rules d cart place (not-false _ o) (to_rules d e)))

  remove_kept : Good (remove_call d)
  remove_kept = remove_by Good d (λ p. e) (λ p i. e) (λ p i. of_rules (removed d) (remove_rules d (to_rules d e)))

  wait_kept : (limit : ℕ) → keeps_rules (wait_call d limit).drive ≡ true
  wait_kept limit =
      wait_by (λ (w : Waited). keeps_rules w.drive ≡ true) d limit (λ p. e)
      (λ p. of_rules (run_for (steps_to limit d) d) (run_rules (steps_to limit d) d (to_rules d e)))

list_rules : (d : Drive) (counts : List ℕ) → Rules d → Rules (after_list d counts)
unfolding after_list
list_rules d [] r = r
list_rules d (n ∷ ns) r = list_rules (train_step d n) ns (train_rules d n r)

trains_kept : (d : Drive) (counts levels : List ℕ) → keeps_rules d ≡ true → keeps_rules (trains_call d counts levels).step.drive ≡ true
trains_kept d counts levels e =
    trains_by (λ (x : Sent). keeps_rules x.step.drive ≡ true) d counts levels (λ p. e) (λ p z. e) (λ p z l. e)
    (λ p z l. of_rules (after_list d counts) (list_rules d counts (to_rules d e)))

pub rules_kept : RulesKept
rules_kept =
    record {
      by_power_on = λ vendor rom. of_rules (power_on vendor rom) (power_rules vendor rom);
      train = λ d n e. train_kept d e n;
      tick = tick_kept;
      insert = λ d cart place e. insert_kept d e cart place;
      remove = remove_kept;
      wait = λ d limit e. wait_kept d e limit;
      trains = trains_kept;
    }

pub reachable_keeps : {d : Drive} → Reachable d → keeps_rules d ≡ true
reachable_keeps (at_power_on vendor rom) = rules_kept.by_power_on vendor rom
reachable_keeps (by_train d n r e) = rules_kept.train d n (reachable_keeps r)
reachable_keeps (by_tick d r e) = rules_kept.tick d (reachable_keeps r)
reachable_keeps (by_insertion d cart place r e) = rules_kept.insert d cart place (reachable_keeps r)
reachable_keeps (by_removal d r e) = rules_kept.remove d (reachable_keeps r)
