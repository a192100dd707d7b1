-- Refusals, their numbers, and one outcome for each call.
-- Assumes nothing.
use Prim.Native.Nat.{ℕ, ◌<◌}
use native.Mathlib.Omega.{arith}
use mathlib.Core.Bool.{Bool, true, false, not, cond, true≢false, false≢true}
use mathlib.Core.List.{List}
use mathlib.Core.Logic.{◌≢◌}
use mathlib.Core.Path.{◌≡◌, refl, sym, ap, ◌∙◌}
use lib.ListN.{length}
use Rattle.numbers.specs.Choice.{◌≡ᵇ◌, ◌<ᵇ◌}
use Rattle.numbers.specs.Member.{is_in}
use Rattle.std.specs.Prelude.{Result, Ok, Err}
use Rattle.numbers.specs.declared.refusals.Refusal.{Refusal}
use Rattle.numbers.proofs.Cases.{settles}
use Rattle.numbers.proofs.RefusalLaws.{by_number, by_reason}
use Rattle.pulse.specs.declared.calls.Waited.{Waited as Passed}
use Rattle.pulse_parts.specs.declared.cartridge.Cartridge.{Cartridge}
use Rattle.pulse.specs.declared.drive.Drive.{Drive}
use Rattle.pulse.specs.Calls.{Step, Waited, already_so, rules_broken, empty_train, insert_call, not_refused, outside_ranges, remove_call}
use Rattle.pulse.specs.Calls.{refused, told, told_wait, tick_call, train_call, wait_call}
use Rattle.pulse.specs.Drives.{power_on}
use Rattle.pulse.specs.Rules.{keeps_rules}
use Rattle.pulse.specs.Trains.{Sent, sent, short_levels, trains_call}
use Rattle.pulse_laws.proofs.Calls.{insert_by, remove_by, tick_by, train_by, trains_by, wait_by}
use Rattle.pulse_laws.specs.Demands.{NumberExactly, RefusedKeeps, Settled}
use Rattle.pulse_laws.specs.Runs.{Exactly, KeepsIfRefused, outside_its_ranges}

-- ---- a refusal alters nothing
module _ (d : Drive) where
  train_keeps : (n : ℕ) → KeepsIfRefused d (train_call d n)
  train_keeps n = train_by (KeepsIfRefused d) d (λ p k. (refl, refl)) n (λ p z k. (refl, refl)) (λ p z k. absurd (k refl))

  tick_keeps : KeepsIfRefused d (tick_call d)
  tick_keeps = tick_by (KeepsIfRefused d) d (λ p k. (refl, refl)) (λ p k. absurd (k refl))

  insert_keeps : (cart : Cartridge) (place : ℕ) → KeepsIfRefused d (insert_call d cart place)
  insert_keeps cart place =
      insert_by (KeepsIfRefused d) d (λ p k. (refl, refl)) cart place (λ p i k. (refl, refl)) (λ p i o k. (refl, refl)) (λ p i o k. absurd (k refl))

  remove_keeps : KeepsIfRefused d (remove_call d)
  remove_keeps = remove_by (KeepsIfRefused d) d (λ p k. (refl, refl)) (λ p i k. (refl, refl)) (λ p i k. absurd (k refl))

abbrev WaitKeeps : Drive → Waited → Type 0
WaitKeeps d w = w.number ≢ not_refused → (w.level ≡ false) × (w.ticks ≡ 0) × (w.drive ≡ d)

wait_keeps : (d : Drive) (limit : ℕ) → WaitKeeps d (wait_call d limit)
wait_keeps d limit = wait_by (WaitKeeps d) d limit (λ p k. (refl, refl, refl)) (λ p k. absurd (k refl))

abbrev ListKeeps : Drive → List ℕ → Sent → Type 0
ListKeeps d levels x = x.step.number ≢ not_refused → x ≡ sent (refused d x.step.number) levels

trains_keeps : (d : Drive) (counts levels : List ℕ) → ListKeeps d levels (trains_call d counts levels)
trains_keeps d counts levels =
    trains_by (ListKeeps d levels) d counts levels (λ p k. refl) (λ p z k. refl) (λ p z l k. refl) (λ p z l k. absurd (k refl))

pub refused_keeps : RefusedKeeps
refused_keeps =
    record { train = train_keeps; tick = tick_keeps; insert = insert_keeps; remove = remove_keeps; wait = wait_keeps; trains = trains_keeps }

-- ---- the numbers
-- what the order picks
abbrev picked : Bool → ℕ → Bool → ℕ → Bool → ℕ
picked broken second holds third last = cond broken rules_broken (cond holds second (cond last third not_refused))

-- the numbers that an order can pick differ
record Apart (second third : ℕ) : Type 0 where
  eight_second : rules_broken ≢ second
  eight_third : rules_broken ≢ third
  second_third : second ≢ third
  second_zero : second ≢ not_refused
  third_zero : third ≢ not_refused

exactly : (b : Bool) (k : ℕ) (h : Bool) (t : ℕ) (o : Bool) → Apart k t → Exactly (picked b k h t o) b k h t o
exactly true k h t o a =
    record {
      eight = (λ p. refl, λ p. refl);
      next = (λ p. absurd (a.eight_second p), λ p. absurd (true≢false p.0));
      last = (λ p. absurd (a.eight_third p), λ p. absurd (true≢false p.0));
      zero = (λ p. absurd (omega arith), λ p. absurd (true≢false p.0));
    }
exactly false k true t o a =
    record {
      eight = (λ p. absurd (a.eight_second (sym p)), λ p. absurd (false≢true p));
      next = (λ p. (refl, refl), λ p. refl);
      last = (λ p. absurd (a.second_third p), λ p. absurd (true≢false p.1));
      zero = (λ p. absurd (a.second_zero p), λ p. absurd (true≢false p.1));
    }
exactly false k false t true a =
    record {
      eight = (λ p. absurd (a.eight_third (sym p)), λ p. absurd (false≢true p));
      next = (λ p. absurd (a.second_third (sym p)), λ p. absurd (false≢true p.1));
      last = (λ p. (refl, refl, refl), λ p. refl);
      zero = (λ p. absurd (a.third_zero p), λ p. absurd (true≢false p.2));
    }
exactly false k false t false a =
    record {
      eight = (λ p. absurd (omega arith), λ p. absurd (false≢true p));
      next = (λ p. absurd (a.second_zero (sym p)), λ p. absurd (false≢true p.1));
      last = (λ p. absurd (a.third_zero (sym p)), λ p. absurd (false≢true p.2));
      zero = (λ p. (refl, refl, refl), λ p. refl);
    }

abbrev Number : ℕ → Step → Type 0
Number k s = s.number ≡ k

module _ (d : Drive) where
  train_number : (n : ℕ) → (train_call d n).number ≡ picked (not (keeps_rules d)) empty_train (n ≡ᵇ 0) outside_ranges false
  train_number n =
      train_by (Number (picked (not (keeps_rules d)) empty_train (n ≡ᵇ 0) outside_ranges false)) d (λ p. rw p) n (λ p z. rw (p, z)) (λ p z. rw (p, z))

  tick_number : (tick_call d).number ≡ picked (not (keeps_rules d)) empty_train false outside_ranges false
  tick_number = tick_by (Number (picked (not (keeps_rules d)) empty_train false outside_ranges false)) d (λ p. rw p) (λ p. rw p)

  insert_number : (cart : Cartridge) (place : ℕ) →
      (insert_call d cart place).number ≡ picked (not (keeps_rules d)) already_so d.marks.inside outside_ranges (outside_its_ranges cart place)
  insert_number cart place =
      insert_by (Number (picked (not (keeps_rules d)) already_so d.marks.inside outside_ranges (outside_its_ranges cart place))) d (λ p. rw p) cart place
      (λ p i. rw (p, i)) (λ p i o. rw (p, i, o)) (λ p i o. rw (p, i, o))

  remove_number : (remove_call d).number ≡ picked (not (keeps_rules d)) already_so (not d.marks.inside) outside_ranges false
  remove_number =
      remove_by (Number (picked (not (keeps_rules d)) already_so (not d.marks.inside) outside_ranges false)) d (λ p. rw p) (λ p i. rw (p, i))
      (λ p i. rw (p, i))

  wait_number : (limit : ℕ) → (wait_call d limit).number ≡ picked (not (keeps_rules d)) empty_train false outside_ranges false
  wait_number limit =
      wait_by (λ (w : Waited). w.number ≡ picked (not (keeps_rules d)) empty_train false outside_ranges false) d limit (λ p. rw p) (λ p. rw p)

  trains_number : (counts levels : List ℕ) → (trains_call d counts levels).step.number
      ≡ picked (not (keeps_rules d)) empty_train (is_in 0 counts) short_levels (length levels <ᵇ length counts)
  trains_number counts levels =
      trains_by
      (λ (x : Sent). x.step.number ≡ picked (not (keeps_rules d)) empty_train (is_in 0 counts) short_levels (length levels <ᵇ length counts))
      d counts levels (λ p. rw p) (λ p z. rw (p, z)) (λ p z l. rw (p, z, l)) (λ p z l. rw (p, z, l))

apart : {k t : ℕ} → 0 < k → k < rules_broken → 0 < t → t < rules_broken → k ≢ t → Apart k t
apart a b c d e =
    record {
      eight_second = λ p. omega arith;
      eight_third = λ p. omega arith;
      second_third = e;
      second_zero = λ p. omega arith;
      third_zero = λ p. omega arith;
    }

five_six : Apart empty_train outside_ranges
five_six = apart (omega arith) (omega arith) (omega arith) (omega arith) (λ p. omega arith)

seven_six : Apart already_so outside_ranges
seven_six = apart (omega arith) (omega arith) (omega arith) (omega arith) (λ p. omega arith)

five_four : Apart empty_train short_levels
five_four = apart (omega arith) (omega arith) (omega arith) (omega arith) (λ p. omega arith)

pub number_exactly : NumberExactly
number_exactly =
    record {
      train = λ d n. rw (train_number d n) (exactly _ _ _ _ _ five_six);
      tick = λ d. rw (tick_number d) (exactly _ _ _ _ _ five_six);
      insert = λ d cart place. rw (insert_number d cart place) (exactly _ _ _ _ _ seven_six);
      remove = λ d. rw (remove_number d) (exactly _ _ _ _ _ seven_six);
      wait = λ d limit. rw (wait_number d limit) (exactly _ _ _ _ _ five_six);
      trains = λ d counts levels. rw (trains_number d counts levels) (exactly _ _ _ _ _ five_four);
    }

-- ---- one outcome
result_again : (d : Drive) (r : Result Drive Refusal) → by_number (told d r).number (told d r).drive ≡ r
result_again d (Ok next) = refl
result_again d (Err reason) = by_reason reason d

abbrev passed_in : Waited → Passed
passed_in w = record { ticks = w.ticks; drive = w.drive }

wait_again : (d : Drive) (r : Result Passed Refusal) → by_number (told_wait d r).number (passed_in (told_wait d r)) ≡ r
wait_again d (Ok passed) = refl
wait_again d (Err reason) = by_reason reason (passed_in (told_wait d (Err reason)))

pub settled : Settled
settled =
    record {
      by_power_on = λ vendor rom. settles (power_on vendor rom);
      train = λ d n. settles (train_call d n);
      tick = λ d. settles (tick_call d);
      insert = λ d cart place. settles (insert_call d cart place);
      remove = λ d. settles (remove_call d);
      wait = λ d limit. settles (wait_call d limit);
      trains = λ d counts levels. settles (trains_call d counts levels);
      results = λ d r r' e. sym (result_again d r) ∙ ap (λ (x : Step). by_number x.number x.drive) e ∙ result_again d r';
      waits = λ d r r' e. sym (wait_again d r) ∙ ap (λ (x : Waited). by_number x.number (passed_in x)) e ∙ wait_again d r';
    }
