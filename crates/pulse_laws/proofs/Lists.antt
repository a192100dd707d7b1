-- A list of trains is its trains sent singly, and the recovery may go by it.
-- Assumes nothing.
use Prim.Native.Nat.{ℕ, zero, suc, ◌+◌, ◌≤◌}
use mathlib.Core.Bool.{true, false}
use mathlib.Core.List.{List, [], ◌∷◌, map, map-map}
use mathlib.Core.Path.{◌≡◌, refl, sym, ap, ◌∙◌}
use native.Mathlib.Nat.{le_refl}
use native.Mathlib.Omega.{arith}
use borrow.Author.Tests.{le-ltb, ltb-false, not-false}
use lib.ListN.{drop, length, replicate, take}
use lib.Seq.{drop-append_seam}
use Rattle.numbers.specs.Choice.{◌<ᵇ◌}
use Rattle.numbers.specs.Member.{is_in}
use Rattle.numbers.specs.Over.{over}
use Rattle.numbers.proofs.MemberLaws.{not_in_parts}
use Rattle.numbers.proofs.OverLaws.{over_length, over_part}
use Rattle.pulse.specs.declared.drive.Drive.{Drive}
use Rattle.pulse.specs.Calls.{Step, not_refused}
use Rattle.pulse.specs.Rules.{keeps_rules}
use Rattle.pulse.specs.Train.{train_step}
use Rattle.pulse.specs.Trains.{Sent, after_list, level_byte, levels_of, trains_call}
use Rattle.pulse_laws.proofs.Answers.{number_exactly}
use Rattle.pulse_laws.proofs.Calls.{train_is, trains_by}
use Rattle.pulse_laws.proofs.Kept.{reachable_keeps, rules_kept}
use Rattle.pulse_laws.proofs.Recovery.{no_pauses, recovers_at_any_pace}
use Rattle.pulse_laws.proofs.Rules.{Rules, to_rules}
use Rattle.pulse_laws.proofs.Trains.{train_rules}
use Rattle.pulse_laws.specs.Demands.{Recovered}
use Rattle.pulse_laws.specs.Lists.{BeyondKept, LevelsBeyondKept, ListIsSingles, ListReaches, RecoversByList, RegainedByList, SentSingly}
use Rattle.pulse_laws.specs.Runs.{Reachable, after_ticks, after_trains, answers, before_error_report, by_train, recovery_trains, silent_ticks}

-- ---- sent singly

record Singly (d : Drive) (ns : List ℕ) : Type 0 where
  answered : map (λ (s : Step). s.number) (answers d ns) ≡ replicate (length ns) not_refused
  drive : after_trains d ns ≡ after_list d ns
  levels : map (λ (s : Step). level_byte s.level) (answers d ns) ≡ levels_of d ns

singly : (d : Drive) (ns : List ℕ) → Rules d → is_in 0 ns ≡ false → Singly d ns
unfolding answers after_trains after_list levels_of
singly d [] r e = record { answered = refl; drive = refl; levels = refl }
singly d (n ∷ ns) r e =
    let z = not_in_parts 0 n ns e in
    let s = singly (train_step d n) ns (train_rules d n r) z.1 in
    let c = train_is d r n z.0 in
    record {
      answered = rw c (ap (λ (l : List ℕ). not_refused ∷ l) s.answered);
      drive = rw c s.drive;
      levels = rw c (ap (λ (l : List ℕ). level_byte (train_step d n).level ∷ l) s.levels);
    }

levels_length : (d : Drive) (ns : List ℕ) → length (levels_of d ns) ≡ length ns
unfolding levels_of
levels_length d [] = refl
levels_length d (n ∷ ns) = ap suc (levels_length (train_step d n) ns)

-- the levels laid over a buffer with room for them
module _ (d : Drive) (counts levels : List ℕ) (l : (length levels <ᵇ length counts) ≡ false) where
  fits : 0 + length (levels_of d counts) ≤ length levels
  fits = omega (arith, levels_length d counts, ltb-false (length levels) (length counts) l)

  told : take (length counts) (over levels 0 (levels_of d counts)) ≡ levels_of d counts
  told = rw (← levels_length d counts) (over_part levels (levels_of d counts) 0 fits)

  beyond : drop (length counts) (over levels 0 (levels_of d counts)) ≡ drop (length counts) levels
  beyond = rw (← levels_length d counts) (drop-append_seam (levels_of d counts) (drop (length (levels_of d counts)) levels))

pub list_is_singles : ListIsSingles
list_is_singles d counts levels =
    trains_by (λ (x : Sent). x.step.number ≡ not_refused → SentSingly d counts x) d counts levels (λ p k. absurd (omega arith))
    (λ p z k. absurd (omega arith)) (λ p z l k. absurd (omega arith))
    (λ p z l k.
    let s = singly d counts (to_rules d (not-false (keeps_rules d) p)) z in
    record {
      answered = s.answered;
      drive = sym s.drive;
      level = ap (λ (x : Drive). x.level) (sym s.drive);
      levels = told d counts levels l ∙ sym s.levels;
    })

pub levels_beyond_kept : LevelsBeyondKept
levels_beyond_kept d counts levels =
    trains_by (λ (x : Sent). BeyondKept counts levels x.levels) d counts levels (λ p. (refl, refl)) (λ p z. (refl, refl)) (λ p z l. (refl, refl))
    (λ p z l. (beyond d counts levels l, over_length levels (levels_of d counts) 0 (fits d counts levels l)))

-- ---- where a list leads

reached : (d : Drive) (ns : List ℕ) → Reachable d → is_in 0 ns ≡ false → Reachable (after_list d ns)
unfolding after_list
reached d [] r e = r
reached d (n ∷ ns) r e =
    let z = not_in_parts 0 n ns e in
    let c = train_is d (to_rules d (reachable_keeps r)) n z.0 in
    let t : Reachable (train_step d n) = rw c at (by_train d n r (rw c refl)) in
    reached (train_step d n) ns t z.1

pub list_reaches : ListReaches
list_reaches d counts levels r =
    trains_by (λ (x : Sent). Reachable x.step.drive) d counts levels (λ p. r) (λ p z. r) (λ p z l. r) (λ p z l. reached d counts r z)

-- ---- recovery by a list

ticks_kept : (k : ℕ) (d : Drive) → keeps_rules d ≡ true → keeps_rules (after_ticks k d) ≡ true
unfolding after_ticks
ticks_kept zero d e = e
ticks_kept (suc k) d e = rules_kept.tick (after_ticks k d) (ticks_kept k d e)

-- mapping keeps places
map_drop : {A B : Type 0} (f : A → B) (k : ℕ) (xs : List A) → drop k (map f xs) ≡ map f (drop k xs)
map_drop f zero xs = refl
map_drop f (suc k) [] = refl
map_drop f (suc k) (x ∷ xs) = map_drop f k xs

module _ (before rested : Drive) (levels : List ℕ) (rules : keeps_rules rested ≡ true) (room : 46 ≤ length levels)
    (x : Recovered before rested (after_trains rested recovery_trains)) where
  abbrev left : Sent
  left = trains_call rested recovery_trains levels

  taken : left.step.number ≡ not_refused
  unfolding is_in
  taken = (number_exactly.trains rested recovery_trains levels).zero.1 (rw rules refl, refl, le-ltb (length levels) 46 room)

  regained : RegainedByList before rested left
  regained =
      let s = list_is_singles rested recovery_trains levels taken in
      let k = length before_error_report in
      let told = drop k (answers rested recovery_trains) in
      record {
        answered = taken;
        back = rw s.drive x;
        named = ap (drop k) s.levels ∙ map_drop (λ (a : Step). level_byte a.level) k (answers rested recovery_trains)
            ∙ sym (map-map level_byte (λ (a : Step). a.level) told) ∙ ap (map level_byte) x.named;
      }

by_rules : (d : Drive) (k : ℕ) (levels : List ℕ) → keeps_rules d ≡ true → d.marks.inside ≡ true → silent_ticks d ≤ k → 46 ≤ length levels →
    RegainedByList d (after_ticks k d) (trains_call (after_ticks k d) recovery_trains levels)
by_rules d k levels rules inside l room =
    let rested = after_ticks k d in
    let p = no_pauses rested recovery_trains in
    regained d rested levels (ticks_kept k d rules) room (rw (← p.0, ← p.1) (recovers_at_any_pace.paced d k (λ i. 0) rules inside l))

pub recovers_by_list : RecoversByList
recovers_by_list =
    record {
      demanded = λ d levels r inside room. by_rules d (silent_ticks d) levels (reachable_keeps r) inside (le_refl (silent_ticks d)) room;
      rested = by_rules;
    }
