-- What the loop over a list of trains keeps from turn to turn.
-- Assumes nothing.
use Prim.Native.Nat.{ℕ, ◌+◌, ◌<◌, ◌≤◌}
use mathlib.Core.List.{List, [], ◌∷◌}
use mathlib.Core.Path.{◌≡◌, sym, ◌∙◌}
use native.Mathlib.Numerals.{add-one}
use native.Mathlib.Omega.{arith}
use lib.ListN.{length, get_or, drop, set, drop_of_length-le}
use lib.Seq.{drop-cons}
use Rattle.numbers.specs.Flags.{weight_of}
use Rattle.numbers.specs.Over.{over}
use Rattle.numbers.proofs.OverLaws.{over_more, over_none, set_over}
use Rattle.pulse.specs.declared.drive.Drive.{Drive}
use Rattle.pulse.specs.Train.{train_step}
use Rattle.pulse.specs.Trains.{after_list, levels_of}

-- how things stand after i trains from d₀: what is left of the list leads where the whole of it leads
pub record Sending (counts : List ℕ) (levels₀ : List ℕ) (d₀ : Drive) (levels : List ℕ) (d : Drive) (i : ℕ) : Type 0 where
  pub ends : after_list d (drop i counts) ≡ after_list d₀ counts
  pub laid : over levels i (levels_of d (drop i counts)) ≡ over levels₀ 0 (levels_of d₀ counts)

pub again : (counts levels₀ levels : List ℕ) (d₀ d next : Drive) (level i : ℕ) → i < length counts → i < length levels
    → next ≡ train_step d (get_or counts i 0) → level ≡ weight_of next.level 1
    → Sending counts levels₀ d₀ levels d i → Sending counts levels₀ d₀ (set levels i level) next (i + 1)
unfolding after_list levels_of
again counts levels₀ levels d₀ d next level i h k n l s =
    let first = drop-cons counts i 0 h in
    let rest = levels_of next (drop (i + 1) counts) in
    record {
      ends = rw (add-one, n) (rw first at s.ends);
      laid = rw (set_over levels i level k) (over_more levels (level ∷ []) rest i (omega arith) ∙ rw (l, n, add-one) (rw first at s.laid));
    }

module _ (counts levels₀ levels : List ℕ) (d₀ d : Drive) (i : ℕ) (over-all : length counts ≤ i) (s : Sending counts levels₀ d₀ levels d i) where
  pub sent_all : d ≡ after_list d₀ counts
  unfolding after_list
  sent_all = rw (drop_of_length-le counts over-all) at s.ends

  pub told_all : levels ≡ over levels₀ 0 (levels_of d₀ counts)
  unfolding levels_of
  told_all = sym (over_none levels i) ∙ rw (drop_of_length-le counts over-all) at s.laid
