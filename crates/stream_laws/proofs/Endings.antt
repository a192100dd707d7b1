-- The sense of each ending of the work: its key and its residue.
-- Assumes nothing.
use Prim.Native.Nat.{ℕ, ◌+◌, ◌-◌, ◌≤◌}
use native.Mathlib.Omega.{arith}
use mathlib.Core.Bool.{◌&&◌}
use mathlib.Core.Path.{◌≡◌, refl}
use borrow.Author.Tests.{leb-false}
use lib.Dec.{leb}
use Rattle.numbers.proofs.Cases.{either}
use Rattle.image.specs.declared.header.Header.{Header}
use Rattle.transfer.specs.declared.Moved.{Moved}
use Rattle.transfer.specs.declared.Stop.{Stop}
use Rattle.transfer.specs.declared.Stop.TheVariants.{Full, AtFilemark, AtBadBlock, AtEnd, AtBeginning}
use Rattle.transfer.proofs.EndLaws.{Ended}
use Rattle.packet_state.specs.Answers.{Ending}
use Rattle.packet_state.specs.declared.state.Sense.{Sense}
use Rattle.packet_state.specs.States.{highest_key}
use Rattle.stream_parts.specs.Warning.{past_warning}
use Rattle.stream.specs.Work.{ending_of, write_ending}
use Rattle.packet_laws.specs.Words.{residue_of}
use Rattle.packet_laws.proofs.Endings.{sense_of}

-- ---- keys and information

-- a sense whose key keeps refusal 3's rule, with information n at most
abbrev pub Modest : ℕ → Sense → Type 0
Modest n x = (x.key ≤ highest_key) × (x.information ≤ n)

pub ending_modest : (h : Header) (stop : Stop) (left : ℕ) → Modest left (sense_of (ending_of h stop left))
unfolding ending_of
ending_modest h Full left = omega arith
ending_modest h AtFilemark left = omega arith
ending_modest h AtBadBlock left = omega arith
ending_modest h AtEnd left = omega arith
ending_modest h AtBeginning left = omega arith

pub write_modest : (h : Header) (asked : ℕ) (m : Moved) → Modest m.left (sense_of (write_ending h asked m))
unfolding write_ending
write_modest h asked m =
    let Told : Ending → Type 0 = λ x. Modest m.left (sense_of x) in
    either Told (leb 1 m.left) _ _ (λ e. omega arith)
    (λ e. either Told (leb 1 asked && past_warning h m.place) _ _ (λ f. omega arith) (λ f. omega arith))

-- ---- residues

pub read_residue : (h : Header) (n : ℕ) (m : Moved) → Ended n m → n - m.left + residue_of (sense_of (ending_of h m.stop m.left)) ≡ n
unfolding ending_of
read_residue h n m e = by m.stop refl
  where
    by : (stop : Stop) → m.stop ≡ stop → n - m.left + residue_of (sense_of (ending_of h stop m.left)) ≡ n
    by Full q = let z = e.full q in omega arith
    by AtFilemark q = let l = e.less in omega arith
    by AtBadBlock q = let l = e.less in omega arith
    by AtEnd q = let l = e.less in omega arith
    by AtBeginning q = let l = e.less in omega arith

pub write_residue : (h : Header) (n : ℕ) (m : Moved) → Ended n m → n - m.left + residue_of (sense_of (write_ending h n m)) ≡ n
unfolding write_ending
write_residue h n m e =
    let Sums : Ending → Type 0 = λ x. n - m.left + residue_of (sense_of x) ≡ n in
    let l = e.less in
    either Sums (leb 1 m.left) _ _ (λ p. omega arith) (λ p.
    let z = leb-false 1 m.left p in
    either Sums (leb 1 n && past_warning h m.place) _ _ (λ q. omega arith) (λ q. omega arith))
