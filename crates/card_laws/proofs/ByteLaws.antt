-- A number, a flag or a case that is written to its bytes is read back.
-- Assumes nothing.
use mathlib.Core.Path.{◌≡◌, refl, sym}
use mathlib.Core.Bool.{Bool, true, false}
use Prim.Native.Nat.{ℕ, zero, suc, ◌+◌, ◌*◌, ◌/◌, ◌%◌, ◌^◌, ◌<◌, ◌≤◌}
use native.Mathlib.Nat.{add-zero}
use native.Mathlib.Omega.{arith}
use borrow.Author.Tests.{eq-eqb, ne_eqb}
use mathlib.Core.List.{[]}
use Rattle.numbers.specs.Choice.{◌≡ᵇ◌}
use Rattle.numbers.proofs.CountLaws.{bytes_read_back}
use Rattle.packet_state.specs.declared.state.Attention.{Attention}
use Rattle.packet_state.specs.declared.state.Attention.TheVariants.{Nothing, MediumChanged, Reset}
use Rattle.pulse_parts.specs.declared.head.Motion.{Motion}
use Rattle.pulse_parts.specs.declared.head.Motion.TheVariants.{Still, Run, Load}
use Rattle.numbers.specs.Flags.{is_set, weight_of}
use Rattle.packet_state.specs.States.{attention_of}
use Rattle.packet_record.specs.PacketRecord.{attention_byte}
use Rattle.pulse_parts.specs.Heads.{motion_of, motion_byte}
use Rattle.pulse_record.specs.PulseRecord.{unsent}

-- ---- numbers: the law over the width, as it computes at two bytes and at four

pub two_back : (v : ℕ) → v < 2 ^ 16 → v / 256 % 256 * 256 + v % 256 ≡ v
two_back v h = bytes_read_back 2 v [] h

pub four_back : (v : ℕ) → v < 2 ^ 32 → ((v / 256 / 256 / 256 % 256 * 256 + v / 256 / 256 % 256) * 256 + v / 256 % 256) * 256 + v % 256 ≡ v
four_back v h = bytes_read_back 4 v [] h

-- ---- flags

abbrev one : Bool → ℕ
one b = weight_of b 1

weight_is : (b : Bool) (weight : ℕ) → weight_of b weight ≡ one b * weight
weight_is true weight = omega arith
weight_is false weight = omega arith

pub weight_most : (b : Bool) (weight : ℕ) → weight_of b weight ≤ weight
weight_most true weight = omega arith
weight_most false weight = omega arith

set_by : (x : ℕ) (b : Bool) → x ≡ one b → (x ≡ᵇ 1) ≡ b
set_by x true e = eq-eqb x 1 e
set_by x false e = rw e

three : (p q r x : ℕ) → p ≤ 1 → q ≤ 1 → r ≤ 1 → x ≡ p + q * 2 + r * 4 → (x / 1 % 2 ≡ p) × ((x / 2 % 2 ≡ q) × (x / 4 % 2 ≡ r))
three p q r x hp hq hr e = (omega arith, (omega arith, omega arith))

five : (p q r s t x : ℕ) → p ≤ 1 → q ≤ 1 → r ≤ 1 → s ≤ 1 → t ≤ 1 → x ≡ p + q * 2 + r * 4 + s * 8 + t * 16
    → (x / 1 % 2 ≡ p) × ((x / 2 % 2 ≡ q) × ((x / 4 % 2 ≡ r) × ((x / 8 % 2 ≡ s) × (x / 16 % 2 ≡ t))))
five p q r s t x hp hq hr hs ht e = (omega arith, (omega arith, (omega arith, (omega arith, omega arith))))

module _ (a b c : Bool) where
  abbrev pub three_flags : ℕ
  three_flags = weight_of a 1 + weight_of b 2 + weight_of c 4

  three_bits : (three_flags / 1 % 2 ≡ one a) × ((three_flags / 2 % 2 ≡ one b) × (three_flags / 4 % 2 ≡ one c))
  three_bits = three (one a) (one b) (one c) three_flags (weight_most a 1) (weight_most b 1) (weight_most c 1) (rw (weight_is b 2, weight_is c 4))

  pub three_back : (is_set three_flags 1 ≡ a) × ((is_set three_flags 2 ≡ b) × (is_set three_flags 4 ≡ c))
  three_back = (set_by _ a three_bits.0, (set_by _ b three_bits.1.0, set_by _ c three_bits.1.1))

-- the three highest bits
abbrev pub high_flags : Bool → Bool → Bool → ℕ
high_flags a b c = weight_of a 0x80 + weight_of b 0x40 + weight_of c 0x20

pub high_back : (a b c : Bool) → (is_set (high_flags a b c) 0x80 ≡ a) × ((is_set (high_flags a b c) 0x40 ≡ b) × (is_set (high_flags a b c) 0x20 ≡ c))
high_back true true true = (refl, (refl, refl))
high_back true true false = (refl, (refl, refl))
high_back true false true = (refl, (refl, refl))
high_back true false false = (refl, (refl, refl))
high_back false true true = (refl, (refl, refl))
high_back false true false = (refl, (refl, refl))
high_back false false true = (refl, (refl, refl))
high_back false false false = (refl, (refl, refl))

module _ (a b c d e : Bool) where
  abbrev pub five_flags : ℕ
  five_flags = weight_of a 1 + weight_of b 2 + weight_of c 4 + weight_of d 8 + weight_of e 16

  five_bits :
      (five_flags / 1 % 2 ≡ one a)
      × ((five_flags / 2 % 2 ≡ one b) × ((five_flags / 4 % 2 ≡ one c) × ((five_flags / 8 % 2 ≡ one d) × (five_flags / 16 % 2 ≡ one e))))
  five_bits =
      five (one a) (one b) (one c) (one d) (one e) five_flags (weight_most a 1) (weight_most b 1) (weight_most c 1) (weight_most d 1) (weight_most e 1)
      (rw (weight_is b 2, weight_is c 4, weight_is d 8, weight_is e 16))

  pub five_back :
      (is_set five_flags 1 ≡ a)
      × ((is_set five_flags 2 ≡ b) × ((is_set five_flags 4 ≡ c) × ((is_set five_flags 8 ≡ d) × (is_set five_flags 16 ≡ e))))
  five_back = (
    set_by _ a five_bits.0,
    (
      set_by _ b five_bits.1.0,
      (set_by _ c five_bits.1.1.0, (set_by _ d five_bits.1.1.1.0, set_by _ e five_bits.1.1.1.1)),
    ),
  )

pub one_back : (b : Bool) → is_set (weight_of b 1) 1 ≡ b
one_back true = refl
one_back false = refl

-- two flags are three of which the last is clear
pub pair_back : (a b : Bool) → (is_set (weight_of a 1 + weight_of b 2) 1 ≡ a) × (is_set (weight_of a 1 + weight_of b 2) 2 ≡ b)
pair_back a b = let t = rw add-zero at (three_back a b false) in (t.0, t.1.0)

-- ---- cases

pub attention_back : (a : Attention) → attention_of (attention_byte a) ≡ a
unfolding attention_of
attention_back Nothing = refl
attention_back MediumChanged = refl
attention_back Reset = refl

pub motion_back : (m : Motion) → motion_of (motion_byte m) ≡ m
unfolding motion_of
motion_back Still = refl
motion_back Run = refl
motion_back Load = refl

unsent_back : (left bits : ℕ) → (left ≡ 0 → bits ≡ 0) → unsent left bits ≡ bits
unfolding unsent
unsent_back zero bits h = sym (h refl)
unsent_back (suc left) bits h = rw (ne_eqb (suc left) 0 (λ e. omega arith))

pub bits_back : (left bits : ℕ) → bits < 2 ^ 16 → (left ≡ 0 → bits ≡ 0)
    → unsent left (unsent left bits / 256 % 256 * 256 + unsent left bits % 256) ≡ bits
bits_back left bits b h = let u = unsent_back left bits h in rw (u, two_back bits b) u

pub unsent_most : (left bits : ℕ) → bits < 2 ^ 16 → unsent left bits < 2 ^ 16
unfolding unsent
unsent_most zero bits h = omega arith
unsent_most (suc left) bits h = rw (ne_eqb (suc left) 0 (λ e. omega arith)) h

pub unsent_closed : (left bits : ℕ) → left ≡ 0 → unsent left bits ≡ 0
unfolding unsent
unsent_closed left bits z = rw z
