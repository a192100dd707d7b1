-- Step 2 of a train, an argument, keeps the rules.
-- Assumes nothing.
use Prim.Native.Nat.{ℕ, ◌+◌}
use native.Mathlib.Nat.{lt_irrefl}
use native.Mathlib.Omega.{arith}
use mathlib.Core.Bool.{true, false, not, ◌||◌, or-false}
use mathlib.Core.Path.{◌≡◌, refl, sym, ◌∙◌}
use Rattle.std.specs.Prelude.{Option, Some, None}
use borrow.Author.Tests.{ltb-true, not-true}
use Rattle.numbers.specs.Choice.{◌<ᵇ◌, ◌≡ᵇ◌, ◌≤ᵇ◌}
use Rattle.numbers.specs.Member.{is_in}
use Rattle.numbers.proofs.Cases.{and_l, and_r, ands, either, never, or_r, test}
use Rattle.pulse_codes.specs.declared.arguments.Waiting.{Waiting}
use Rattle.pulse_codes.specs.Arguments.{highest_rate, in_range, joined, needed, nibble_of}
use Rattle.pulse_codes.specs.Codes.{is_skip, seek_track, select_rate, skip_extended_forward, skip_extended_reverse, skip_forward, skip_reverse}
use Rattle.pulse_codes.specs.Errors.{illegal_track}
use Rattle.pulse_parts.specs.Faults.{error_held}
use Rattle.pulse_parts.specs.Heads.{skipped_back, skipped_on}
use Rattle.pulse.specs.declared.drive.Drive.{Drive}
use Rattle.pulse.specs.Arguments.{argument_for, argument_or, argument_read, argument_taken, nibble_taken, skipped, step_argument, track_sought}
use Rattle.pulse.specs.Drives.{with_rate, without_arguments}
use Rattle.pulse_codes.proofs.ArgumentLaws.{value_in_range}
use Rattle.pulse.specs.Rules.{is_free}
use Rattle.pulse_laws.proofs.Motion.{within}
use Rattle.pulse_laws.proofs.Rules.{Calm, Cart, Rules, Waits, bare, full}
use Rattle.pulse_laws.proofs.Idle.{Idle, idle_rules, latch_idle, run_idle}

-- a code that waits for arguments, and neither seeks a track nor selects a rate, skips
skips : (code held : ℕ) → (held <ᵇ needed code) ≡ true → (code ≡ᵇ seek_track) ≡ false → (code ≡ᵇ select_rate) ≡ false →
    is_skip code ≡ true
unfolding needed
skips code held l p q =
    test ((code ≡ᵇ skip_reverse) || (code ≡ᵇ skip_forward)) (λ a. rw a)
    (λ a. test ((code ≡ᵇ skip_extended_reverse) || (code ≡ᵇ skip_extended_forward)) (λ b. rw a b)
    (λ b. absurd (lt_irrefl 0 (omega (arith, ltb-true held 0 (rw (p, q, a, b) at l))))))

module _ (d : Drive) (code held low : ℕ) (r : Calm d) (w : Waits (Some record { code = code; held = held; value = low }) d) where
  lacks : (held <ᵇ needed code) ≡ true
  lacks = search ands

  free : is_free d.report d.head d.fault d.marks ≡ true
  free = and_r (held <ᵇ needed code) _ (and_l _ _ w)

  -- those of 13 or a skip only when referenced, so with a cartridge in
  referenced : ((code ≡ᵇ seek_track) || is_skip code) ≡ true → d.marks.referenced ≡ true
  referenced e =
      let q : (d.marks.referenced || not ((code ≡ᵇ seek_track) || is_skip code)) ≡ true = search ands in
      sym (or-false d.marks.referenced) ∙ (rw e at q)

  has_cart : ((code ≡ᵇ seek_track) || is_skip code) ≡ true → d.marks.inside ≡ true
  has_cart e = by r.cart
    where
      by : Cart d.cart d.head.place d.head.target d.head.track d.marks.inside d.marks.referenced d.marks.fresh →
          d.marks.inside ≡ true
      by (full p x) = p
      by (bare p x) = never (referenced e) x.referenced

  track_idle : (v : ℕ) → (code ≡ᵇ seek_track) ≡ true → Idle (track_sought (without_arguments d) v)
  unfolding track_sought is_in
  track_idle v e =
      either Idle (v <ᵇ d.cart.tracks) _ _
      (λ l.
      let i = has_cart (rw e) in
      let x = within r.cart i in (
        record {
          cart = full i (record { ranges = x.ranges; place = x.place; target = x.target; track = ltb-true _ _ l });
          motion = r.motion;
          rate = r.rate;
          error = r.error;
          report = r.report;
          held = r.held;
        },
        refl,
      ))
      (λ l. latch_idle (without_arguments d) illegal_track seek_track refl (r, refl))

  skip_idle : (count : ℕ) → is_skip code ≡ true → Idle (skipped (without_arguments d) code count)
  unfolding skipped
  skip_idle count e =
      let i = has_cart (or_r (code ≡ᵇ seek_track) (is_skip code) e) in
      let x = within r.cart i in
      let a = x.place in
      let q = free in
      let f : error_held d.fault ≡ false = not-true _ (search ands) in
      either Idle ((code ≡ᵇ skip_reverse) || (code ≡ᵇ skip_extended_reverse)) _ _
      (λ b. run_idle (without_arguments d) (skipped_back d.head.place count) (r, refl) i (omega arith) f)
      (λ b. run_idle (without_arguments d) (skipped_on d.head.place d.cart.segments count) (r, refl) i (omega arith) f)

  nibble_rules : (v : ℕ) → is_skip code ≡ true → Rules (nibble_taken d code held low v)
  unfolding nibble_taken
  nibble_rules v e =
      either Rules (held + 1 <ᵇ needed code) _ _
      (λ l.
      let f = free in
      let q = referenced (or_r (code ≡ᵇ seek_track) (is_skip code) e) in
      (r, rw (l, f, q)))
      (λ l. idle_rules (skipped (without_arguments d) code (joined low held v)) (skip_idle (joined low held v) e))

  rate_idle : (v : ℕ) → (v ≤ᵇ highest_rate) ≡ true → Idle (with_rate (without_arguments d) v)
  rate_idle v e = (record { cart = r.cart; motion = r.motion; rate = e; error = r.error; report = r.report; held = r.held }, refl)

  taken_rules : (v : ℕ) → in_range code v ≡ true → Rules (argument_taken d code held low v)
  unfolding argument_taken
  taken_rules v e =
      either Rules (code ≡ᵇ seek_track) _ _ (λ p. idle_rules (track_sought (without_arguments d) v) (track_idle v p))
      (λ p.
      either Rules (code ≡ᵇ select_rate) _ _ (λ q. idle_rules (with_rate (without_arguments d) v) (rate_idle v (rw (p, q) at e)))
      (λ q. nibble_rules v (skips code held lacks p q)))

  read_rules : (n : ℕ) → Rules (argument_read d code held low n)
  unfolding argument_read
  read_rules n = by (nibble_of code n) refl
    where
      by : (x : Option ℕ) → nibble_of code n ≡ x → Rules (argument_or d code held low x)
      by (Some v) e = taken_rules v (value_in_range code n v e)
      by None e = (r, refl)

pub argument_rules : (d : Drive) (n : ℕ) → Rules d → Rules (step_argument d n)
unfolding step_argument
argument_rules d n r = by d.waiting refl
  where
    by : (w : Option Waiting) → d.waiting ≡ w → Rules (argument_for w d n)
    by None e = r
    by (Some a) e = read_rules d a.code a.held a.value r.0 (rw e at r.1) n
