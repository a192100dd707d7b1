-- Refusal 3 of the floppy tape device, as facts.
-- Assumes nothing.
use Prim.Native.Nat.{ℕ, ◌≤◌}
use native.Mathlib.Omega.{arith}
use mathlib.Core.Bool.{true, ◌&&◌}
use mathlib.Core.Path.{◌≡◌}
use borrow.Author.Tests.{le-leb, leb-true}
use lib.Dec.{leb}
use Rattle.numbers.specs.Member.{is_in}
use Rattle.numbers.proofs.RuleLaws.{split}
use Rattle.image.specs.declared.header.Header.{Header}
use Rattle.packet_state.specs.States.{speeds, highest_key, keeps_record_rules}
use Rattle.packet_state.proofs.RecordLaws.{ruly_of, of_ruly}
use Rattle.floppy_parts.specs.declared.tape.Floppy.{Floppy}
use Rattle.floppy_parts.specs.Rules.{keeps_floppy_rules}
use Rattle.floppy_parts.specs.Tape.{product, reset_tape}

pub record Ruled (h : Header) (f : Floppy) : Type 0 where
  pub within : product f.tape ≤ h.capacity
  pub place : f.shared.position ≤ product f.tape
  pub speed : is_in f.shared.speed speeds ≡ true
  pub key : f.shared.sense.key ≤ highest_key

pub ruled_of : (h : Header) (f : Floppy) → keeps_floppy_rules h f ≡ true → Ruled h f
unfolding keeps_floppy_rules
ruled_of h f e =
    let p = split (keeps_record_rules h.recorded f.shared && leb (product f.tape) h.capacity) (leb f.shared.position (product f.tape)) e in
    let q = split (keeps_record_rules h.recorded f.shared) (leb (product f.tape) h.capacity) p.0 in
    let r = ruly_of h.recorded f.shared q.0 in
    record { within = leb-true _ _ q.1; place = leb-true _ _ p.1; speed = r.speed; key = r.key }

pub of_ruled : (h : Header) (f : Floppy) → h.capacity ≤ h.recorded → Ruled h f → keeps_floppy_rules h f ≡ true
unfolding keeps_floppy_rules
of_ruled h f l r =
    rw (of_ruly h.recorded f.shared (record { place = omega arith; speed = r.speed; key = r.key }), le-leb _ _ r.within, le-leb _ _ r.place)

-- the parameters that a load, a fresh record and a cartridge change give

pub reset_product : (capacity : ℕ) → product (reset_tape capacity) ≡ capacity
unfolding product reset_tape
reset_product capacity = omega arith
