-- Refusal 3's rules on the record that every packet device keeps, as facts.
-- Assumes nothing.
use Prim.Native.Nat.{ℕ, ◌≤◌}
use mathlib.Core.Bool.{true, ◌&&◌}
use mathlib.Core.Path.{◌≡◌, refl}
use borrow.Author.Tests.{le-leb, leb-true}
use lib.Dec.{leb}
use Rattle.numbers.specs.Member.{is_in}
use Rattle.numbers.proofs.MemberLaws.{largest, in_largest}
use Rattle.numbers.proofs.RuleLaws.{split}
use Rattle.packet_state.specs.declared.state.State.{State}
use Rattle.packet_state.specs.States.{fresh_state, speeds, highest_key, keeps_record_rules}

pub record Ruly (end : ℕ) (st : State) : Type 0 where
  pub place : st.position ≤ end
  pub speed : is_in st.speed speeds ≡ true
  pub key : st.sense.key ≤ highest_key

pub ruly_of : (end : ℕ) (st : State) → keeps_record_rules end st ≡ true → Ruly end st
unfolding keeps_record_rules
ruly_of end st e =
    let p = split (leb st.position end && is_in st.speed speeds) (leb st.sense.key highest_key) e in
    let r = split (leb st.position end) (is_in st.speed speeds) p.0 in
    record { place = leb-true _ _ r.0; speed = r.1; key = leb-true _ _ p.1 }

pub of_ruly : (end : ℕ) (st : State) → Ruly end st → keeps_record_rules end st ≡ true
unfolding keeps_record_rules
of_ruly end st r = rw (le-leb _ _ r.place, r.speed, le-leb _ _ r.key)

-- 02, A2: a fresh record's speed is one of the five
pub fresh_speed : is_in fresh_state.speed speeds ≡ true
unfolding is_in
fresh_speed = refl

pub speed_most : (speed : ℕ) → is_in speed speeds ≡ true → speed ≤ 500
unfolding largest
speed_most speed e = in_largest speed speeds e
