-- How work ends a packet.
-- Assumes nothing.
use Prim.Native.Nat.{ℕ}
use Rattle.std.specs.Prelude.{Ok, Err}
use mathlib.Core.Path.{◌≡◌, refl}
use Rattle.packet_state.specs.Answers.{Ending}
use Rattle.packet_state.specs.declared.state.Sense.{Sense}
use Rattle.packet_state.specs.declared.state.State.{State}
use Rattle.packet_state.specs.Senses.{no_sense}
use Rattle.packet_parts.specs.Answers.{answered_with, ends, with_marked, good_status, check_condition}

abbrev pub sense_of : Ending → Sense
sense_of (Ok done) = no_sense
sense_of (Err x) = x

abbrev pub status_for : Ending → ℕ
status_for (Ok done) = good_status
status_for (Err x) = check_condition

pub ends_is : (st : State) (e : Ending) (blocks bytes : ℕ) → ends st e blocks bytes ≡ answered_with st (status_for e) (sense_of e) blocks bytes
unfolding ends
ends_is st (Ok done) blocks bytes = refl
ends_is st (Err x) blocks bytes = refl

-- an ending tells of no marked block
pub ends_unmarked : (st : State) (e : Ending) (blocks bytes : ℕ) → (ends st e blocks bytes).answer.marked ≡ 0
ends_unmarked st e blocks bytes = rw ends_is

pub ends_none : (st : State) (e : Ending) (blocks bytes : ℕ) → with_marked (ends st e blocks bytes) 0 ≡ ends st e blocks bytes
ends_none st e blocks bytes = rw ends_is
