-- What a packet's answer is made of.
-- Assumes nothing.
use Rattle.std.specs.Prelude.{ℕ, List, Result, Ok, Err}
use Rattle.numbers.specs.declared.refusals.Refusal.{Refusal}
use Rattle.numbers.specs.Refusals.{number_of}
use Rattle.packet_state.specs.declared.state.Attention.TheVariants.{Nothing}
use Rattle.packet_state.specs.declared.state.Outcome.{Outcome}
use Rattle.packet_state.specs.declared.state.Sense.{Sense}
use Rattle.packet_state.specs.declared.state.State.{State}
use Rattle.packet_state.specs.declared.state.Told.{Told}
use Rattle.packet_state.specs.Answers.{Answer, Ending, accepted, refusal}
use Rattle.packet_state.specs.Senses.{no_sense}
use Rattle.packet_state.specs.States.{with_attention, with_sense}

-- everything that a packet leaves of a device with the record R: answer and record, image, buffer
pub record Left (R : Type 0) : Type 0 where
  pub answer : Answer
  pub state : R
  pub image : List ℕ
  pub buf : List ℕ

-- "CHECK CONDITION is status 2."
abbrev pub check_condition : ℕ
check_condition = 2

abbrev pub good_status : ℕ
good_status = 0

-- the house refusal numbers; 2 is the image's own
abbrev pub not_twelve_bytes : ℕ
not_twelve_bytes = 1

abbrev pub unruly_record : ℕ
unruly_record = 3

abbrev pub short_buffer : ℕ
short_buffer = 4

-- what a packet that is not refused tells; its number is 0
abbrev pub told : ℕ → ℕ → ℕ → Told
told status blocks bytes = record { status = status; blocks = blocks; bytes = bytes; marked = 0 }

abbrev pub answered : ℕ → ℕ → ℕ → Answer
answered status blocks bytes = accepted (told status blocks bytes)

-- "One that ends before the work changes only sense and attention." (Past the attention's own check none is pending.)
abbrev pub ended_before : State → Sense → State
ended_before st sense = with_sense (with_attention st Nothing) sense

-- ---- what calls leave

-- of a packet that is not refused
abbrev pub done : {R : Type 0} → Outcome R → List ℕ → List ℕ → Left R
done out image buf = record { answer = accepted out.answer; state = out.state; image = image; buf = buf }

-- of any packet: "A refusal returns its number, status 0, 0 blocks and bytes .., and alters nothing"
abbrev pub left : {R : Type 0} → R → Result (Outcome R) Refusal → List ℕ → List ℕ → Left R
left st (Ok out) image buf = done out image buf
left st (Err r) image buf = record { answer = refusal (number_of r); state = st; image = image; buf = buf }

-- the same answer, with another record
abbrev pub beside : {R S : Type 0} → Outcome R → S → Outcome S
beside out state = record { answer = out.answer; state = state }

-- ---- for a device whose record is this one alone

abbrev pub ends_before : State → Sense → Outcome State
ends_before st sense = record { answer = told check_condition 0 0; state = ended_before st sense }

abbrev pub answered_with : State → ℕ → Sense → ℕ → ℕ → Outcome State
answered_with st status sense blocks bytes = record { answer = told status blocks bytes; state = with_sense st sense }

-- "Each packet but 03h that isn't refused replaces the sense, with zero where it ends GOOD."
unfoldable pub ends : State → Ending → ℕ → ℕ → Outcome State
ends st (Ok u) blocks bytes = answered_with st good_status no_sense blocks bytes
ends st (Err sense) blocks bytes = answered_with st check_condition sense blocks bytes

-- 02, A6: "a READ's answer also says how many of the blocks copied were marked"; every other answer has 0 there
abbrev pub with_marked : Outcome State → ℕ → Outcome State
with_marked out marked =
    record {
      answer = record { status = out.answer.status; blocks = out.answer.blocks; bytes = out.answer.bytes; marked = marked };
      state = out.state;
    }
