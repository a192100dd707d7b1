-- 01: "A refusal returns its number, status 0, 0 blocks and bytes .., and alters nothing; else the number is 0.", and how a packet that is answered ends.
-- Assumes nothing.
use Rattle.std.specs.Prelude.{ℕ, Result, Ok, Err}
use Rattle.numbers.specs.declared.refusals.Refusal.{Refusal}
use Rattle.numbers.specs.Refusals.{number_of}
use Rattle.packet_state.specs.declared.state.Sense.{Sense}
use Rattle.packet_state.specs.declared.state.Told.{Told}

-- what a host is told of a packet
pub record Answer : Type 0 where
  pub number : ℕ
  pub status : ℕ
  pub blocks : ℕ
  pub bytes : ℕ
  pub marked : ℕ

abbrev pub refusal : ℕ → Answer
refusal number = record { number = number; status = 0; blocks = 0; bytes = 0; marked = 0 }

abbrev pub numbered : ℕ → Told → Answer
numbered number t = record { number = number; status = t.status; blocks = t.blocks; bytes = t.bytes; marked = t.marked }

-- "else the number is 0"
abbrev pub accepted : Told → Answer
accepted t = numbered 0 t

abbrev pub answer_of : Result Told Refusal → Answer
answer_of (Ok t) = accepted t
answer_of (Err r) = refusal (number_of r)

-- ---- how a packet that is answered ends

abbrev pub Ending : Type 0
Ending = Result Unit Sense

abbrev pub Good : Ending
Good = Ok tt

abbrev pub Check : Sense → Ending
Check sense = Err sense
