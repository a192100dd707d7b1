-- What a packet that has come to its work needs of the early warning and of the buffer.
-- Assumes nothing.
use mathlib.Core.List.{List}
use mathlib.Core.Path.{◌≡◌}
use native.Mathlib.Omega.{arith}
use Prim.Native.Nat.{ℕ, ◌≤◌}
use Rattle.std.specs.Prelude.{Some}
use Rattle.image.proofs.HeaderLaws.{sound}
use Rattle.image.specs.declared.header.Header.{Header}
use Rattle.image.specs.Header.{header_of}
use Rattle.packet_parts.specs.Answers.{done}
use Rattle.packet_state.specs.Answers.{Ending}
use Rattle.packet_state.specs.declared.state.Outcome.{Outcome}
use Rattle.packet_state.specs.declared.state.State.{State}
use Rattle.packet_work.specs.Moving.{read_moves}
use Rattle.stream.specs.Work.{ending_of, read_ends, read_work}
use Rattle.transfer.specs.declared.Moved.{Moved}
use Rattle.transfer.specs.Reading.{reads, read_from}
use Rattle.opcodes.specs.declared.Command.{Command}
use Rattle.opcodes.specs.declared.Command.TheVariants.{ReadPosition}
use Rattle.packet_parts.specs.declared.requests.Request.{Request}
use Rattle.stream_parts.specs.Checks.{asked_by}

pub warning_within : (s : List ℕ) (h : Header) → header_of s ≡ Some h → h.warning ≤ h.capacity
warning_within s h good = let g = sound s h good in omega arith

pub room_for_position : (k : Command) (h : Header) (q : Request) (room : ℕ) → k ≡ ReadPosition → (asked_by k h q).needed ≤ room → 20 ≤ room
unfolding asked_by
room_for_position k h q room e l = rw e at l

pub ruleset work_ways = (warning_within, room_for_position)

-- READ answers what its run moved, as the run ended
module _ (s : List ℕ) (h : Header) (st : State) (asked : ℕ) (buf new : List ℕ) (m : Moved)
    (run : reads new m ≡ read_from s h.size h.kinds h.blocks h.recorded asked 0 st.position buf) where
  pub read_went : (x : Ending) (r : Outcome State) → x ≡ ending_of h m.stop m.left → r ≡ read_moves s h.kinds st asked h.size m x
      → done r s new ≡ read_work s h st asked buf
  unfolding read_work read_ends
  read_went x r p q = rw (← run, q, p)
