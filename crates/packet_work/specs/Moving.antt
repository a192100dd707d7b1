-- How a run over the tape ends a packet.
-- Assumes nothing.
use Rattle.std.specs.Prelude.{ℕ, ◌*◌, ◌-◌, List}
use Rattle.transfer.specs.declared.Moved.{Moved}
use Rattle.transfer.specs.Marked.{marked_from}
use Rattle.packet_state.specs.Answers.{Ending}
use Rattle.packet_state.specs.declared.state.Outcome.{Outcome}
use Rattle.packet_state.specs.declared.state.State.{State}
use Rattle.packet_state.specs.States.{at_place}
use Rattle.packet_parts.specs.Answers.{ends, with_marked}

-- blocks and bytes of those asked for that a run moved
abbrev pub moves : State → ℕ → ℕ → Moved → Ending → Outcome State
moves st asked size moved ending = ends (at_place st moved.place) ending (asked - moved.left) ((asked - moved.left) * size)

-- 02, A6: "a READ's answer also says how many of the blocks copied were marked": of those from the place on where it began
abbrev pub read_moves : List ℕ → ℕ → State → ℕ → ℕ → Moved → Ending → Outcome State
read_moves s kinds st asked size moved ending =
    with_marked (moves st asked size moved ending) (marked_from s kinds (asked - moved.left) st.position)
