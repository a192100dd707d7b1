-- What a packet leaves of the stream device: answer, record, image and buffer, for every packet, image, record and buffer.
-- Assumes nothing.
use Rattle.std.specs.Prelude.{ℕ, List, ◌≡◌, Result}
use Rattle.numbers.specs.declared.refusals.Refusal.{Refusal}
use Rattle.image.specs.Header.{keeps_header_rules}
use Rattle.packet_state.specs.declared.state.Outcome.{Outcome}
use Rattle.packet_state.specs.declared.state.State.{State}
use Rattle.packet_state.specs.States.{fresh_state, changed_state, keeps_record_rules}
use Rattle.packet_parts.specs.Answers.{Left, left}
use Rattle.packet_parts.specs.Shell.{Device, answers_to}
use Rattle.stream_parts.specs.Checks.{asked_by}
use Rattle.stream_parts.specs.Requests.{request_of}
use Rattle.stream.specs.Work.{work_of}

-- "2: image breaks a header rule above; 3: packet record has P > U, .."; what each command asks, and its work
abbrev pub stream_device : Device State
stream_device =
    record {
      shared = λ st. st;
      with_shared = λ st x. x;
      accepts = keeps_header_rules;
      keeps_rules = λ h st. keeps_record_rules h.recorded st;
      request = request_of;
      asks = λ h st q. asked_by q.command h q;
      work = λ s h st q buf. work_of q.command s h st q buf;
    }

-- "Packet order: 1, 2, 3, attention, opcode, fields, not ready, protection, 4, list contents, the work.": the order of every packet device
abbrev pub packet_step : List ℕ → State → List ℕ → List ℕ → Left State
packet_step s st packet buf = answers_to stream_device s st packet buf

-- ---- the promises of the public calls

abbrev pub FreshPromise : State → Type 0
FreshPromise r = r ≡ fresh_state

abbrev pub ChangedPromise : State → State → Type 0
ChangedPromise st r = r ≡ changed_state st

-- the outcome, and image and buffer at the end
abbrev pub PacketPromise : List ℕ → State → List ℕ → List ℕ → Result (Outcome State) Refusal → List ℕ → List ℕ → Type 0
PacketPromise s st packet buf r image' buf' = left st r image' buf' ≡ packet_step s st packet buf
