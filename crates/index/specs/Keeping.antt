-- 02, A4: what the two calls leave: an index made, and a packet of the stream device beside an index.
-- Assumes nothing.
use Rattle.std.specs.Prelude.{ℕ, ◌*◌, ◌≤◌, true, not, List, ◌≡◌, length, if◌then◌else◌, Result, Some}
use Rattle.numbers.specs.Choice.{◌≡ᵇ◌, ◌<ᵇ◌}
use Rattle.numbers.specs.declared.refusals.Refusal.{Refusal}
use Rattle.image.specs.declared.header.Header.{Header}
use Rattle.image.specs.Header.{fields_of, header_of, keeps_header_rules, broken_image}
use Rattle.packet_state.specs.Answers.{Answer, answer_of, refusal}
use Rattle.packet_state.specs.declared.state.Outcome.{Outcome}
use Rattle.packet_state.specs.declared.state.State.{State}
use Rattle.packet_state.specs.declared.state.Told.{Told}
use Rattle.packet_state.specs.States.{keeps_record_rules}
use Rattle.packet_parts.specs.Answers.{Left, left, answered, good_status, not_twelve_bytes, unruly_record}
use Rattle.packet_parts.specs.Requests.{packet_length}
use Rattle.packet_parts.specs.Shell.{refuses}
use Rattle.stream.specs.Packet.{packet_step}
use Rattle.index.specs.Entries.{filemarks_of, index_length, fresh_index, is_fresh}

-- "9, index buffer shorter than four times the capacity"
abbrev pub short_index : ℕ
short_index = 9

-- "10, index differs from a fresh one"
abbrev pub stale_index : ℕ
stale_index = 10

-- ---- the index made

-- the answer, and the index buffer
pub record Made : Type 0 where
  pub answer : Answer
  pub index : List ℕ

abbrev pub made : Answer → List ℕ → Made
made answer index = record { answer = answer; index = index }

-- the answer tells the filemarks found and the bytes written
unfoldable pub makes : List ℕ → List ℕ → Made
makes s index =
    if not (keeps_header_rules s) then made (refusal broken_image) index else
    if length index <ᵇ index_length s then made (refusal short_index) index else
    made (answered good_status (length (filemarks_of s)) (index_length s)) (fresh_index s index)

-- ---- a packet

-- all that a packet leaves: answer and record, image, data buffer, and the index buffer
pub record Indexed : Type 0 where
  pub left : Left State
  pub index : List ℕ

abbrev pub indexed : Left State → List ℕ → Indexed
indexed x index = record { left = x; index = index }

-- "After every packet not refused it equals the index made afresh from the image"; one that 4 refuses leaves the image, and so the index, which was fresh
abbrev pub afresh : List ℕ → Left State → Indexed
afresh index x = indexed x (fresh_index x.image index)

-- what a packet has passed when nothing of 1, 2, 3, 9 and 10 refuses it
pub record Beside (s : List ℕ) (h : Header) (index : List ℕ) (st : State) (packet : List ℕ) : Type 0 where
  pub twelve : length packet ≡ packet_length
  pub header : header_of s ≡ Some h
  pub ruly : keeps_record_rules h.recorded st ≡ true
  pub room : 4 * h.capacity ≤ length index
  pub fresh : is_fresh s index ≡ true

-- "in that order after 3", for every packet; then all is as without the index
unfoldable pub indexed_step : List ℕ → List ℕ → State → List ℕ → List ℕ → Indexed
indexed_step s index st packet buf =
    if not (length packet ≡ᵇ packet_length) then indexed (refuses st not_twelve_bytes s buf) index else
    if not (keeps_header_rules s) then indexed (refuses st broken_image s buf) index else
    if not (keeps_record_rules (fields_of s).recorded st) then indexed (refuses st unruly_record s buf) index else
    if length index <ᵇ index_length s then indexed (refuses st short_index s buf) index else
    if not (is_fresh s index) then indexed (refuses st stale_index s buf) index else
    afresh index (packet_step s st packet buf)

-- ---- the promises of the public calls

-- the answer, and the index buffer at the end
abbrev pub MakePromise : List ℕ → List ℕ → Result Told Refusal → List ℕ → Type 0
MakePromise s index r index' = made (answer_of r) index' ≡ makes s index

-- the outcome, and image, index and data buffer at the end
abbrev pub IndexedPromise : List ℕ → List ℕ → State → List ℕ → List ℕ → Result (Outcome State) Refusal → List ℕ → List ℕ → List ℕ → Type 0
IndexedPromise s index st packet buf r image' index' buf' = indexed (left st r image' buf') index' ≡ indexed_step s index st packet buf
