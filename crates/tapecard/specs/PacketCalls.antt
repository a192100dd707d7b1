-- Everything that a call of the packet drive leaves.
-- Assumes nothing.
use Rattle.std.specs.Prelude.{ℕ, List, ◌≡◌, if◌then◌else◌}
use Rattle.numbers.specs.Choice.{◌≡ᵇ◌}
use Rattle.packet_state.specs.declared.state.State.{State}
use Rattle.packet_state.specs.States.{fresh_state, changed_state}
use Rattle.packet_parts.specs.Answers.{Left}
use Rattle.stream.specs.Packet.{packet_step}
use Rattle.packet_record.specs.PacketRecord.{decode_state, encode_state, encode_answer}

pub record PacketCard : Type 0 where
  pub state : List ℕ
  pub image : List ℕ
  pub buf : List ℕ
  pub answer : List ℕ

abbrev pub packet_card : List ℕ → List ℕ → List ℕ → List ℕ → PacketCard
packet_card state image buf answer = record { state = state; image = image; buf = buf; answer = answer }

-- the record of `tapecard_fresh`, whatever it was
unfoldable pub packet_fresh : List ℕ
packet_fresh = encode_state fresh_state

-- the record of `tapecard_change`
unfoldable pub packet_change : List ℕ → List ℕ
packet_change state = encode_state (changed_state (decode_state state))

-- "A refused call (number not 0) leaves the record's bytes .. exactly as they were"; "An accepted call writes the whole record in its canonical form."
unfoldable pub packet_left : List ℕ → Left State → PacketCard
packet_left state x =
    packet_card
    (if x.answer.number ≡ᵇ 0 then encode_state x.state else state)
    x.image
    x.buf
    (encode_answer x.answer)

-- all that `tapecard_packet` leaves: record, image, buffer, answer
unfoldable pub packet_call : List ℕ → List ℕ → List ℕ → List ℕ → PacketCard
packet_call state image packet buf = packet_left state (packet_step image (decode_state state) packet buf)

-- ---- the promise of each call on what it leaves

abbrev pub PacketFreshPromise : List ℕ → Type 0
PacketFreshPromise left = left ≡ packet_fresh

abbrev pub PacketChangePromise : List ℕ → List ℕ → Type 0
PacketChangePromise state left = left ≡ packet_change state

abbrev pub PacketCallPromise : List ℕ → List ℕ → List ℕ → List ℕ → PacketCard → Type 0
PacketCallPromise state image packet buf left = left ≡ packet_call state image packet buf
