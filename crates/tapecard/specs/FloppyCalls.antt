-- 02, A1: everything that a call of the floppy tape device leaves.
-- Assumes nothing.
use Rattle.std.specs.Prelude.{ℕ, List, ◌≡◌, if◌then◌else◌}
use Rattle.numbers.specs.Choice.{◌≡ᵇ◌}
use Rattle.packet_state.specs.Answers.{Answer}
use Rattle.packet_parts.specs.Answers.{Left}
use Rattle.packet_record.specs.PacketRecord.{encode_answer}
use Rattle.floppy_parts.specs.declared.tape.Floppy.{Floppy}
use Rattle.floppy.specs.Packet.{fresh_floppy, changed_floppy, floppy_step}
use Rattle.floppy_record.specs.FloppyRecord.{decode_floppy, encode_floppy}

-- what a call that only reads the image leaves
pub record FloppyTold : Type 0 where
  pub state : List ℕ
  pub answer : List ℕ

abbrev pub floppy_told : List ℕ → List ℕ → FloppyTold
floppy_told state answer = record { state = state; answer = answer }

-- what a packet leaves
pub record FloppyCard : Type 0 where
  pub state : List ℕ
  pub image : List ℕ
  pub buf : List ℕ
  pub answer : List ℕ

abbrev pub floppy_card : List ℕ → List ℕ → List ℕ → List ℕ → FloppyCard
floppy_card state image buf answer = record { state = state; image = image; buf = buf; answer = answer }

-- "A refused call (number not 0) leaves the record's bytes .. exactly as they were"; "An accepted call writes the whole record in its canonical form."
abbrev pub floppy_record : List ℕ → Answer → Floppy → List ℕ
floppy_record state answer f = if answer.number ≡ᵇ 0 then encode_floppy f else state

unfoldable pub floppy_left : List ℕ → Left Floppy → FloppyTold
floppy_left state x = floppy_told (floppy_record state x.answer x.state) (encode_answer x.answer)

unfoldable pub floppy_packet_left : List ℕ → Left Floppy → FloppyCard
floppy_packet_left state x = floppy_card (floppy_record state x.answer x.state) x.image x.buf (encode_answer x.answer)

-- all that `tapecard_floppy_fresh` leaves: record, answer
unfoldable pub floppy_fresh_call : List ℕ → List ℕ → FloppyTold
floppy_fresh_call state image = floppy_left state (fresh_floppy image (decode_floppy state))

-- all that `tapecard_floppy_change` leaves: record, answer
unfoldable pub floppy_change_call : List ℕ → List ℕ → FloppyTold
floppy_change_call state image = floppy_left state (changed_floppy image (decode_floppy state))

-- all that `tapecard_floppy_packet` leaves: record, image, buffer, answer
unfoldable pub floppy_packet_call : List ℕ → List ℕ → List ℕ → List ℕ → FloppyCard
floppy_packet_call state image packet buf = floppy_packet_left state (floppy_step image (decode_floppy state) packet buf)

-- ---- the promise of each call on what it leaves

abbrev pub FloppyFreshPromise : List ℕ → List ℕ → FloppyTold → Type 0
FloppyFreshPromise state image left = left ≡ floppy_fresh_call state image

abbrev pub FloppyChangePromise : List ℕ → List ℕ → FloppyTold → Type 0
FloppyChangePromise state image left = left ≡ floppy_change_call state image

abbrev pub FloppyCallPromise : List ℕ → List ℕ → List ℕ → List ℕ → FloppyCard → Type 0
FloppyCallPromise state image packet buf left = left ≡ floppy_packet_call state image packet buf
