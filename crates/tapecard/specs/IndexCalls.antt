-- 02, A4: everything that a call with an index leaves.
-- Assumes nothing.
use Rattle.std.specs.Prelude.{ℕ, List, ◌≡◌}
use Rattle.packet_record.specs.PacketRecord.{decode_state, encode_answer}
use Rattle.index.specs.Keeping.{Made, Indexed, makes, indexed_step}
use Rattle.tapecard.specs.PacketCalls.{PacketCard, packet_left}

-- what the making of an index leaves: it only reads the image
pub record IndexTold : Type 0 where
  pub index : List ℕ
  pub answer : List ℕ

abbrev pub index_told : List ℕ → List ℕ → IndexTold
index_told index answer = record { index = index; answer = answer }

-- what a packet leaves: all that it leaves without an index, and the index
pub record IndexCard : Type 0 where
  pub card : PacketCard
  pub index : List ℕ

abbrev pub index_card : PacketCard → List ℕ → IndexCard
index_card card index = record { card = card; index = index }

unfoldable pub made_left : Made → IndexTold
made_left x = index_told x.index (encode_answer x.answer)

unfoldable pub indexed_left : List ℕ → Indexed → IndexCard
indexed_left state x = index_card (packet_left state x.left) x.index

-- all that `tapecard_index_make` leaves, index and answer: "the index made afresh from the image"
unfoldable pub index_make_call : List ℕ → List ℕ → IndexTold
index_make_call image index = made_left (makes image index)

-- all that `tapecard_index_packet` leaves, record, image, buffer, answer, and the index: "After every packet not refused it equals the index made afresh
-- from the image"
unfoldable pub index_packet_call : List ℕ → List ℕ → List ℕ → List ℕ → List ℕ → IndexCard
index_packet_call state image index packet buf = indexed_left state (indexed_step image index (decode_state state) packet buf)

-- ---- the promise of each call on what it leaves

abbrev pub IndexMakePromise : List ℕ → List ℕ → IndexTold → Type 0
IndexMakePromise image index left = left ≡ index_make_call image index

abbrev pub IndexCallPromise : List ℕ → List ℕ → List ℕ → List ℕ → List ℕ → IndexCard → Type 0
IndexCallPromise state image index packet buf left = left ≡ index_packet_call state image index packet buf
