-- A call with an index leaves what `tapecard_packet` leaves, or a refusal; so the bytes kept between calls follow the engine, and no count is cut.
-- Assumes nothing.
use mathlib.Core.Path.{◌≡◌, refl}
use mathlib.Core.Bool.{true, not}
use mathlib.Core.List.{List}
use Prim.Native.Nat.{ℕ}
use native.Mathlib.Omega.{arith}
use borrow.Author.Tests.{not-false}
use lib.ListN.{length}
use Rattle.numbers.specs.Choice.{◌≡ᵇ◌, ◌<ᵇ◌}
use Rattle.numbers.proofs.Cases.{either}
use Rattle.image.specs.Header.{fields_of, keeps_header_rules, broken_image}
use Rattle.image.proofs.HeaderLaws.{good_header, sound}
use Rattle.packet_state.specs.declared.state.State.{State}
use Rattle.packet_state.specs.States.{keeps_record_rules}
use Rattle.packet_state.specs.Answers.{refusal}
use Rattle.packet_parts.specs.Answers.{Left, answered, good_status}
use Rattle.packet_parts.specs.Requests.{packet_length}
use Rattle.packet_parts.specs.Shell.{refuses, answers_to}
use Rattle.stream.specs.Packet.{packet_step}
use Rattle.packet_laws.specs.Words.{number_of}
use Rattle.index.specs.Entries.{filemarks_of, index_length, fresh_index, is_fresh}
use Rattle.index.specs.Keeping.{Made, made, makes, Indexed, indexed, afresh, indexed_step, short_index, stale_index}
use Rattle.index.proofs.MarkLaws.{marks_few}
use Rattle.packet_record.specs.PacketRecord.{decode_state, encode_answer}
use Rattle.tapecard.specs.PacketCalls.{packet_left, packet_call}
use Rattle.tapecard.specs.IndexCalls.{made_left, indexed_left, index_make_call, index_packet_call}
use Rattle.card_laws.specs.Promises.{Bytes, IndexFollows, IndexPasses, CardSameAsPacket, CountsIn}
use Rattle.card_laws.proofs.ByteLaws.{four_back}
use Rattle.card_laws.proofs.PacketFollowing.{packet_follows, blocks_whole, bytes_whole, marked_whole}

-- ---- what the two calls of the engine leave

module _ (s index : List ℕ) (st : State) (packet buf : List ℕ) where
  abbrev x : Left State
  x = packet_step s st packet buf

  first : (P : Indexed → Type 0) → ((number_of x ≡ 0 → ⊥) → P (indexed x index))
      → (y : Left State) → x ≡ y → (number_of y ≡ 0 → ⊥) → P (indexed y index)
  first P f y e n = rw (← e) (f (λ z. n (rw (← e) z)))

  -- 9 or 10 refuses a packet, or 1, 2 or 3 does, or all is as without the index
  pub indexed_by : (P : Indexed → Type 0) → P (indexed (refuses st short_index s buf) index) → P (indexed (refuses st stale_index s buf) index)
      → ((number_of x ≡ 0 → ⊥) → P (indexed x index)) → (is_fresh s index ≡ true → P (afresh index x)) → P (indexed_step s index st packet buf)
  unfolding indexed_step answers_to
  indexed_by P short stale f then =
      either P (not (length packet ≡ᵇ packet_length)) _ _ (λ a. first P f _ (rw a) (λ z. omega arith)) (λ a.
      either P (not (keeps_header_rules s)) _ _ (λ b. first P f _ (rw (a, b)) (λ z. omega arith)) (λ b.
      either P (not (keeps_record_rules (fields_of s).recorded st)) _ _ (λ c. first P f _ (rw (a, b, c)) (λ z. omega arith)) (λ c.
      either P (length index <ᵇ index_length s) _ _ (λ d. short) (λ d.
      either P (not (is_fresh s index)) _ _ (λ e. stale) (λ e. then (not-false _ e))))))

  -- but for the index
  pub left_by : (P : Left State → Type 0) → P (refuses st short_index s buf) → P (refuses st stale_index s buf) → P x
      → P (indexed_step s index st packet buf).left
  left_by P short stale same = indexed_by (λ (y : Indexed). P y.left) short stale (λ n. same) (λ f. same)

-- 2 or 9 refuses, or the index is made
pub made_by : (s index : List ℕ) (P : Made → Type 0) → P (made (refusal broken_image) index) → P (made (refusal short_index) index)
    → (keeps_header_rules s ≡ true → P (made (answered good_status (length (filemarks_of s)) (index_length s)) (fresh_index s index))) → P (makes s index)
unfolding makes
made_by s index P broken short new =
    either P (not (keeps_header_rules s)) _ _ (λ a. broken) (λ a.
    either P (length index <ᵇ index_length s) _ _ (λ b. short) (λ b. new (not-false _ a)))

-- ---- a packet: what holds of what `tapecard_packet` leaves, and of a refusal

pub index_follows : IndexFollows
unfolding index_packet_call indexed_left packet_left packet_call
index_follows state image index packet buf b =
    left_by image index (decode_state state) packet buf (λ (y : Left State). decode_state (packet_left state y).state ≡ y.state) refl refl
    (packet_follows.packet state image packet buf b)

pub card_same_as_packet : CardSameAsPacket
unfolding index_packet_call indexed_left packet_left packet_call encode_answer
card_same_as_packet state image index packet buf =
    left_by image index (decode_state state) packet buf
    (λ (y : Left State). IndexPasses (packet_left state y).answer → packet_left state y ≡ packet_call state image packet buf)
    (λ n. absurd (n.0 refl)) (λ n. absurd (n.1 refl)) (λ n. refl)

-- ---- counts

pub refused_counts : (number : ℕ) → CountsIn (encode_answer (refusal number)) (refusal number)
unfolding encode_answer
refused_counts number = record { blocks = refl; bytes = refl; marked = refl }

-- at most 65,535 filemarks, and 262,140 bytes
pub make_counts : (image index : List ℕ) → CountsIn (index_make_call image index).answer (makes image index).answer
unfolding index_make_call made_left encode_answer filemarks_of
make_counts image index =
    made_by image index (λ (x : Made). CountsIn (encode_answer x.answer) x.answer) (refused_counts broken_image) (refused_counts short_index)
    (λ good.
    let g = sound image (fields_of image) (good_header image good) in
    let m = marks_few image (fields_of image).kinds (fields_of image).recorded 0 in
    record { blocks = four_back _ (omega arith); bytes = four_back _ (omega arith); marked = refl })

pub index_counts : (state image index packet buf : List ℕ) → Bytes packet
    → CountsIn (index_packet_call state image index packet buf).card.answer (indexed_step image index (decode_state state) packet buf).left.answer
unfolding index_packet_call indexed_left packet_left packet_call
index_counts state image index packet buf b =
    left_by image index (decode_state state) packet buf (λ (x : Left State). CountsIn (packet_left state x).answer x.answer)
    (refused_counts short_index) (refused_counts stale_index)
    (record {
      blocks = blocks_whole state image packet buf b;
      bytes = bytes_whole state image packet buf b;
      marked = marked_whole state image packet buf b;
    })
