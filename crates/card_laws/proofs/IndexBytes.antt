-- What a call with an index leaves of record, index and answer are bytes.
-- Assumes nothing.
use mathlib.Core.Path.{◌≡◌, refl}
use mathlib.Core.Bool.{true}
use mathlib.Core.List.{List, [], ◌∷◌, ◌++◌, append_assoc}
use Prim.Native.Nat.{ℕ, suc, ◌+◌}
use lib.ListN.{length, drop}
use lib.Seq.{get_or-drop}
use Rattle.numbers.specs.Counts.{count_bytes}
use Rattle.packet_state.specs.Answers.{Answer}
use Rattle.packet_state.specs.declared.state.State.{State}
use Rattle.packet_state.specs.States.{fresh_state}
use Rattle.packet_parts.specs.Answers.{Left}
use Rattle.index.specs.Entries.{entry_bytes, entries_of, fresh_index}
use Rattle.index.specs.Keeping.{Made, Indexed}
use Rattle.packet_record.specs.PacketRecord.{decode_state, encode_answer}
use Rattle.tapecard.specs.PacketCalls.{packet_left, packet_call}
use Rattle.tapecard.specs.IndexCalls.{made_left, indexed_left, index_make_call, index_packet_call}
use Rattle.card_laws.specs.Promises.{Bytes, IndexStaysBytes}
use Rattle.card_laws.proofs.BytesKept.{All, bytes_of_lem, count_all, next, none}
use Rattle.card_laws.proofs.IndexFollowing.{indexed_by, left_by, made_by}
use Rattle.card_laws.proofs.PacketBytes.{answer_bytes, fits, packet_stays_bytes}

-- ---- the index

pub all_of : (s : List ℕ) → Bytes s → All s
all_of [] b = none
all_of (x ∷ s) b = next (b 0) (all_of s (λ i. b (suc i)))

-- the entries' bytes, before others
entries_all : (es : List ℕ) {xs : List ℕ} → All xs → All (entry_bytes es ++ xs)
entries_all [] a = a
entries_all (e ∷ es) {xs} a = rw (append_assoc (count_bytes 4 e) (entry_bytes es) xs) (count_all 4 e (entries_all es a))

fresh_bytes : (s index : List ℕ) → Bytes index → Bytes (fresh_index s index)
unfolding fresh_index
fresh_bytes s index b =
    let n = length (entry_bytes (entries_of s)) in
    bytes_of_lem (entries_all (entries_of s) (all_of (drop n index) (λ i. rw get_or-drop (b (n + i)))))

-- ---- the promises

-- an answer by itself
pub answer_alone : (a : Answer) → fits a fresh_state ≡ true → Bytes (encode_answer a)
answer_alone a e = answer_bytes a fresh_state e

make_answer : (image index : List ℕ) → Bytes (index_make_call image index).answer
unfolding index_make_call made_left
make_answer image index =
    made_by image index (λ (x : Made). Bytes (encode_answer x.answer))
    (answer_alone _ refl) (answer_alone _ refl) (λ good. answer_alone _ refl)

pub index_stays_bytes : IndexStaysBytes
unfolding index_make_call made_left index_packet_call indexed_left packet_left packet_call
index_stays_bytes =
    record {
      make = λ image index b. made_by image index (λ (x : Made). Bytes x.index) b b (λ good. fresh_bytes image index b);
      make_answer = make_answer;
      packet = λ state image index packet buf b.
          left_by image index (decode_state state) packet buf (λ (x : Left State). Bytes (packet_left state x).state) b b
          (packet_stays_bytes.packet state image packet buf b);
      index = λ state image index packet buf b.
          indexed_by image index (decode_state state) packet buf (λ (x : Indexed). Bytes x.index) b b (λ n. b) (λ f. fresh_bytes _ index b);
      answer = λ state image index packet buf.
          left_by image index (decode_state state) packet buf (λ (x : Left State). Bytes (packet_left state x).answer)
          (answer_alone _ refl) (answer_alone _ refl)
          (packet_stays_bytes.answer state image packet buf);
    }
