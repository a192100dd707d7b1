-- The words in which the demands on the index are stated.
-- Assumes nothing.
use Rattle.std.specs.Prelude.{ℕ, ◌*◌, ◌≤◌, ◌<◌, true, List, ◌≡◌, length, get_or}
use Rattle.numbers.specs.Over.{part}
use Rattle.image.specs.Header.{fields_of, keeps_header_rules, broken_image}
use Rattle.packet_state.specs.declared.state.State.{State}
use Rattle.packet_laws.specs.Words.{Passes, Due}
use Rattle.stream.specs.Packet.{stream_device}
use Rattle.index.specs.Entries.{marks_from, entries_of, entry_bytes, index_length, fresh_index}
use Rattle.index.specs.Keeping.{short_index, stale_index}

module _ (s index : List ℕ) (st : State) (packet buf : List ℕ) where
  -- the packet, the image and the record pass 1, 2 and 3
  abbrev pub PassesThree : Type 0
  PassesThree = Passes stream_device s st packet buf

  -- 02, A4: "Refusals: 9, index buffer shorter than four times the capacity; 10, index differs from a fresh one; in that order after 3.", then the number that
  -- the packet is given without the index
  pub data DueBeside : ℕ → Type 0 where
    up_to_three : (n : ℕ) → (PassesThree → ⊥) → Due stream_device s st packet buf n → DueBeside n
    index_short : PassesThree → length index < index_length s → DueBeside short_index
    index_stale : PassesThree → index_length s ≤ length index → (index ≡ fresh_index s index → ⊥) → DueBeside stale_index
    as_packet : (n : ℕ) → PassesThree → index_length s ≤ length index → index ≡ fresh_index s index → Due stream_device s st packet buf n → DueBeside n

-- an index is made: "refusals 2, 9"
pub data DueMade (s index : List ℕ) : ℕ → Type 0 where
  bad_image : (keeps_header_rules s ≡ true → ⊥) → DueMade s index broken_image
  too_short : keeps_header_rules s ≡ true → length index < index_length s → DueMade s index short_index
  made_well : keeps_header_rules s ≡ true → index_length s ≤ length index → DueMade s index 0

-- `left` is `index` with the index of the image s made afresh in its first 4*C bytes; "bytes beyond stay"
pub record MadeAfresh (s index left : List ℕ) : Type 0 where
  pub first : part left 0 (index_length s) ≡ entry_bytes (entries_of s)
  pub beyond : (i : ℕ) → index_length s ≤ i → get_or left i 0 ≡ get_or index i 0
  pub size : length left ≡ length index

-- how many bytes the entries of the filemarks before place p have
abbrev pub front_bytes : List ℕ → ℕ → ℕ
front_bytes s p = 4 * length (marks_from s (fields_of s).kinds p 0)
