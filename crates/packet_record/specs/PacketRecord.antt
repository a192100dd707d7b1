-- The packet drive's record and answer in bytes. Numbers are big-endian; reserved bits and bytes are ignored and written as 0.
-- Assumes nothing.
use Rattle.std.specs.Prelude.{ℕ, ◌+◌, List, ◌∷◌, ◌++◌, get_or}
use Rattle.numbers.specs.Counts.{count_at, count_bytes}
use Rattle.packet_state.specs.declared.state.Attention.{Attention}
use Rattle.packet_state.specs.declared.state.Attention.TheVariants.{Nothing, MediumChanged, Reset}
use Rattle.packet_state.specs.declared.state.State.{State}
use Rattle.packet_state.specs.Answers.{Answer}
use Rattle.packet_state.specs.States.{attention_of}
use Rattle.numbers.specs.Flags.{is_set, weight_of}

-- "attention: 0 none, 1 medium changed, 2 reset"
abbrev pub attention_byte : Attention → ℕ
attention_byte Nothing = 0
attention_byte MediumChanged = 1
attention_byte Reset = 2

-- the record that 16 bytes spell
unfoldable pub decode_state : List ℕ → State
decode_state s =
    record {
      position = count_at s 0 4;  -- 0-3
      loaded = is_set (get_or s 4 0) 1;  -- 4: bit 0
      locked = is_set (get_or s 4 0) 2;  -- 4: bit 1
      attention = attention_of (get_or s 5 0);  -- 5
      speed = count_at s 6 2;  -- 6-7
      sense =
          record {
            key = get_or s 8 0;  -- 8
            asc = get_or s 9 0;  -- 9
            ascq = get_or s 10 0;  -- 10
            valid = is_set (get_or s 11 0) 1;  -- 11: bit 0
            eom = is_set (get_or s 11 0) 2;  -- 11: bit 1
            filemark = is_set (get_or s 11 0) 4;  -- 11: bit 2
            information = count_at s 12 4;  -- 12-15
          };
    }

-- the 16 bytes of a record; a number wider than its bytes gives its low ones
unfoldable pub encode_state : State → List ℕ
encode_state st =
    count_bytes 4 st.position  -- 0-3
    ++ ((weight_of st.loaded 1 + weight_of st.locked 2)  -- 4
    ∷ attention_byte st.attention  -- 5
    ∷ (count_bytes 2 st.speed  -- 6-7
    ++ (st.sense.key  -- 8
    ∷ st.sense.asc  -- 9
    ∷ st.sense.ascq  -- 10
    ∷ (weight_of st.sense.valid 1 + weight_of st.sense.eom 2 + weight_of st.sense.filemark 4)  -- 11
    ∷ count_bytes 4 st.sense.information)))  -- 12-15

-- "0 number; 1 status; 2-3 zero; 4-7 blocks; 8-11 bytes; 12-15 how many of the blocks that a READ copied were marked"
unfoldable pub encode_answer : Answer → List ℕ
encode_answer a =
    a.number ∷ a.status ∷ 0 ∷ 0
    ∷ (count_bytes 4 a.blocks ++ (count_bytes 4 a.bytes ++ count_bytes 4 a.marked))
