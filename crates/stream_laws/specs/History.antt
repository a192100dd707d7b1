-- What may happen to an image after a block was stored, as long as nothing is stored at or below its place.
-- Assumes nothing.
use Rattle.std.specs.Prelude.{ℕ, ◌≤◌, true, List, ◌≡◌}
use Rattle.image.specs.declared.elements.Kind.{Kind}
use Rattle.packet_state.specs.declared.state.State.{State}
use Rattle.stream.specs.Packet.{packet_step}
use Rattle.packet_laws.specs.Words.{blocks_of}
use Rattle.stream_laws.specs.Words.{stores, IsRecordedAs, EveryReadGives}

-- this packet is a WRITE or WRITE FILEMARK that stores elements from a place at or below i on
pub record StoresUpTo (i : ℕ) (s : List ℕ) (st : State) (packet buf : List ℕ) : Type 0 where
  pub a_store : stores packet ≡ true
  pub some : 1 ≤ blocks_of (packet_step s st packet buf)
  pub from : st.position ≤ i

-- from the image s and the record st, by any packets with any buffers, none of which stores at or below place i
pub data Later (i : ℕ) (s : List ℕ) (st : State) : List ℕ → State → Type 0 where
  at_once : Later i s st s st
  -- one more packet
  asked : {s' : List ℕ} {st' : State} (packet buf : List ℕ) → Later i s st s' st' → (StoresUpTo i s' st' packet buf → ⊥)
      → Later i s st (packet_step s' st' packet buf).image (packet_step s' st' packet buf).state
  -- the record is replaced: by `changed_state` where the cartridge is changed, by `fresh_state`, or by what packets to other cartridges left
  replaced : {s' : List ℕ} {st' : State} (st'' : State) → Later i s st s' st' → Later i s st s' st''

-- element i keeps this kind and these bytes through every such history, and every READ that moves it gives the bytes
abbrev pub ReadsBackAs : Kind → ℕ → List ℕ → List ℕ → State → Type 0
ReadsBackAs kind i bytes s st = (s' : List ℕ) (st' : State) → Later i s st s' st' → IsRecordedAs kind s' i bytes × EveryReadGives s' st' i bytes
