-- What the filemark index promises (02, A4), one named type each; proofs/ proves them.
-- Assumes nothing.
use Rattle.std.specs.Prelude.{ℕ, ◌≤◌, ◌<◌, true, List, ◌↔◌, ◌≡◌, Result, length, get_or}
use Rattle.numbers.specs.declared.refusals.Refusal.{Refusal as Reason}
use Rattle.numbers.specs.Member.{is_in}
use Rattle.image.specs.declared.elements.Kind.TheVariants.{Filemark}
use Rattle.image.specs.Header.{fields_of, keeps_header_rules}
use Rattle.packet_state.specs.Answers.{refusal}
use Rattle.packet_state.specs.declared.state.Outcome.{Outcome}
use Rattle.packet_state.specs.declared.state.State.{State}
use Rattle.packet_state.specs.declared.state.Told.{Told}
use Rattle.stream_parts.specs.Requests.{over_filemarks}
use Rattle.stream.specs.Packet.{packet_step}
use Rattle.stream.specs.Work.{space_run}
use Rattle.packet_laws.specs.Words.{number_of, Refusal}
use Rattle.stream_laws.specs.Words.{IsElement}
use Rattle.index.specs.Entries.{filemarks_of, no_filemark, index_length, is_fresh}
use Rattle.index.specs.Keeping.{short_index, stale_index, makes, indexed_step, MakePromise, IndexedPromise}
use Rattle.index.specs.Spacing.{entry_at, run_by_entries}
use Rattle.index_laws.specs.Words.{DueBeside, DueMade, MadeAfresh, front_bytes}
use Rattle.index_laws.specs.Plates.{all_made, make_plates, all_kept, keep_plates}

-- 01: "A refusal returns its number .. and alters nothing": the index buffer neither
pub record RefusedKeeps : Type 0 where
  pub packet : (s index : List ℕ) (st : State) (packet buf : List ℕ) → (number_of (indexed_step s index st packet buf).left ≡ 0 → ⊥)
      → Refusal s st buf (indexed_step s index st packet buf).left × ((indexed_step s index st packet buf).index ≡ index)
  pub make : (s index : List ℕ) → ((makes s index).answer.number ≡ 0 → ⊥)
      → ((makes s index).answer ≡ refusal (makes s index).answer.number) × ((makes s index).index ≡ index)

-- "Refusals: 9 ..; 10 ..; in that order after 3.": each number is given exactly where it is due
pub record NumberExactly : Type 0 where
  pub packet : (s index : List ℕ) (st : State) (packet buf : List ℕ) (n : ℕ)
      → (number_of (indexed_step s index st packet buf).left ≡ n) ↔ DueBeside s index st packet buf n
  pub make : (s index : List ℕ) (n : ℕ) → ((makes s index).answer.number ≡ n) ↔ DueMade s index n

-- answer, record, image and data buffer are those of the packet without the index, for every input that is not refused with 9 or 10
abbrev pub SameAsPacket : Type 0
SameAsPacket =
    (s index : List ℕ) (st : State) (packet buf : List ℕ)
    → (number_of (indexed_step s index st packet buf).left ≡ short_index → ⊥) → (number_of (indexed_step s index st packet buf).left ≡ stale_index → ⊥)
    → (indexed_step s index st packet buf).left ≡ packet_step s st packet buf

-- "SPACE over filemarks through the index gives the same answer, sense and position as without it.": the run over the entries of a fresh index ends as the run
-- over the kinds
abbrev pub SpaceAgrees : Type 0
SpaceAgrees =
    (s index : List ℕ) (p count : ℕ) → keeps_header_rules s ≡ true → is_fresh s index ≡ true → p ≤ (fields_of s).recorded
    → run_by_entries index (fields_of s) p count ≡ space_run s (fields_of s) p over_filemarks count

-- "After every packet not refused it equals the index made afresh from the image": the one that the packet leaves
pub record IndexIsFresh : Type 0 where
  pub after : (s index : List ℕ) (st : State) (packet buf : List ℕ) → number_of (indexed_step s index st packet buf).left ≡ 0
      → MadeAfresh (indexed_step s index st packet buf).left.image index (indexed_step s index st packet buf).index
  pub made : (s index : List ℕ) → (makes s index).answer.number ≡ 0 → MadeAfresh s index (makes s index).index
  -- so that neither 9 nor 10 refuses the next packet
  pub stays : (s index : List ℕ) (st : State) (packet buf : List ℕ) → number_of (indexed_step s index st packet buf).left ≡ 0
      → (index_length (indexed_step s index st packet buf).left.image ≤ length (indexed_step s index st packet buf).index)
      × (is_fresh (indexed_step s index st packet buf).left.image (indexed_step s index st packet buf).index ≡ true)
  pub starts : (s index : List ℕ) → (makes s index).answer.number ≡ 0
      → (index_length s ≤ length (makes s index).index) × (is_fresh s (makes s index).index ≡ true)

-- "only entries from the old position on are rewritten": the bytes of the entries before it are as they were
abbrev pub FrontUntouched : Type 0
FrontUntouched =
    (s index : List ℕ) (st : State) (packet buf : List ℕ) → number_of (indexed_step s index st packet buf).left ≡ 0
    → (i : ℕ) → i < front_bytes s st.position → get_or (indexed_step s index st packet buf).index i 0 ≡ get_or index i 0

-- "an index of filemark places, ascending ..; the rest of the first 4*C bytes is FFh": what an index that was made tells its reader
pub record ListsFilemarks : Type 0 where
  pub found : (s index : List ℕ) → (makes s index).answer.number ≡ 0 → (makes s index).answer.blocks ≡ length (filemarks_of s)
  pub entries : (s index : List ℕ) → (makes s index).answer.number ≡ 0 → (j : ℕ) → j < length (filemarks_of s)
      → entry_at (makes s index).index j ≡ get_or (filemarks_of s) j 0
  pub rest : (s index : List ℕ) → (makes s index).answer.number ≡ 0 → (j : ℕ) → length (filemarks_of s) ≤ j → j < (fields_of s).capacity
      → entry_at (makes s index).index j ≡ no_filemark
  pub places : (s : List ℕ) (i : ℕ) → (is_in i (filemarks_of s) ≡ true) ↔ IsElement s i Filemark
  pub ascending : (s : List ℕ) (i j : ℕ) → i < j → j < length (filemarks_of s) → get_or (filemarks_of s) i 0 < get_or (filemarks_of s) j 0

-- 01: "Prove that any two outcomes allowed by it coincide"
pub record Settled : Type 0 where
  pub packet : (s index : List ℕ) (st : State) (packet buf : List ℕ) (r r' : Result (Outcome State) Reason) (image image' left left' buf' buf'' : List ℕ)
      → IndexedPromise s index st packet buf r image left buf' → IndexedPromise s index st packet buf r' image' left' buf''
      → (r ≡ r') × (image ≡ image') × (left ≡ left') × (buf' ≡ buf'')
  pub make : (s index : List ℕ) (r r' : Result Told Reason) (left left' : List ℕ) → MakePromise s index r left → MakePromise s index r' left'
      → (r ≡ r') × (left ≡ left')

-- A4 worked out by hand: an index made, and packets beside one; so what is supposed above can be so
abbrev pub IndexPlates : Type 0
IndexPlates = (all_made make_plates ≡ true) × (all_kept keep_plates ≡ true)
