-- Nothing of a READ is left open, and of WRITE and WRITE FILEMARK nothing that a packet can find.
-- Assumes nothing.
use Prim.Native.Nat.{ℕ, zero, suc, ◌+◌, ◌*◌, ◌-◌, ◌≤◌, ◌<◌}
use native.Mathlib.Omega.{arith}
use mathlib.Core.Bool.{Bool, true, false, false≢true}
use mathlib.Core.List.{List}
use mathlib.Core.Path.{◌≡◌, refl, sym, ap, ◌∙◌}
use borrow.Author.Tests.{leb-true, leb-false}
use lib.Dec.{leb}
use lib.ListN.{get_or}
use lib.Seq.{ext_get_or}
use Rattle.numbers.specs.Over.{part}
use Rattle.numbers.proofs.OverLaws.{part_at}
use Rattle.image.specs.declared.elements.Kind.TheVariants.{Data, Filemark}
use Rattle.numbers.proofs.Cases.{test}
use Rattle.image.specs.declared.header.Header.{Header}
use Rattle.std.specs.Prelude.{Some}
use Rattle.image.specs.Elements.{holds_data, is_filemark, kind_at}
use Rattle.image.specs.Header.{fields_of, with_recorded}
use Rattle.image.specs.Sameness.{ReadsSame}
use Rattle.image.proofs.HeaderLaws.{good_header}
use Rattle.packet_state.specs.Answers.{Answer}
use Rattle.packet_state.specs.declared.state.Sense.{Sense}
use Rattle.packet_state.specs.declared.state.State.{State}
use Rattle.packet_state.specs.Senses.{volume_overflow}
use Rattle.packet_state.specs.States.{at_place, with_sense}
use Rattle.packet_parts.specs.Answers.{Left}
use Rattle.packet_laws.specs.Words.{status_of, blocks_of, bytes_of, marked_of, marked_among, gives}
use Rattle.stream_parts.specs.Requests.{request_of}
use Rattle.stream.specs.Packet.{packet_step}
use Rattle.stream_laws.specs.Words.{BeginsWork, Moves, by_read, by_write, by_filemarks, stores_on, stores}
use Rattle.stream_laws.specs.Words.{IsRecordedAs, IsElement, AlikeBelowU, CountsData, GoodRead, GoodWrite, SameBelowU}
use Rattle.stream_laws.specs.Words.{ReadWay, all_copied, met_filemark, met_bad_block, met_end, ReadEnds}
use Rattle.stream_laws.specs.Words.{WriteWay, all_stored, beyond_warning, met_capacity}
use Rattle.stream_laws.specs.Demands.{ReadSettled, WriteSettled}
use Rattle.stream_laws.proofs.Keeping.{stays_good, beyond_kept}
use Rattle.stream_laws.proofs.Marked.{marked_counted}
use Rattle.stream_laws.proofs.ReadingBack.{read_gives}
use Rattle.stream_laws.proofs.Storing.{blocks_stored, marks_stored, none_stored}
use Rattle.stream_laws.proofs.Telling.{read_tells_why, write_tells_why, write_stood, bytes_are_blocks, record_kept}

-- ---- READ: one count of blocks, and one ending

module _ {s : List ℕ} {p n : ℕ} where
  read_within : {k status place : ℕ} {sense : Sense} → ReadWay s p n k status sense place → k ≤ n
  read_within (all_copied e) = omega arith
  read_within (met_filemark l e) = omega arith
  read_within (met_bad_block l e) = omega arith
  read_within (met_end l e) = omega arith

  -- it did not stop at a data block
  not_data : {k status place : ℕ} {sense : Sense} → ReadWay s p n k status sense place → k < n
      → p + k < (fields_of s).recorded → holds_data (kind_at s (fields_of s).kinds (p + k)) ≡ true → ⊥
  not_data (all_copied e) l b d = omega arith
  not_data (met_filemark m e) l b d = false≢true (sym (ap holds_data e.1) ∙ d)
  not_data (met_bad_block m e) l b d = false≢true (sym (ap holds_data e.1) ∙ d)
  not_data (met_end m e) l b d = omega arith

  read_same : {k a b a' b' : ℕ} {x x' : Sense} → ReadWay s p n k a x b → ReadWay s p n k a' x' b' → (a ≡ a') × (x ≡ x') × (b ≡ b')
  read_same (all_copied e) (all_copied e') = (refl, refl, refl)
  read_same (all_copied e) (met_filemark l d) = absurd (omega arith)
  read_same (all_copied e) (met_bad_block l d) = absurd (omega arith)
  read_same (all_copied e) (met_end l d) = absurd (omega arith)
  read_same (met_filemark l d) (all_copied e) = absurd (omega arith)
  read_same (met_filemark l d) (met_filemark l' d') = (refl, refl, refl)
  read_same (met_filemark l d) (met_bad_block l' d') = absurd (false≢true (ap is_filemark (sym d'.1 ∙ d.1)))
  read_same (met_filemark l d) (met_end l' d') = absurd (omega (arith, d.0))
  read_same (met_bad_block l d) (all_copied e) = absurd (omega arith)
  read_same (met_bad_block l d) (met_filemark l' d') = absurd (false≢true (ap is_filemark (sym d.1 ∙ d'.1)))
  read_same (met_bad_block l d) (met_bad_block l' d') = (refl, refl, refl)
  read_same (met_bad_block l d) (met_end l' d') = absurd (omega (arith, d.0))
  read_same (met_end l d) (all_copied e) = absurd (omega arith)
  read_same (met_end l d) (met_filemark l' d') = absurd (omega (arith, d'.0))
  read_same (met_end l d) (met_bad_block l' d') = absurd (omega (arith, d'.0))
  read_same (met_end l d) (met_end l' d') = (refl, refl, refl)

-- no drive that counts only data counts more than another that stops only where 01 says
no_more : (s : List ℕ) (p n : ℕ) (x y : Left State) → CountsData s p x → ReadEnds s p n x → ReadEnds s p n y → blocks_of x ≤ blocks_of y
no_more s p n x y d r t =
    test (leb (blocks_of x) (blocks_of y)) (λ e. leb-true _ _ e) (λ e.
    let l : blocks_of y < blocks_of x = leb-false _ _ e in
    let w = read_within r in
    let b = d (blocks_of y) l in
    absurd (not_data t (omega arith) b.before b.holds))

-- ---- one answer and one record

answer_of : ℕ → ℕ → ℕ → ℕ → ℕ → Answer
answer_of number status blocks bytes marked = record { number = number; status = status; blocks = blocks; bytes = bytes; marked = marked }

same_answer : (a b : Answer) → a.number ≡ b.number → a.status ≡ b.status → a.blocks ≡ b.blocks → a.bytes ≡ b.bytes → a.marked ≡ b.marked → a ≡ b
unfolding answer_of
same_answer a b e f g k m =
    let z : answer_of a.number a.status a.blocks a.bytes a.marked ≡ answer_of b.number b.status b.blocks b.bytes b.marked
    = rw (e, f, g, k, m) in
    z

-- the record changed its place and sense alone, and these are the same
same_state : (st a b : State) → a ≡ with_sense (at_place st a.position) a.sense → b ≡ with_sense (at_place st b.position) b.sense
    → a.sense ≡ b.sense → a.position ≡ b.position → a ≡ b
same_state st a b e f s p =
    let z : with_sense (at_place st a.position) a.sense ≡ with_sense (at_place st b.position) b.sense = rw (s, p) in
    e ∙ z ∙ sym f

left_of : Answer → State → List ℕ → List ℕ → Left State
left_of answer state image buf = record { answer = answer; state = state; image = image; buf = buf }

-- ---- READ: one buffer

-- the bytes of one block more
block_more : (size k : ℕ) (xs ys : List ℕ) → part xs (k * size) size ≡ part ys (k * size) size
    → ((i : ℕ) → i < k * size → get_or xs i 0 ≡ get_or ys i 0) → (i : ℕ) → i < suc k * size → get_or xs i 0 ≡ get_or ys i 0
block_more size k xs ys e before i l =
    test (leb (k * size) i) (λ f.
    let m : k * size ≤ i = leb-true _ _ f in
    let z : k * size + (i - k * size) ≡ i = omega arith in
    let x = part_at xs (k * size) size (i - k * size) (omega arith) in
    let y = part_at ys (k * size) size (i - k * size) (omega arith) in
    sym (rw z at x) ∙ ap (λ (b : List ℕ). get_or b (i - k * size) 0) e ∙ rw z at y)
    (λ f. before i (leb-false _ _ f))

blocks_same : (size : ℕ) (xs ys : List ℕ) (k : ℕ) → ((j : ℕ) → j < k → part xs (j * size) size ≡ part ys (j * size) size)
    → (i : ℕ) → i < k * size → get_or xs i 0 ≡ get_or ys i 0
blocks_same size xs ys zero f i l = absurd (omega arith)
blocks_same size xs ys (suc k) f i l = block_more size k xs ys (f k (omega arith)) (blocks_same size xs ys k (λ j m. f j (omega arith))) i l

module _ (s : List ℕ) (st : State) (n : ℕ) (buf : List ℕ) (x y : Left State) (g : GoodRead s st n buf x) (g' : GoodRead s st n buf y) where
  same_blocks : blocks_of x ≡ blocks_of y
  same_blocks =
      let a = no_more s st.position n x y g.counts g.ends g'.ends in
      let b = no_more s st.position n y x g'.counts g'.ends g.ends in
      omega arith

  same_bytes : bytes_of x ≡ bytes_of y
  same_bytes = g.bytes ∙ ap (λ (k : ℕ). k * (fields_of s).size) same_blocks ∙ sym g'.bytes

  same_marked : marked_of x ≡ marked_of y
  same_marked =
      g.marked ∙ ap (λ (k : ℕ). marked_among (part s ((fields_of s).kinds + st.position) k)) same_blocks ∙ sym g'.marked

  same_buf : x.buf ≡ y.buf
  same_buf = ext_get_or 0 x.buf y.buf (g.buf_length ∙ sym g'.buf_length) (λ i l. by i (leb (bytes_of x) i) refl)
    where
      by : (i : ℕ) (a : Bool) → leb (bytes_of x) i ≡ a → get_or x.buf i 0 ≡ get_or y.buf i 0
      by i true f =
          let m : bytes_of x ≤ i = leb-true _ _ f in
          g.buf_beyond i m ∙ sym (g'.buf_beyond i (omega (arith, same_bytes)))
      by i false f =
          let m : i < bytes_of x = leb-false _ _ f in
          blocks_same (fields_of s).size x.buf y.buf (blocks_of x)
          (λ j l. sym (g.counts j l).same ∙ (g'.counts j (omega (arith, same_blocks))).same) i (omega (arith, g.bytes))

  same_left : x ≡ y
  unfolding left_of
  same_left =
      let z = read_same (rw same_blocks at g.ends) g'.ends in
      let a = same_answer x.answer y.answer (g.accepted ∙ sym g'.accepted) z.0 same_blocks same_bytes same_marked in
      let b = same_state st x.state y.state g.state_kept g'.state_kept z.1 z.2 in
      let d : left_of x.answer x.state x.image x.buf ≡ left_of y.answer y.state y.image y.buf
      = rw (a, b, g.image_kept ∙ sym g'.image_kept, same_buf) in
      d

pub read_settled : ReadSettled
read_settled =
    record {
      good = λ s st packet buf b c.
          let k = beyond_kept s st packet buf b.unrefused in
          record {
            accepted = b.unrefused;
            ends = read_tells_why s st packet buf b c;
            counts = read_gives s st packet buf b c;
            bytes = bytes_are_blocks.read s st packet buf b c;
            marked = marked_counted.counted s st packet buf b c;
            state_kept = record_kept s st packet buf b (rw c by_read);
            image_kept = k.image_kept (ap stores_on c);
            buf_length = k.buf_length;
            buf_beyond = k.buf_beyond;
          };
      one = λ s st n buf x y g g'. same_left s st n buf x y g g';
    }

-- ---- WRITE and WRITE FILEMARK

write_same : {h : Header} {p n k a b k' a' b' : ℕ} {x x' : Sense} → WriteWay h p n k a x b → WriteWay h p n k' a' x' b'
    → (a ≡ a') × (k ≡ k') × (x ≡ x') × (b ≡ b')
write_same {p = p} (all_stored e l) (all_stored e' l') = let z = e ∙ sym e' in (refl, z, refl, ap (λ (i : ℕ). p + i) z)
write_same (all_stored e l) (beyond_warning e' m w b) = absurd (omega (arith, l m))
write_same (all_stored e l) (met_capacity m d) = absurd (omega (arith, l (omega arith)))
write_same (beyond_warning e m w b) (all_stored e' l) = absurd (omega (arith, l m))
write_same {p = p} (beyond_warning e m w b) (beyond_warning e' m' w' b') = let z = e ∙ sym e' in (refl, z, refl, ap (λ (i : ℕ). p + i) z)
write_same (beyond_warning e m w b) (met_capacity l d) = absurd (omega arith)
write_same (met_capacity m d) (all_stored e l) = absurd (omega (arith, l (omega arith)))
write_same (met_capacity l d) (beyond_warning e m w b) = absurd (omega arith)
write_same {p = p} {n = n} {k = k} {k' = k'} (met_capacity l d) (met_capacity l' d') =
    let z : k ≡ k' = omega arith in
    (refl, z, ap (λ (i : ℕ). volume_overflow (n - i)) z, ap (λ (i : ℕ). p + i) z)

module _ (Holds : List ℕ → ℕ → Type 0) (each : ℕ) (s : List ℕ) (st : State) (n : ℕ) (buf : List ℕ)
    (alike : (t t' : List ℕ) (j : ℕ) → fields_of t' ≡ fields_of t → Holds t j → Holds t' j → ReadsSame (fields_of t) t t' (st.position + j))
    (x y : Left State) (g : GoodWrite Holds each s st n buf x) (g' : GoodWrite Holds each s st n buf y) where
  abbrev told : (status_of x ≡ status_of y) × (blocks_of x ≡ blocks_of y) × (x.state.sense ≡ y.state.sense) × (x.state.position ≡ y.state.position)
  told = write_same g.ends g'.ends

  one_state : x.state ≡ y.state
  one_state = same_state st x.state y.state g.state_kept g'.state_kept told.2 told.3

  -- elements were stored, so both images have one header
  module _ (some : 1 ≤ blocks_of x) where
    some' : 1 ≤ blocks_of y
    some' = omega (arith, told.1)

    one-header : fields_of y.image ≡ fields_of x.image
    one-header = g'.recorded some' ∙ ap (λ (u : ℕ). with_recorded (fields_of s) u) (sym told.3) ∙ sym (g.recorded some)

    element : (i : ℕ) → i < (fields_of x.image).recorded → ReadsSame (fields_of x.image) x.image y.image i
    element i l = by (leb st.position i) refl
      where
        by : (a : Bool) → leb st.position i ≡ a → ReadsSame (fields_of x.image) x.image y.image i
        by true e =
            let m : st.position ≤ i = leb-true _ _ e in
            let z : st.position + (i - st.position) ≡ i = omega arith in
            let u : (fields_of x.image).recorded ≡ x.state.position = ap (λ (h : Header). h.recorded) (g.recorded some) in
            let w = write_stood g.ends in
            let j : i - st.position < blocks_of x = omega arith in
            rw z at (alike x.image y.image (i - st.position) one-header (g.stored _ j) (g'.stored _ (omega (arith, told.1))))
        by false e =
            let m = leb-false _ _ e in
            let a = g.elements_before i m in
            let b = g'.elements_before i m in
            rw (g.recorded some) (record { kind = b.kind ∙ sym a.kind; bytes = λ d. b.bytes ∙ sym a.bytes })

    one-image : AlikeBelowU x.image y.image
    one-image =
        record {
          header = good_header y.image g'.image_good ∙ ap Some one-header ∙ sym (good_header x.image g.image_good);
          elements = element;
        }

  same_below : SameBelowU x y
  same_below =
      record {
        answer = same_answer x.answer y.answer (g.accepted ∙ sym g'.accepted) told.0 told.1
            (g.bytes ∙ ap (λ (k : ℕ). k * each) told.1 ∙ sym g'.bytes)
            (g.no_marked ∙ sym g'.no_marked);
        state = one_state;
        buf = g.buf_kept ∙ sym g'.buf_kept;
        images = test (leb 1 (blocks_of x)) (λ e. one-image (leb-true 1 (blocks_of x) e)) (λ e.
            let m = leb-false 1 (blocks_of x) e in
            rw (g.image_kept (omega arith), g'.image_kept (omega (arith, told.1)))
            (record { header = refl; elements = λ i l. record { kind = refl; bytes = λ d. refl } }));
      }

blocks_alike : (p size : ℕ) (buf t t' : List ℕ) (j : ℕ) → fields_of t' ≡ fields_of t → IsRecordedAs Data t (p + j) (part buf (j * size) size)
    → IsRecordedAs Data t' (p + j) (part buf (j * size) size) → ReadsSame (fields_of t) t t' (p + j)
blocks_alike p size buf t t' j e a b =
    let k = rw e at b.1 in
    let w = rw e at b.0.same in
    record { kind = k ∙ sym a.1; bytes = λ d. w ∙ sym a.0.same }

marks_alike : (p : ℕ) (t t' : List ℕ) (j : ℕ) → fields_of t' ≡ fields_of t → IsElement t (p + j) Filemark → IsElement t' (p + j) Filemark
    → ReadsSame (fields_of t) t t' (p + j)
marks_alike p t t' j e a b =
    let k = rw e at b.1 in
    record { kind = k ∙ sym a.1; bytes = λ d. absurd (false≢true (sym (ap holds_data a.1) ∙ d)) }

module _ (Holds : List ℕ → ℕ → Type 0) (each : ℕ) (s : List ℕ) (st : State) (packet buf : List ℕ) (b : BeginsWork s st packet buf)
    (storing : stores packet ≡ true) (giving : gives (request_of packet).command ≡ false)
    (moving : Moves (request_of packet).command)
    (stored : (j : ℕ) → j < blocks_of (packet_step s st packet buf) → Holds (packet_step s st packet buf).image j)
    (bytes : bytes_of (packet_step s st packet buf) ≡ blocks_of (packet_step s st packet buf) * each) where
  good_write : GoodWrite Holds each s st (request_of packet).count buf (packet_step s st packet buf)
  good_write =
      let k = beyond_kept s st packet buf b.unrefused in
      let w = stays_good s st packet buf b.unrefused in
      record {
        accepted = b.unrefused;
        ends = write_tells_why s st packet buf b storing;
        stored = stored;
        recorded = λ l. w.1 ∙ ap (λ (u : ℕ). with_recorded (fields_of s) u) (k.recorded_new storing l);
        bytes = bytes;
        no_marked = marked_counted.none s st packet buf (λ b' r. false≢true (sym giving ∙ ap gives r));
        state_kept = record_kept s st packet buf b moving;
        image_good = w.0;
        image_kept = none_stored s st packet buf;
        elements_before = k.elements_before;
        image_length = k.image_length;
        image_beyond = k.image_beyond;
        buf_kept = k.buf_kept giving;
      }

pub write_settled : WriteSettled
write_settled =
    record {
      blocks_good = λ s st packet buf b c.
          good_write _ (fields_of s).size s st packet buf b (ap stores_on c) (ap gives c) (rw c by_write)
          (blocks_stored s st packet buf b c) (bytes_are_blocks.write s st packet buf b c);
      marks_good = λ s st packet buf b c.
          good_write _ 0 s st packet buf b (ap stores_on c) (ap gives c) (rw c by_filemarks)
          (marks_stored s st packet buf b c) (bytes_are_blocks.filemarks s st packet buf b c ∙ omega arith);
      blocks_one = λ s st n buf x y g g'.
          same_below _ (fields_of s).size s st n buf (blocks_alike st.position (fields_of s).size buf) x y g g';
      marks_one = λ s st n buf x y g g'. same_below _ 0 s st n buf (marks_alike st.position) x y g g';
    }
