-- The index after a packet, and where its entries stay.
-- Assumes nothing.
use Rattle.std.specs.Prelude.{Some}
use Prim.Native.Nat.{ℕ, ◌+◌, ◌*◌, ◌-◌, ◌≤◌, ◌<◌}
use mathlib.Core.Bool.{true}
use mathlib.Core.List.{List, ◌++◌}
use mathlib.Core.Path.{◌≡◌, refl, sym, ap, ◌∙◌}
use native.Mathlib.Omega.{arith}
use lib.ListN.{length, get_or, drop, replicate, get_or-append, length-append}
use lib.Seq.{take_at, drop-append_seam}
use Rattle.numbers.proofs.OverLaws.{over_above, over_length}
use Rattle.image.specs.declared.header.Header.{Header}
use Rattle.image.specs.Header.{fields_of, keeps_header_rules, header_of, with_recorded}
use Rattle.image.proofs.HeaderLaws.{fields_are, keeps_of, good_header}
use Rattle.packet_state.specs.declared.state.State.{State}
use Rattle.packet_state.proofs.RecordLaws.{ruly_of}
use Rattle.packet_laws.specs.Words.{number_of}
use Rattle.stream_laws.proofs.Leaving.{accepted_leaves}
use Rattle.index.specs.Entries.{marks_from, no_filemark, entries_of, entry_bytes, index_length, fresh_index, is_fresh}
use Rattle.index.specs.Keeping.{Made, Indexed, indexed_step}
use Rattle.index.proofs.CheckLaws.{entries_count}
use Rattle.index.proofs.EntryLaws.{entries_length, entries_append}
use Rattle.index.proofs.FreshLaws.{entries_parted}
use Rattle.index.proofs.KeepLaws.{fresh_stays}
use Rattle.index.proofs.MarkLaws.{marks_same}
use Rattle.index.proofs.RewriteLaws.{fresh_is}
use Rattle.index_laws.specs.Demands.{IndexIsFresh, FrontUntouched}
use Rattle.index_laws.specs.Words.{MadeAfresh, front_bytes}
use Rattle.index_laws.proofs.Calls.{fresh_of}
use Rattle.index_laws.proofs.Ways.{Way, early, short, stale, goes, way, MakeWay, broken, no_room, well, make_way}

-- ---- a fresh index

module _ (s index : List ℕ) (good : keeps_header_rules s ≡ true) where
  fresh_length : length (entry_bytes (entries_of s)) ≡ index_length s
  fresh_length = let n = entries_count s (fields_of s) (good_header s good) in omega (arith, entries_length (entries_of s))

  pub fresh_again : is_fresh s (fresh_index s index) ≡ true
  unfolding fresh_index
  fresh_again =
      let xs = entry_bytes (entries_of s) in
      fresh_of s (fresh_index s index) (sym (ap (λ (ys : List ℕ). xs ++ ys) (drop-append_seam xs (drop (length xs) index))))

  module _ (room : index_length s ≤ length index) where
    pub afresh-is : MadeAfresh s index (fresh_index s index)
    unfolding fresh_index
    afresh-is =
        let xs = entry_bytes (entries_of s) in
        record {
          first = take_at xs (drop (length xs) index) (index_length s) fresh_length;
          beyond = λ i l. over_above index xs 0 i (omega arith) (omega (arith, fresh_length));
          size = over_length index xs 0 (omega (arith, fresh_length));
        }

-- the bytes of the entries before place p
front_is : (t index : List ℕ) (h : Header) (p i : ℕ) → header_of t ≡ Some h → p ≤ h.recorded → i < 4 * length (marks_from t h.kinds p 0)
    → get_or (fresh_index t index) i 0 ≡ get_or (entry_bytes (marks_from t h.kinds p 0)) i 0
front_is t index h p i good l m =
    let before = marks_from t h.kinds p 0 in
    let behind = marks_from t h.kinds (h.recorded - p) p in
    let others = behind ++ replicate (h.capacity - (length before + length behind)) no_filemark in
    let rest = drop (4 * length (entries_of t)) index in
    let n : i < length (entry_bytes before) = omega (arith, entries_length before) in
    let k = length-append (entry_bytes before) (entry_bytes others) in
    ap (λ (xs : List ℕ). get_or xs i 0) (fresh_is t index)
    ∙ ap (λ (es : List ℕ). get_or (entry_bytes es ++ rest) i 0) (entries_parted t h p good l)
    ∙ ap (λ (xs : List ℕ). get_or (xs ++ rest) i 0) (entries_append before others)
    ∙ get_or-append (entry_bytes before ++ entry_bytes others) rest 0 i (omega arith)
    ∙ get_or-append (entry_bytes before) (entry_bytes others) 0 i n

-- ---- after a packet

module _ (s index : List ℕ) (st : State) (packet buf : List ℕ) where
  record Kept (x : Indexed) : Type 0 where
    good : keeps_header_rules x.left.image ≡ true
    room : index_length x.left.image ≤ length index
    fresh : x.index ≡ fresh_index x.left.image index
    front : (i : ℕ) → i < front_bytes s st.position → get_or x.index i 0 ≡ get_or index i 0

  kept_by : {x : Indexed} → Way s index st packet buf x → number_of x.left ≡ 0 → Kept x
  kept_by (early n p z l e) f = absurd (z f)
  kept_by (short p l) f = absurd (omega arith)
  kept_by (stale p l t) f = absurd (omega arith)
  kept_by (goes p l t) f =
      let w = accepted_leaves s st packet buf f in
      let h = fields_of s in
      let place = (ruly_of h.recorded st p.ruly).place in
      let c = ap (λ (k : Header). k.capacity) (fields_are _ _ w.header) in
      let same = marks_same s _ h.kinds st.position 0 (λ j a b. (w.below j (omega arith)).kind) in
      record {
        good = keeps_of _ _ w.header;
        room = omega arith;
        fresh = refl;
        front = λ i m.
            front_is _ index (with_recorded h w.u) st.position i w.header w.reached (rw same m)
            ∙ ap (λ (ps : List ℕ). get_or (entry_bytes ps) i 0) same
            ∙ sym (front_is s index h st.position i (good_header s p.good) place m)
            ∙ ap (λ (xs : List ℕ). get_or xs i 0) (fresh_stays s index t);
      }

  kept : number_of (indexed_step s index st packet buf).left ≡ 0 → Kept (indexed_step s index st packet buf)
  kept = kept_by (way s index st packet buf)

-- ---- an index made

record MadeWell (s index : List ℕ) (x : Made) : Type 0 where
  good : keeps_header_rules s ≡ true
  room : index_length s ≤ length index
  fresh : x.index ≡ fresh_index s index

made_by : (s index : List ℕ) {x : Made} → MakeWay s index x → x.answer.number ≡ 0 → MadeWell s index x
made_by s index (broken b) f = absurd (omega arith)
made_by s index (no_room g l) f = absurd (omega arith)
made_by s index (well g l) f = record { good = g; room = l; fresh = refl }

-- ---- the theorems

next_accepts : (s index left : List ℕ) → keeps_header_rules s ≡ true → index_length s ≤ length index → left ≡ fresh_index s index
    → (index_length s ≤ length left) × (is_fresh s left ≡ true)
next_accepts s index left good room e =
    let a = (afresh-is s index good room).size in
    rw e (omega arith, fresh_again s index good)

pub index_is_fresh : IndexIsFresh
index_is_fresh =
    record {
      after = λ s index st packet buf f. let k = kept s index st packet buf f in rw k.fresh (afresh-is _ index k.good k.room);
      made = λ s index f. let k = made_by s index (make_way s index) f in rw k.fresh (afresh-is s index k.good k.room);
      stays = λ s index st packet buf f. let k = kept s index st packet buf f in next_accepts _ index _ k.good k.room k.fresh;
      starts = λ s index f. let k = made_by s index (make_way s index) f in next_accepts s index _ k.good k.room k.fresh;
    }

pub front_untouched : FrontUntouched
front_untouched s index st packet buf f i l = (kept s index st packet buf f).front i l
