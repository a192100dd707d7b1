-- The ways of `keep`: what a packet leaves, and the index beside it.
-- Assumes nothing.
use Rattle.std.specs.Prelude.{Some, Result, Ok, Err}
use mathlib.Core.Path.{◌≡◌, refl, sym, ap, ◌∙◌}
use mathlib.Core.Bool.{Bool, true, false, ◌&&◌, false≢true}
use mathlib.Core.List.{List}
use Prim.Native.Nat.{ℕ, ◌+◌, ◌^◌, ◌≤◌, ◌<◌}
use native.Mathlib.Nat.{le_refl}
use native.Mathlib.Omega.{arith}
use borrow.Author.Tests.{eqb-true, leb-true, leb-false}
use lib.Dec.{leb}
use lib.ListN.{length}
use Rattle.numbers.specs.Choice.{◌≡ᵇ◌}
use Rattle.numbers.proofs.Cases.{and_l, and_r}
use Rattle.numbers.proofs.SameLaws.{same_of}
use Rattle.numbers.specs.declared.refusals.Refusal.{Refusal}
use Rattle.image.specs.declared.header.Header.{Header}
use Rattle.image.specs.Elements.{kind_at}
use Rattle.image.specs.Header.{header_of, with_recorded}
use Rattle.image.proofs.HeaderLaws.{fields_are, keeps_of, sound}
use Rattle.opcodes.specs.declared.Command.{Command}
use Rattle.opcodes.specs.declared.Command.TheVariants.{Unknown, TestUnitReady, Rewind, RequestSense, Read, Write, WriteFilemarks, Space, Inquiry}
use Rattle.opcodes.specs.declared.Command.TheVariants.{ModeSelect, ModeSense, LoadUnload, Locate, ReadPosition, PreventAllow}
use Rattle.transfer.specs.declared.Moved.{Moved}
use Rattle.packet_state.specs.declared.state.Outcome.{Outcome}
use Rattle.packet_state.specs.declared.state.State.{State}
use Rattle.packet_state.specs.declared.state.Verdict.{Verdict}
use Rattle.packet_state.specs.declared.state.Verdict.TheVariants.{Refuses, Ends, Works}
use Rattle.packet_state.proofs.RecordLaws.{ruly_of}
use Rattle.packet_parts.specs.declared.requests.Request.{Request}
use Rattle.packet_parts.specs.Answers.{Left, done, left}
use Rattle.packet_parts.specs.Shell.{found_by, carried_out}
use Rattle.stream_parts.specs.Requests.{request_of, space_code, over_filemarks}
use Rattle.stream.specs.Packet.{stream_device, packet_step}
use Rattle.stream.specs.Work.{space_run, space_ends, space_work, work_of}
use Rattle.packet_laws.specs.Words.{number_of, blocks_of, Passes}
use Rattle.packet_laws.proofs.Ways.{step_passed}
use Rattle.stream_laws.specs.Words.{stores_on}
use Rattle.stream_laws.proofs.Leaving.{accepted_leaves}
use Rattle.stream_laws.proofs.Storing.{none_stored}
use Rattle.index.specs.Commands.{is_space, is_work, by_entries}
use Rattle.index.specs.Entries.{fresh_index, is_fresh}
use Rattle.index.specs.Keeping.{Beside, indexed, afresh}
use Rattle.index.specs.Rewriting.{rewritten}
use Rattle.index.specs.Spacing.{BelowFirst, entries_below, run_by_entries}
use Rattle.index.proofs.FreshLaws.{fresh_parted, below_are, below_first}
use Rattle.index.proofs.MarkLaws.{marks_few}
use Rattle.index.proofs.RewriteLaws.{rewritten_fresh}
use Rattle.index.proofs.SpaceLaws.{run_is}

-- an index that is fresh is the fresh one
pub fresh_stays : (s index : List ℕ) → is_fresh s index ≡ true → fresh_index s index ≡ index
unfolding is_fresh
fresh_stays s index e = sym (same_of index (fresh_index s index) e)

works_of : (v : Verdict) → is_work v ≡ true → v ≡ Works
works_of (Refuses n) e = absurd (false≢true e)
works_of (Ends x) e = absurd (false≢true e)
works_of Works e = refl

space_of : (c : Command) → is_space c ≡ true → c ≡ Space
space_of Space e = refl
space_of Unknown e = absurd (false≢true e)
space_of TestUnitReady e = absurd (false≢true e)
space_of Rewind e = absurd (false≢true e)
space_of RequestSense e = absurd (false≢true e)
space_of Read e = absurd (false≢true e)
space_of Write e = absurd (false≢true e)
space_of WriteFilemarks e = absurd (false≢true e)
space_of Inquiry e = absurd (false≢true e)
space_of ModeSelect e = absurd (false≢true e)
space_of ModeSense e = absurd (false≢true e)
space_of LoadUnload e = absurd (false≢true e)
space_of Locate e = absurd (false≢true e)
space_of ReadPosition e = absurd (false≢true e)
space_of PreventAllow e = absurd (false≢true e)

-- the work of a SPACE over filemarks
space_work_lem : (s : List ℕ) (h : Header) (st : State) (q : Request) (buf : List ℕ) → q.command ≡ Space → space_code q ≡ over_filemarks
    → work_of q.command s h st q buf ≡ done (space_ends h st (space_run s h st.position over_filemarks q.count)) s buf
unfolding work_of space_work
space_work_lem s h st q buf e c = rw (e, c) refl

module _ (s : List ℕ) (h : Header) (index : List ℕ) (st : State) (packet buf : List ℕ) (b : Beside s h index st packet) where
  passes : Passes stream_device s st packet buf
  passes = record { twelve = b.twelve; good = keeps_of s h b.header; ruly = rw (fields_are s h b.header) b.ruly }

  pub stands : st.position ≤ h.recorded
  stands = (ruly_of h.recorded st b.ruly).place

  -- nothing was stored: the index stays
  kept_image : (x : Left State) → x ≡ packet_step s st packet buf → x.image ≡ s → indexed x index ≡ afresh index (packet_step s st packet buf)
  kept_image x e i =
      let z : fresh_index (packet_step s st packet buf).image index ≡ index =
      ap (λ (y : Left State). fresh_index y.image index) (sym e) ∙ ap (λ (t : List ℕ). fresh_index t index) i ∙ fresh_stays s index b.fresh in
      ap (λ (y : Left State). indexed y index) e ∙ ap (λ (t : List ℕ). indexed (packet_step s st packet buf) t) (sym z)

  pub by_index : (q : Request) (v : Verdict) (a : Bool) (moved : Moved) (r : Outcome State) → q ≡ request_of packet
      → v ≡ found_by stream_device h st q (length buf) → a ≡ by_entries v q → a ≡ true
      → moved ≡ run_by_entries index h st.position q.count → r ≡ space_ends h st moved
      → indexed (done r s buf) index ≡ afresh index (packet_step s st packet buf)
  unfolding carried_out
  by_index q v a moved r e f g t m o =
      let y = sym g ∙ t in
      let w = works_of v (and_l (is_work v) _ (and_l (is_work v && is_space q.command) (space_code q ≡ᵇ over_filemarks) y)) in
      let k = space_of q.command (and_r (is_work v) (is_space q.command) (and_l (is_work v && is_space q.command) (space_code q ≡ᵇ over_filemarks) y)) in
      let c = eqb-true (space_code q) over_filemarks (and_r (is_work v && is_space q.command) (space_code q ≡ᵇ over_filemarks) y) in
      let n = m ∙ run_is s h st.position index q.count b.header b.fresh stands in
      let p : packet_step s st packet buf ≡ carried_out stream_device v s h st q buf =
      rw (e, f, e) (rw (fields_are s h b.header) at (step_passed stream_device s st packet buf passes)) in
      let d : packet_step s st packet buf ≡ done (space_ends h st (space_run s h st.position over_filemarks q.count)) s buf =
      p ∙ rw w (space_work_lem s h st q buf k c) in
      kept_image (done r s buf) (rw (o, n) (sym d)) refl

  -- a refused packet stores nothing
  pub refused : (x : Result (Outcome State) Refusal) (r : Refusal) (s' b' : List ℕ) → x ≡ Err r → left st x s' b' ≡ packet_step s st packet buf
      → indexed (left st (Err r) s' b') index ≡ afresh index (packet_step s st packet buf)
  refused x r s' b' e g =
      let f : left st (Err r) s' b' ≡ packet_step s st packet buf = rw e at g in
      kept_image (left st (Err r) s' b') f
      (ap (λ (x : Left State). x.image) f ∙ none_stored s st packet buf (sym (ap (λ (x : Left State). blocks_of x) f)))

  -- what halving needs
  pub first_at : (p : ℕ) → p ≤ h.recorded → BelowFirst index p h.capacity
  first_at p l = below_first _ _ _ _ _ _ _ _ (fresh_parted s h p index b.header b.fresh l)

  pub first_here : BelowFirst index st.position h.capacity
  first_here = first_at st.position stands

  pub first_end : BelowFirst index h.recorded h.capacity
  first_end = first_at h.recorded (le_refl h.recorded)

  pub few_here : entries_below index st.position h.capacity ≤ st.position
  few_here =
      let e = below_are _ _ _ _ _ _ _ _ (fresh_parted s h st.position index b.header b.fresh stands) in
      let f = marks_few s h.kinds st.position 0 in
      omega arith

  pub run_fits : (n : ℕ) → n < 2 ^ 24 → (st.position ≤ h.recorded) × (h.recorded ≤ h.capacity) × (h.capacity ≤ 65535) × (n < 2 ^ 24)
  run_fits n l = let g = sound s h b.header in omega (arith, stands)

  pub warning_fits : h.warning ≤ h.capacity
  warning_fits = (sound s h b.header).warning_within

  module _ (q : Request) (a : Bool) (x : Result (Outcome State) Refusal) (r : Outcome State) (s' b' : List ℕ) (e : q ≡ request_of packet)
      (o : x ≡ Ok r) (k : left st x s' b' ≡ packet_step s st packet buf) (g : a ≡ stores_on q.command) where
    went : done r s' b' ≡ packet_step s st packet buf
    went = rw o at k

    -- a packet that counts none, or whose command does not store, leaves the image
    pub not_stored : (a && leb 1 r.answer.blocks) ≡ false → indexed (done r s' b') index ≡ afresh index (packet_step s st packet buf)
    not_stored t = kept_image (done r s' b') went (ap (λ (y : Left State). y.image) went ∙ by a (sym g) t)
      where
        left_is : Left State
        left_is = packet_step s st packet buf

        by : (c : Bool) → stores_on q.command ≡ c → (c && leb 1 r.answer.blocks) ≡ false → left_is.image ≡ s
        by false u v =
            (accepted_leaves s st packet buf (ap (λ (y : Left State). number_of y) (sym went))).no_store (rw (← e) u)
        by true u v =
            none_stored s st packet buf
            (omega (arith, leb-false 1 r.answer.blocks v, ap (λ (y : Left State). blocks_of y) went))

    module _ (t : (a && leb 1 r.answer.blocks) ≡ true) where
      -- a store
      record Stored : Type 0 where
        header : header_of s' ≡ Some (with_recorded h r.state.position)
        reached : st.position ≤ r.state.position
        index-left : rewritten s' h st.position r.state.position index ≡ fresh_index s' index
        size : length s' ≡ length s

      stored : Stored
      stored =
          let x = packet_step s st packet buf in
          let d : stores_on (request_of packet).command ≡ true = rw (← e) (sym g ∙ and_l a (leb 1 r.answer.blocks) t) in
          let n : 1 ≤ blocks_of x =
          omega (arith, leb-true 1 r.answer.blocks (and_r a (leb 1 r.answer.blocks) t), ap (λ (y : Left State). blocks_of y) went) in
          let z : number_of x ≡ 0 = ap (λ (y : Left State). number_of y) (sym went) in
          let w = accepted_leaves s st packet buf z in
          let u = w.new_u d n ∙ sym (ap (λ (y : Left State). y.state.position) went) in
          let i = ap (λ (y : Left State). y.image) went in
          let l : header_of s' ≡ Some (with_recorded h r.state.position) =
          ap header_of i ∙ w.header ∙ ap (λ (k : Header). Some (with_recorded k w.u)) (fields_are s h b.header) ∙ ap (λ (k : ℕ). Some (with_recorded h k)) u in
          let m : st.position ≤ r.state.position = omega (arith, w.reached, u) in
          record {
            header = l;
            reached = m;
            index-left =
                rewritten_fresh s s' h st.position r.state.position index b.header l b.fresh stands m
                (λ j k. ap (λ (y : List ℕ). kind_at y h.kinds j) i ∙ rw (fields_are s h b.header) at (w.below j k).kind);
            size = ap (λ (y : List ℕ). length y) i ∙ w.image_length;
          }

      pub rewrite_fits : (st.position ≤ r.state.position) × (r.state.position ≤ h.capacity) × (h.capacity ≤ 65535) × (h.kinds + h.capacity ≤ length s')
      rewrite_fits =
          let g = sound s h b.header in
          let w = sound s' _ stored.header in
          omega (arith, stored.reached, stored.size, w.recorded_within, g.blocks_after, g.all_within)

      pub rewrote : (index' : List ℕ) → index' ≡ rewritten s' h st.position r.state.position index
          → indexed (done r s' b') index' ≡ afresh index (packet_step s st packet buf)
      rewrote index' f =
          ap (λ (t : List ℕ). indexed (done r s' b') t) (f ∙ stored.index-left) ∙ ap (λ (y : Left State). afresh index y) went

pub ruleset keep_ways = (by_index, refused, few_here, run_fits, warning_fits, not_stored, rewrite_fits)
