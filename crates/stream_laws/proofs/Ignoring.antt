-- Images that are alike below U are answered alike, and stay alike.
-- Assumes nothing.
use Rattle.std.specs.Prelude.{Some, if◌then◌else◌}
use Prim.Native.Nat.{ℕ, ◌-◌, ◌≤◌, ◌<◌}
use native.Mathlib.Omega.{arith}
use mathlib.Core.Bool.{Bool, true, false, not}
use mathlib.Core.List.{List}
use mathlib.Core.Logic.{inl, ⊎_elim}
use mathlib.Core.Path.{◌≡◌, refl, sym, ap, ◌∙◌}
use lib.Dec.{eqb}
use lib.ListN.{length}
use Rattle.numbers.proofs.Cases.{test}
use Rattle.image.specs.declared.header.Header.{Header}
use Rattle.image.specs.Elements.{holds_data, record_to}
use Rattle.image.specs.Header.{fields_of, header_of, keeps_header_rules, broken_image}
use Rattle.image.proofs.HeaderLaws.{fields_are, keeps_of, broken_of, good_header, broken_header, sound}
use Rattle.image.specs.Sameness.{ReadsSame}
use Rattle.image.proofs.StoreLaws.{mark_laid, after_either, record_header, record_kind, record_bytes_lem}
use Rattle.opcodes.specs.declared.Command.{Command}
use Rattle.opcodes.specs.declared.Command.TheVariants.{Unknown, TestUnitReady, Rewind, RequestSense, Read, Write, WriteFilemarks, Space, Inquiry}
use Rattle.opcodes.specs.declared.Command.TheVariants.{ModeSelect, ModeSense, LoadUnload, Locate, ReadPosition, PreventAllow}
use Rattle.transfer.proofs.LaidLaws.{block_of_lem}
use Rattle.transfer.proofs.SameLaws.{Same, of_alike, LaidSame, laid_same, mark_same, block_same, read_same, blocks_on_same, blocks_back_same}
use Rattle.transfer.proofs.SameLaws.{marks_on_same, marks_back_same, marked_same}
use Rattle.transfer.proofs.ReadLaws.{read-few}
use Rattle.transfer.specs.Reading.{read_from}
use Rattle.transfer.specs.Writing.{Writing}
use Rattle.packet_state.specs.Answers.{Answer}
use Rattle.packet_state.specs.declared.state.State.{State}
use Rattle.packet_state.specs.declared.state.Verdict.{Verdict}
use Rattle.packet_parts.specs.declared.requests.Request.{Request}
use Rattle.packet_parts.specs.Answers.{Left, not_twelve_bytes, unruly_record}
use Rattle.stream_parts.specs.Checks.{asked_by}
use Rattle.stream_parts.specs.Requests.{request_of, magnitude, space_code}
use Rattle.packet_state.specs.States.{keeps_record_rules}
use Rattle.packet_state.proofs.RecordLaws.{ruly_of}
use Rattle.packet_parts.specs.Requests.{packet_length}
use Rattle.packet_parts.specs.Shell.{refuses, carried_out, decided, answers_to}
use Rattle.packet_parts.specs.Verdicts.{is_protected}
use Rattle.packet_parts.proofs.VerdictLaws.{Found, found_early, found-short, found-clear, found}
use Rattle.stream.specs.Packet.{stream_device, packet_step}
use Rattle.stream.specs.Work.{work_of, read_work, read_ends, space_run, space_work, write_work, mark_work, write_ends}
use Rattle.stream_laws.specs.Words.{AlikeBelowU}
use Rattle.stream_laws.specs.Demands.{BeyondIgnored}

-- ---- runs, and U recorded after them

module _ (h : Header) where
  recorded_same : (p place : ℕ) (s t : List ℕ) → Same h h.recorded place s t → place ≤ h.capacity → AlikeBelowU (record_to s p place) (record_to t p place)
  recorded_same p place s t a l =
      let g = sound s h a.left in
      let e = record_header s h a.left p place l in
      record {
        header = record_header t h a.right p place l ∙ sym e;
        elements = rw (fields_are _ _ e) (λ i m.
            let o = after_either h.recorded p place i m in
            let c : i < h.capacity = ⊎_elim (λ k. omega arith) (λ k. omega arith) o in
            let r = a.elements i o in
            let k = record_kind s h a.left p place l i in
            record {
              kind = record_kind t h a.right p place l i ∙ r.kind ∙ sym k;
              bytes = λ d. record_bytes_lem t h a.right p place l i c ∙ r.bytes (sym (ap holds_data k) ∙ d) ∙ sym (record_bytes_lem s h a.left p place l i c);
            });
      }

-- ---- the whole packet

record AnsweredSame (x y : Left State) : Type 0 where
  answer : y.answer ≡ x.answer
  state : y.state ≡ x.state
  buf : y.buf ≡ x.buf
  images : AlikeBelowU x.image y.image

module _ (s t : List ℕ) (alike : AlikeBelowU s t) (st : State) where
  looked : (answer : Answer) (next : State) (buf : List ℕ)
      → AnsweredSame (record { answer = answer; state = next; image = s; buf = buf }) (record { answer = answer; state = next; image = t; buf = buf })
  looked answer next buf = record { answer = refl; state = refl; buf = refl; images = alike }

  module _ (h : Header) (good : header_of s ≡ Some h) (rules : keeps_record_rules h.recorded st ≡ true) (q : Request) (buf : List ℕ) where
    within : st.position ≤ h.recorded
    within = (ruly_of h.recorded st rules).place

    inside : st.position ≤ h.capacity
    inside =
        let g = sound s h good in
        let w = within in
        omega arith

    full : h.recorded ≤ h.capacity
    full = (sound s h good).recorded_within

    same : Same h h.recorded st.position s t
    same = of_alike h h.recorded st.position s t good within (rw (fields_are s h good) at alike)

    below : (i : ℕ) → i < h.recorded → ReadsSame h s t i
    below i l = same.elements i (inl l)

    wrote : (size : ℕ) (X Y : Writing) → LaidSame h h.recorded X Y
        → AnsweredSame (write_ends h st q.count size buf X) (write_ends h st q.count size buf Y)
    unfolding write_ends
    wrote size X Y a =
        let i = recorded_same h st.position X.moved.place X.image Y.image a.images a.reached in
        record { answer = rw a.moved; state = rw a.moved; buf = refl; images = rw a.moved i }

    space-same : (code n : ℕ) → space_run t h st.position code n ≡ space_run s h st.position code n
    unfolding space_run
    space-same code n =
        rw (
          blocks_back_same h h.recorded s t below st.position (magnitude n) within,
          blocks_on_same h h.recorded s t below (magnitude n) st.position,
          marks_back_same h h.recorded s t below st.position (magnitude n) within,
          marks_on_same h h.recorded s t below (h.recorded - st.position) (magnitude n) st.position (omega (arith, within)),
        )

    work-same : (c : Command) → (asked_by c h q).needed ≤ length buf → AnsweredSame (work_of c s h st q buf) (work_of c t h st q buf)
    unfolding work_of asked_by read_work read_ends space_work write_work mark_work
    work-same Unknown l = looked _ _ _
    work-same TestUnitReady l = looked _ _ _
    work-same Rewind l = looked _ _ _
    work-same RequestSense l = looked _ _ _
    work-same Read l =
        let X = read_from s h.size h.kinds h.blocks h.recorded q.count 0 st.position buf in
        let few = read-few s h.size h.kinds h.blocks h.recorded q.count 0 st.position buf within in
        rw (
          read_same h h.recorded s t below q.count 0 st.position buf,
          marked_same h h.recorded s t below (q.count - X.moved.left) st.position few,
        ) (looked _ _ _)
    work-same Write l =
        let here = block_same h h.recorded full buf in
        wrote h.size _ _
        (laid_same h h.recorded full _ h.size (length buf) (block_of_lem h buf) here q.count 0 st.position s t same inside (omega arith))
    work-same WriteFilemarks l =
        let here = mark_same h h.recorded full in
        wrote 0 _ _
        (laid_same h h.recorded full _ 0 0 (λ off p s g c r. mark_laid s h g p c) here q.count 0 st.position s t same inside (omega arith))
    work-same Space l = rw (space-same (space_code q) q.count) (looked _ _ _)
    work-same Inquiry l = looked _ _ _
    work-same ModeSelect l = looked _ _ _
    work-same ModeSense l = looked _ _ _
    work-same LoadUnload l = looked _ _ _
    work-same Locate l = looked _ _ _
    work-same ReadPosition l = looked _ _ _
    work-same PreventAllow l = looked _ _ _

    verdict-same : {v : Verdict} → Found (asked_by q.command h q) (is_protected h) st (length buf) v
        → AnsweredSame (carried_out stream_device v s h st q buf) (carried_out stream_device v t h st q buf)
    unfolding carried_out
    verdict-same (found_early x e k) = looked _ _ _
    verdict-same (found-short e l) = looked _ _ _
    verdict-same (found-clear e l) = work-same q.command l

  same_fields : keeps_header_rules s ≡ true → fields_of t ≡ fields_of s
  same_fields e = fields_are t (fields_of s) (alike.header ∙ good_header s e)

  same_rules : keeps_header_rules t ≡ keeps_header_rules s
  same_rules =
      test (keeps_header_rules s) (λ e. keeps_of t (fields_of s) (alike.header ∙ good_header s e) ∙ sym e)
      (λ e. broken_of t (alike.header ∙ broken_header s e) ∙ sym e)

  -- the order of the checks, over the image i with the header h
  abbrev after : List ℕ → List ℕ → List ℕ → Header → Bool → Bool → Bool → Left State
  after packet buf i h a b c =
      if not a then refuses st not_twelve_bytes i buf else
      if not b then refuses st broken_image i buf else
      if not c then refuses st unruly_record i buf else
      decided stream_device i h st (request_of packet) buf

  packet_same : (packet buf : List ℕ) → AnsweredSame (packet_step s st packet buf) (packet_step t st packet buf)
  unfolding answers_to decided
  packet_same packet buf = rw same_rules (by (eqb (length packet) packet_length) (keeps_header_rules s) refl)
    where
      by_rules : (c : Bool) → keeps_header_rules s ≡ true → keeps_record_rules (fields_of s).recorded st ≡ c
          → AnsweredSame (after packet buf s (fields_of s) true true c) (after packet buf t (fields_of s) true true c)
      by_rules true g r = verdict-same (fields_of s) (good_header s g) r (request_of packet) buf (found _ _ _ _)
      by_rules false g r = looked _ _ _

      by : (a b : Bool) → keeps_header_rules s ≡ b
          → AnsweredSame (after packet buf s (fields_of s) a b (keeps_record_rules (fields_of s).recorded st))
          (after packet buf t (fields_of t) a b (keeps_record_rules (fields_of t).recorded st))
      by false b e = looked _ _ _
      by true false e = looked _ _ _
      by true true e = rw (same_fields e) (by_rules (keeps_record_rules (fields_of s).recorded st) e refl)

pub beyond_ignored : BeyondIgnored
beyond_ignored =
    record {
      answer = λ s t st packet buf a. (packet_same s t a st packet buf).answer;
      state = λ s t st packet buf a. (packet_same s t a st packet buf).state;
      given = λ s t st packet buf a. (packet_same s t a st packet buf).buf;
      left = λ s t st packet buf a. (packet_same s t a st packet buf).images;
    }
