-- What WRITE and WRITE FILEMARK count is what they stored.
-- Assumes nothing.
use Prim.Native.Nat.{ℕ, ◌+◌, ◌*◌, ◌-◌, ◌≤◌, ◌<◌}
use native.Mathlib.Nat.{le_refl, zero-add}
use native.Mathlib.Omega.{arith}
use mathlib.Core.List.{List}
use mathlib.Core.Path.{◌≡◌, refl, ◌∙◌}
use borrow.Author.Tests.{eqb-true, eqb-false}
use lib.Dec.{eqb}
use lib.ListN.{length}
use Rattle.numbers.specs.Over.{part}
use Rattle.image.specs.declared.elements.Kind.TheVariants.{Data, Filemark}
use Rattle.numbers.proofs.Cases.{test}
use Rattle.image.specs.declared.header.Header.{Header}
use Rattle.std.specs.Prelude.{Some}
use Rattle.image.specs.Elements.{record_to}
use Rattle.image.specs.Header.{fields_of, header_of, with_recorded}
use Rattle.image.proofs.HeaderLaws.{fields_are, good_header, is_block_of, sound}
use Rattle.image.proofs.StoreLaws.{recorded_after, after_reached, record_header, record_kind, record_bytes_lem}
use Rattle.opcodes.specs.declared.Command.TheVariants.{Write, WriteFilemarks}
use Rattle.transfer.specs.Writing.{block_of, write_from, mark_of, mark_from}
use Rattle.transfer.proofs.LaidLaws.{marks_laid, marks_read_back, blocks-laid, blocks-read-back}
use Rattle.transfer.proofs.WriteLaws.{lay_run, lay-left, lay-passed}
use Rattle.packet_state.specs.declared.state.State.{State}
use Rattle.packet_state.proofs.RecordLaws.{ruly_of}
use Rattle.packet_parts.specs.declared.requests.Request.{Request}
use Rattle.stream_parts.specs.Checks.{asked_by}
use Rattle.stream_parts.specs.Requests.{request_of}
use Rattle.stream.specs.Packet.{stream_device, packet_step}
use Rattle.stream.specs.Work.{work_of, write_work, write_ends, mark_work}
use Rattle.packet_laws.specs.Words.{number_of, blocks_of}
use Rattle.packet_laws.proofs.Endings.{ends_is}
use Rattle.packet_laws.proofs.Refusals.{begins-passes}
use Rattle.stream_laws.specs.Words.{IsRecordedAs, IsElement}
use Rattle.stream_laws.specs.Demands.{BlocksStored, MarksStored, NoneStored}
use Rattle.stream_laws.proofs.Leaving.{accepted_leaves}
use Rattle.stream_laws.proofs.Refusals.{refused_keeps}
use Rattle.stream_laws.proofs.Working.{step_is, room_is}

module _ (s : List ℕ) (st : State) (q : Request) (buf : List ℕ) (good : header_of s ≡ Some (fields_of s)) (place : st.position ≤ (fields_of s).recorded) where
  abbrev h : Header
  h = fields_of s

  written : q.count * h.size ≤ length buf → (j : ℕ) → j < blocks_of (write_work s h st q.count buf)
      → IsRecordedAs Data (write_work s h st q.count buf).image (st.position + j) (part buf (j * h.size) h.size)
  unfolding write_work write_ends
  written room j b =
      let n = q.count in
      let X = write_from h.size h.kinds h.blocks h.capacity buf n 0 st.position s in
      let run = lay_run (block_of h.size h.kinds h.blocks buf) h.size h.capacity n 0 st.position s in
      let less = lay-left (block_of h.size h.kinds h.blocks buf) h.size h.capacity n 0 st.position s in
      let passed = lay-passed (block_of h.size h.kinds h.blocks buf) h.size h.capacity n 0 st.position s in
      let moved : j < n - X.moved.left = rw ends_is at b in
      let to = X.moved.place in
      let g = sound s h good in
      let w = blocks-laid h h.capacity (le_refl h.capacity) buf run good (omega arith) (omega arith) in
      let z = blocks-read-back h h.capacity (le_refl h.capacity) buf run good (omega arith) j (omega arith) in
      let c = after_reached h.recorded st.position to (omega arith) in
      let b = w.reached in
      let e = record_header X.image h w.header st.position to b in
      is_block_of Data refl _ (record_to X.image st.position to) (with_recorded h (recorded_after h.recorded st.position to)) (st.position + j) _
      e (rw (fields_are _ _ e) (omega arith))
      (record_kind X.image h w.header st.position to b (st.position + j) ∙ z.0)
      (record_bytes_lem X.image h w.header st.position to b (st.position + j) (omega arith) ∙ rw zero-add at z.1)

  marked : (j : ℕ) → j < blocks_of (mark_work s h st q.count buf) → IsElement (mark_work s h st q.count buf).image (st.position + j) Filemark
  unfolding mark_work write_ends
  marked j b =
      let n = q.count in
      let X = mark_from h.kinds h.capacity n st.position s in
      let run = lay_run (mark_of h.kinds) 0 h.capacity n 0 st.position s in
      let less = lay-left (mark_of h.kinds) 0 h.capacity n 0 st.position s in
      let passed = lay-passed (mark_of h.kinds) 0 h.capacity n 0 st.position s in
      let moved : j < n - X.moved.left = rw ends_is at b in
      let to = X.moved.place in
      let g = sound s h good in
      let w = marks_laid h h.capacity (le_refl h.capacity) run good (omega arith) in
      let z = marks_read_back h h.capacity (le_refl h.capacity) run good j (omega arith) in
      let c = after_reached h.recorded st.position to (omega arith) in
      let b = w.reached in
      let e = record_header X.image h w.header st.position to b in
      rw (fields_are _ _ e) (omega arith, record_kind X.image h w.header st.position to b (st.position + j) ∙ z)

pub blocks_stored : BlocksStored
unfolding work_of asked_by
blocks_stored s st packet buf b c j n =
    let p = begins-passes stream_device s st packet buf b in
    let e = step_is s st packet buf b Write c in
    rw e (written s st (request_of packet) buf (good_header s p.good) (ruly_of _ _ p.ruly).place (room_is s st packet buf b Write c) j (rw e at n))

pub marks_stored : MarksStored
unfolding work_of
marks_stored s st packet buf b c j n =
    let p = begins-passes stream_device s st packet buf b in
    let e = step_is s st packet buf b WriteFilemarks c in
    rw e (marked s st (request_of packet) buf (good_header s p.good) (ruly_of _ _ p.ruly).place j (rw e at n))

pub none_stored : NoneStored
none_stored s st packet buf e =
    test (eqb (number_of (packet_step s st packet buf)) 0) (λ f. (accepted_leaves s st packet buf (eqb-true _ _ f)).none_stored e)
    (λ f. (refused_keeps s st packet buf (eqb-false _ _ f)).image_kept)
