-- A written block reads back the same until something is stored at or before its place, and so does a marked one.
-- Assumes nothing.
use Prim.Native.Nat.{ℕ, suc, ◌+◌, ◌*◌, ◌-◌, ◌≤◌, ◌<◌}
use native.Mathlib.Omega.{arith}
use mathlib.Core.List.{List}
use mathlib.Core.Path.{◌≡◌, sym, ap, ◌∙◌}
use borrow.Author.Tests.{leb-true, leb-false, eqb-true, eqb-false}
use lib.Dec.{leb, eqb}
use lib.ListN.{length}
use Rattle.numbers.specs.Over.{part}
use Rattle.numbers.proofs.Cases.{test}
use Rattle.image.specs.declared.elements.Kind.{Kind}
use Rattle.image.specs.declared.elements.Kind.TheVariants.{Data}
use Rattle.image.specs.declared.header.Header.{Header}
use Rattle.std.specs.Prelude.{Some}
use Rattle.image.specs.Elements.{block_at}
use Rattle.image.specs.Header.{fields_of, header_of, with_recorded}
use Rattle.image.proofs.HeaderLaws.{fields_are, good_header, block_kept, sound}
use Rattle.opcodes.specs.declared.Command.TheVariants.{Read}
use Rattle.transfer.specs.Reading.{read_from}
use Rattle.transfer.proofs.BlockLaws.{moved_blocks}
use Rattle.transfer.proofs.ReadLaws.{read_left, read_first}
use Rattle.packet_state.specs.declared.state.State.{State}
use Rattle.packet_state.proofs.RecordLaws.{ruly_of}
use Rattle.packet_parts.specs.declared.requests.Request.{Request}
use Rattle.packet_parts.specs.Answers.{Left}
use Rattle.stream_parts.specs.Checks.{asked_by}
use Rattle.stream.specs.Packet.{stream_device, packet_step}
use Rattle.stream_parts.specs.Requests.{request_of}
use Rattle.stream.specs.Work.{work_of, read_work, read_ends}
use Rattle.packet_laws.specs.Words.{number_of, blocks_of}
use Rattle.packet_laws.proofs.Endings.{ends_is}
use Rattle.packet_laws.proofs.Refusals.{begins-passes}
use Rattle.stream_laws.specs.Words.{stores, IsRecorded, IsRecordedAs}
use Rattle.stream_laws.specs.History.{StoresUpTo, Later, at_once, asked, replaced, ReadsBackAs}
use Rattle.stream_laws.specs.Demands.{ReadsBack, ReadGives, ReadMoves}
use Rattle.stream_laws.proofs.Leaving.{accepted_leaves}
use Rattle.stream_laws.proofs.Refusals.{refused_keeps}
use Rattle.stream_laws.proofs.Storing.{blocks_stored}
use Rattle.stream_laws.proofs.Working.{step_is, room_is}

-- ---- one packet

module _ (kind : Kind) (i : ℕ) (bytes : List ℕ) (s : List ℕ) (st : State) (packet buf : List ℕ) (block : IsRecordedAs kind s i bytes)
    (spared : StoresUpTo i s st packet buf → ⊥) where
  abbrev x : Left State
  x = packet_step s st packet buf

  same_image : x.image ≡ s → IsRecordedAs kind x.image i bytes
  same_image e = rw e block

  accepted_block : number_of x ≡ 0 → IsRecordedAs kind x.image i bytes
  accepted_block e =
      let w = accepted_leaves s st packet buf e in
      test (stores packet) (λ p. test (eqb (blocks_of x) 0) (λ q. same_image (w.none_stored (eqb-true _ _ q))) (λ q.
      test (leb st.position i) (λ r.
      let n : blocks_of x ≡ 0 → ⊥ = eqb-false _ _ q in
      let m : st.position ≤ i = leb-true _ _ r in
      absurd (spared (record { a_store = p; some = omega arith; from = omega arith }))) (λ r.
      let l = leb-false _ _ r in
      let k = w.below i l in
      block_kept kind _ _ s x.image (with_recorded (fields_of s) w.u) i bytes block
      w.header (rw (fields_are _ _ w.header) (omega (arith, w.reached))) k.kind k.bytes)))
      (λ p. same_image (w.no_store p))

  still_block : IsRecordedAs kind x.image i bytes
  still_block =
      test (eqb (number_of x) 0) (λ e. accepted_block (eqb-true _ _ e))
      (λ e. same_image (refused_keeps s st packet buf (eqb-false _ _ e)).image_kept)

-- ---- a whole history

later_block : (kind : Kind) (i : ℕ) (bytes : List ℕ) {s : List ℕ} {st : State} {s' : List ℕ} {st' : State} → Later i s st s' st'
    → IsRecordedAs kind s i bytes → IsRecordedAs kind s' i bytes
later_block kind i bytes at_once b = b
later_block kind i bytes (asked packet buf l f) b = still_block kind i bytes _ _ packet buf (later_block kind i bytes l b) f
later_block kind i bytes (replaced st'' l) b = later_block kind i bytes l b

-- ---- what READ copies

module _ (s : List ℕ) (st : State) (q : Request) (buf : List ℕ) (good : header_of s ≡ Some (fields_of s)) (place : st.position ≤ (fields_of s).recorded)
    (room : q.count * (fields_of s).size ≤ length buf) where
  abbrev h : Header
  h = fields_of s

  moves_first : (bytes : List ℕ) → IsRecorded s st.position bytes → 1 ≤ q.count → 1 ≤ blocks_of (read_work s h st q.count buf)
  unfolding read_work read_ends
  moves_first bytes b l =
      let n = q.count in
      let e : n ≡ suc (n - 1) = omega arith in
      let f = read_first s h.size h.kinds h.blocks h.recorded (n - 1) 0 st.position buf b.before b.holds in
      rw ends_is (omega (arith, rw (← e) at f))

  copied_whole : (k : ℕ) → k < blocks_of (read_work s h st q.count buf)
      → IsRecorded s (st.position + k) (part (read_work s h st q.count buf).buf (k * h.size) h.size)
  unfolding read_work read_ends
  copied_whole k l =
      let n = q.count in
      let less = read_left s h.size h.kinds h.blocks h.recorded n 0 st.position buf in
      let m : k + (read_from s h.size h.kinds h.blocks h.recorded n 0 st.position buf).moved.left < n = omega (arith, rw ends_is at l) in
      moved_blocks s h good h.recorded (sound s h good).recorded_within n st.position buf room k m

pub read_gives : ReadGives
unfolding work_of asked_by
read_gives s st packet buf b c =
    let p = begins-passes stream_device s st packet buf b in
    rw (step_is s st packet buf b Read c)
    (copied_whole s st (request_of packet) buf (good_header s p.good) (ruly_of _ _ p.ruly).place (room_is s st packet buf b Read c))

pub read_moves_lem : ReadMoves
unfolding work_of asked_by
read_moves_lem s st packet buf bytes b c =
    let p = begins-passes stream_device s st packet buf b in
    rw (step_is s st packet buf b Read c)
    (moves_first s st (request_of packet) buf (good_header s p.good) (ruly_of _ _ p.ruly).place (room_is s st packet buf b Read c) bytes)

reads_back_as : (kind : Kind) (i : ℕ) (bytes s : List ℕ) (st : State) → IsRecordedAs kind s i bytes → ReadsBackAs kind i bytes s st
reads_back_as kind i bytes s st block s' st' l =
    let w = later_block kind i bytes l block in (
      w,
      λ packet buf b c k m e.
          let r = read_gives s' st' packet buf b c k m in
          sym r.same ∙ ap (λ (i : ℕ). block_at s' (fields_of s').size (fields_of s').blocks i) e ∙ w.0.same,
    )

pub reads_back : ReadsBack
reads_back =
    record {
      written = λ s st packet buf b c j n. reads_back_as Data (st.position + j) _ _ _ (blocks_stored s st packet buf b c j n);
      recorded = reads_back_as;
    }
