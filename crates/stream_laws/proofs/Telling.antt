-- What READ, WRITE and WRITE FILEMARK tell: why they stopped, where the drive then stands, how many bytes were moved.
-- Assumes nothing.
use Rattle.std.specs.Prelude.{if◌then◌else◌}
use Prim.Native.Nat.{ℕ, ◌+◌, ◌-◌, ◌≤◌}
use native.Mathlib.Omega.{arith}
use mathlib.Core.Bool.{Bool, true, false, ◌&&◌}
use mathlib.Core.List.{List}
use mathlib.Core.Path.{◌≡◌, refl}
use borrow.Author.Tests.{le-leb, leb-true, leb-false, ltb-true, ltb-false}
use lib.Dec.{leb, ltb}
use Rattle.image.specs.declared.header.Header.{Header}
use Rattle.image.specs.Header.{fields_of}
use Rattle.image.proofs.HeaderLaws.{good_header, sound}
use Rattle.opcodes.specs.declared.Command.{Command}
use Rattle.opcodes.specs.declared.Command.TheVariants.{Read, Write, WriteFilemarks}
use Rattle.transfer.specs.declared.Moved.{Moved}
use Rattle.transfer.specs.Writing.{block_of, mark_of}
use Rattle.transfer.proofs.ReadLaws.{read_run}
use Rattle.transfer.proofs.WriteLaws.{lay_run}
use Rattle.transfer.proofs.StopLaws.{ReadStops, read-stops, LayStops, lay-stops}
use Rattle.packet_state.specs.Answers.{Good, Check}
use Rattle.packet_state.specs.declared.state.Sense.{Sense}
use Rattle.packet_state.specs.declared.state.State.{State}
use Rattle.packet_state.specs.Senses.{early_warning}
use Rattle.packet_state.specs.States.{at_place, with_sense}
use Rattle.packet_state.proofs.RecordLaws.{ruly_of}
use Rattle.packet_parts.specs.declared.requests.Request.{Request}
use Rattle.packet_laws.proofs.Endings.{sense_of, status_for, ends_is}
use Rattle.packet_laws.proofs.Refusals.{begins-passes, begins-work}
use Rattle.stream_parts.specs.Requests.{request_of}
use Rattle.stream.specs.Packet.{stream_device}
use Rattle.stream.specs.Work.{ending_of, read_ends, read_work, write_ending, write_ends, write_work, mark_work, work_of}
use Rattle.stream_laws.specs.Words.{Moves, by_read, by_write, by_filemarks, passed_beside}
use Rattle.stream_laws.specs.Words.{ReadWay, all_copied, met_filemark, met_bad_block, met_end, ReadEnds}
use Rattle.stream_laws.specs.Words.{WriteWay, all_stored, beyond_warning, met_capacity, WriteEnds}
use Rattle.stream_laws.specs.Demands.{ReadTellsWhy, WriteTellsWhy, ReadStands, WriteStands, BytesAreBlocks, RecordKept}
use Rattle.stream_laws.proofs.Working.{step_is, by_store}

-- ---- the way of each run

read_way : (s : List ℕ) (p n : ℕ) (m : Moved) → ReadStops s (fields_of s).kinds (fields_of s).recorded p n m
    → ReadWay s p n (n - m.left) (status_for (ending_of (fields_of s) m.stop m.left)) (sense_of (ending_of (fields_of s) m.stop m.left)) m.place
unfolding ending_of
read_way s p n m (ReadStops.all_copied f z w) =
    let v : n - m.left ≡ n = omega arith in
    rw (v, f, w) (all_copied refl)
read_way s p n m (ReadStops.at-filemark k f l e w b t) =
    let v : n - m.left ≡ k = omega arith in
    let u : m.left ≡ n - k = omega arith in
    rw (v, f, u, w) (met_filemark (omega arith) (b, t))
read_way s p n m (ReadStops.at-bad-block k f l e w b t) =
    let v : n - m.left ≡ k = omega arith in
    let u : m.left ≡ n - k = omega arith in
    rw (v, f, u, w) (met_bad_block (omega arith) (b, t))
read_way s p n m (ReadStops.at-end k f l e w b) =
    let v : n - m.left ≡ k = omega arith in
    let u : m.left ≡ n - k = omega arith in
    rw (v, f, u, w) (met_end (omega arith) b)

-- all were stored
stored_way : (h : Header) (p n : ℕ) (a b : Bool) → p + n ≤ h.capacity → leb 1 n ≡ a → ltb (h.capacity - h.warning) (p + n) ≡ b
    → WriteWay h p n n (status_for (if a && b then Check early_warning else Good)) (sense_of (if a && b then Check early_warning else Good)) (p + n)
stored_way h p n true true g e f = beyond_warning refl (leb-true 1 n e) (ltb-true _ _ f) g
stored_way h p n true false g e f = all_stored refl (λ l. ltb-false _ _ f)
stored_way h p n false b g e f = all_stored refl (λ l. absurd (omega (arith, leb-false 1 n e)))

write_way : (h : Header) (p n : ℕ) (m : Moved) → LayStops h.capacity p n m
    → WriteWay h p n (n - m.left) (status_for (write_ending h n m)) (sense_of (write_ending h n m)) m.place
unfolding write_ending
write_way h p n m (LayStops.all_laid z w b) =
    let v : n - m.left ≡ n = omega arith in
    rw (v, z, w) (stored_way h p n (leb 1 n) (ltb (h.capacity - h.warning) (p + n)) b refl refl)
write_way h p n m (LayStops.at-end k l e w b) =
    let v : n - m.left ≡ k = omega arith in
    let u : m.left ≡ n - k = omega arith in
    rw (v, le-leb 1 m.left l, u, w) (met_capacity (omega arith) b)

-- ---- the work

module _ (s : List ℕ) (st : State) (q : Request) (buf : List ℕ) where
  abbrev h : Header
  h = fields_of s

  read_told : st.position ≤ h.recorded → ReadEnds s st.position q.count (read_work s h st q.count buf)
  unfolding read_work read_ends
  read_told l =
      let run = read_run s h.size h.kinds h.blocks h.recorded q.count 0 st.position buf in
      rw ends_is (read_way s st.position q.count _ (read-stops s h.kinds h.recorded h.size h.blocks run l))

  write_told : st.position ≤ h.capacity → WriteEnds s st.position q.count (work_of Write s h st q buf)
  unfolding work_of write_work write_ends
  write_told l =
      let run = lay_run (block_of h.size h.kinds h.blocks buf) h.size h.capacity q.count 0 st.position s in
      rw ends_is (write_way h st.position q.count _ (lay-stops h.capacity _ _ run l))

  marks_told : st.position ≤ h.capacity → WriteEnds s st.position q.count (work_of WriteFilemarks s h st q buf)
  unfolding work_of mark_work write_ends
  marks_told l =
      let run = lay_run (mark_of h.kinds) 0 h.capacity q.count 0 st.position s in
      rw ends_is (write_way h st.position q.count _ (lay-stops h.capacity _ _ run l))

pub read_tells_why : ReadTellsWhy
unfolding work_of
read_tells_why s st packet buf b c =
    let p = begins-passes stream_device s st packet buf b in
    rw (step_is s st packet buf b Read c) (read_told s st (request_of packet) buf (ruly_of _ _ p.ruly).place)

pub write_tells_why : WriteTellsWhy
write_tells_why s st packet buf b c =
    let p = begins-passes stream_device s st packet buf b in
    let r = (ruly_of _ _ p.ruly).place in
    let g = sound s (fields_of s) (good_header s p.good) in
    let l : st.position ≤ (fields_of s).capacity = omega arith in
    let q = request_of packet in
    let Told : Command → Type 0 = λ x. WriteEnds s st.position q.count (work_of x s (fields_of s) st q buf) in
    rw (begins-work stream_device s st packet buf b) (by_store Told (write_told s st q buf l) (marks_told s st q buf l) q.command c)

-- ---- where the drive stands

read_stood : {s : List ℕ} {p n k status place : ℕ} {sense : Sense} → ReadWay s p n k status sense place → place ≡ p + k + passed_beside sense
read_stood (all_copied e) = omega arith
read_stood (met_filemark l e) = refl
read_stood (met_bad_block l e) = refl
read_stood (met_end l e) = omega arith

pub write_stood : {h : Header} {p n k status place : ℕ} {sense : Sense} → WriteWay h p n k status sense place → place ≡ p + k
write_stood (all_stored e l) = refl
write_stood (beyond_warning e l w b) = refl
write_stood (met_capacity l e) = refl

pub read_stands : ReadStands
read_stands s st packet buf b c = read_stood (read_tells_why s st packet buf b c)

pub write_stands : WriteStands
write_stands s st packet buf b c = write_stood (write_tells_why s st packet buf b c)

-- ---- how many bytes were moved

pub bytes_are_blocks : BytesAreBlocks
unfolding work_of read_work read_ends write_work write_ends mark_work
bytes_are_blocks =
    record {
      read = λ s st packet buf b c. rw (step_is s st packet buf b Read c, ends_is);
      write = λ s st packet buf b c. rw (step_is s st packet buf b Write c, ends_is);
      filemarks = λ s st packet buf b c. rw (step_is s st packet buf b WriteFilemarks c, ends_is) (omega arith);
    }

-- ---- what of the record is kept

kept_by : (s : List ℕ) (st : State) (q : Request) (buf : List ℕ) {c : Command} → Moves c
    → (work_of c s (fields_of s) st q buf).state
    ≡ with_sense (at_place st (work_of c s (fields_of s) st q buf).state.position) (work_of c s (fields_of s) st q buf).state.sense
unfolding work_of read_work read_ends write_work write_ends mark_work
kept_by s st q buf by_read = rw ends_is
kept_by s st q buf by_write = rw ends_is
kept_by s st q buf by_filemarks = rw ends_is

pub record_kept : RecordKept
record_kept s st packet buf b m = rw (begins-work stream_device s st packet buf b) (kept_by s st (request_of packet) buf m)
