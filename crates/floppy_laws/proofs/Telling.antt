-- What READ and WRITE tell: why they stopped, how many were moved and how many not.
-- Assumes nothing.
use Prim.Native.Nat.{ℕ, ◌+◌, ◌-◌, ◌<◌}
use native.Mathlib.Omega.{arith}
use mathlib.Core.List.{List}
use mathlib.Core.Path.{◌≡◌, refl, ap}
use borrow.Author.Tests.{le-leb}
use Rattle.image.specs.Elements.{holds_data}
use Rattle.image.specs.Header.{fields_of}
use Rattle.opcodes.specs.declared.Command.TheVariants.{Read, Write}
use Rattle.transfer.specs.declared.Moved.{Moved}
use Rattle.transfer.specs.Writing.{block_of}
use Rattle.transfer.proofs.ReadLaws.{read_run}
use Rattle.transfer.proofs.WriteLaws.{lay_run}
use Rattle.transfer.proofs.StopLaws.{ReadStops, read-stops, LayStops, lay-stops}
use Rattle.packet_state.specs.declared.state.Sense.{Sense}
use Rattle.packet_laws.specs.Words.{residue_of}
use Rattle.packet_laws.proofs.Endings.{sense_of, status_for, ends_is}
use Rattle.packet_laws.proofs.Refusals.{begins-passes}
use Rattle.floppy_parts.specs.declared.tape.Floppy.{Floppy}
use Rattle.floppy_parts.specs.Requests.{floppy_request, blocks_asked}
use Rattle.floppy_parts.specs.Settings.{tape_after}
use Rattle.floppy_parts.proofs.RuledLaws.{ruled_of}
use Rattle.floppy.specs.Packet.{floppy_device}
use Rattle.floppy.specs.Work.{read_ending, read_ends, read_work, write_ending, write_ends, write_work, work_of}
use Rattle.floppy_laws.specs.Words.{place_of, end_of, Unreadable}
use Rattle.floppy_laws.specs.Words.{ReadWay, all_copied, met_bad_block, WriteWay, all_stored}
use Rattle.floppy_laws.specs.Demands.{ReadTellsWhy, WriteTellsWhy, MovedPlusResidue, BytesAreBlocks, RecordKept}
use Rattle.floppy_laws.proofs.Working.{step_is}

-- ---- the way of each run

module _ (s : List ℕ) (f : Floppy) (p n : ℕ) (m : Moved) where
  read_way : ReadStops s (fields_of s).kinds (end_of f) p n m
      → ReadWay s f p n (n - m.left) (status_for (read_ending m.stop m.left)) (sense_of (read_ending m.stop m.left)) m.place
  unfolding read_ending
  read_way (ReadStops.all_copied e z w) =
      let v : n - m.left ≡ n = omega arith in
      rw (v, e, w) (all_copied refl)
  read_way (ReadStops.at-filemark k e l a w b t) =
      let v : n - m.left ≡ k = omega arith in
      let u : m.left ≡ n - k = omega arith in
      rw (v, e, u, w) (met_bad_block (omega arith) (b, ap holds_data t))
  read_way (ReadStops.at-bad-block k e l a w b t) =
      let v : n - m.left ≡ k = omega arith in
      let u : m.left ≡ n - k = omega arith in
      rw (v, e, u, w) (met_bad_block (omega arith) (b, ap holds_data t))
  read_way (ReadStops.at-end k e l a w b) =
      let v : n - m.left ≡ k = omega arith in
      let u : m.left ≡ n - k = omega arith in
      rw (v, e, u, w) (ReadWay.met_end (omega arith) b)

  write_way : LayStops (end_of f) p n m
      → WriteWay f p n (n - m.left) (status_for (write_ending m.left)) (sense_of (write_ending m.left)) m.place
  unfolding write_ending
  write_way (LayStops.all_laid z w b) =
      let v : n - m.left ≡ n = omega arith in
      rw (v, z, w) (all_stored refl b)
  write_way (LayStops.at-end k l a w b) =
      let v : n - m.left ≡ k = omega arith in
      let u : m.left ≡ n - k = omega arith in
      rw (v, le-leb 1 m.left l, u, w) (WriteWay.met_end (omega arith) b)

pub read_tells_why : ReadTellsWhy
unfolding work_of tape_after read_work read_ends
read_tells_why s f packet buf b c =
    let h = fields_of s in
    let r = ruled_of h f (begins-passes floppy_device s f packet buf b).ruly in
    let run = read_run s h.size h.kinds h.blocks (end_of f) (blocks_asked (floppy_request packet)) 0 (place_of f) buf in
    rw (step_is s f packet buf b Read c, ends_is)
    (read_way s f (place_of f) (blocks_asked (floppy_request packet)) _ (read-stops s h.kinds (end_of f) h.size h.blocks run r.place))

pub write_tells_why : WriteTellsWhy
unfolding work_of tape_after write_work write_ends
write_tells_why s f packet buf b c =
    let h = fields_of s in
    let r = ruled_of h f (begins-passes floppy_device s f packet buf b).ruly in
    let run = lay_run (block_of h.size h.kinds h.blocks buf) h.size (end_of f) (blocks_asked (floppy_request packet)) 0 (place_of f) s in
    rw (step_is s f packet buf b Write c, ends_is)
    (write_way s f (place_of f) (blocks_asked (floppy_request packet)) _ (lay-stops (end_of f) _ _ run r.place))

-- ---- moved and residue

read_sum : {s : List ℕ} {f : Floppy} {p n k status place : ℕ} {sense : Sense} → ReadWay s f p n k status sense place
    → (k < n → Unreadable s f (p + k) → ⊥) → k + residue_of sense ≡ n
read_sum (all_copied e) u = omega arith
read_sum (met_bad_block l x) u = absurd (u l x)
read_sum (ReadWay.met_end l e) u = omega arith

read_short : {s : List ℕ} {f : Floppy} {p n k status place : ℕ} {sense : Sense} → ReadWay s f p n k status sense place
    → k < n → Unreadable s f (p + k) → k + residue_of sense + 1 ≡ n
read_short (all_copied e) l x = absurd (omega arith)
read_short (met_bad_block m y) l x = omega arith
read_short (ReadWay.met_end m e) l x = absurd (omega (arith, x.0))

write_sum : {f : Floppy} {p n k status place : ℕ} {sense : Sense} → WriteWay f p n k status sense place → k + residue_of sense ≡ n
write_sum (all_stored e b) = omega arith
write_sum (WriteWay.met_end l e) = omega arith

pub moved_plus_residue : MovedPlusResidue
moved_plus_residue =
    record {
      write = λ s f packet buf b c. write_sum (write_tells_why s f packet buf b c);
      read = λ s f packet buf b c x. read_sum (read_tells_why s f packet buf b c) (λ l u. x (record { short = l; bad = u }));
      read_short = λ s f packet buf b c x. read_short (read_tells_why s f packet buf b c) x.short x.bad;
    }

-- ---- how many bytes were moved

pub bytes_are_blocks : BytesAreBlocks
unfolding work_of tape_after read_work read_ends write_work write_ends
bytes_are_blocks =
    record {
      read = λ s f packet buf b c. rw (step_is s f packet buf b Read c, ends_is);
      write = λ s f packet buf b c. rw (step_is s f packet buf b Write c, ends_is);
    }

-- ---- what of the record is kept

pub record_kept : RecordKept
unfolding work_of tape_after read_work read_ends write_work write_ends
record_kept =
    record {
      read = λ s f packet buf b c. rw (step_is s f packet buf b Read c, ends_is);
      write = λ s f packet buf b c. rw (step_is s f packet buf b Write c, ends_is);
    }
