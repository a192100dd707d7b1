-- What WRITE counts is what it stored.
-- Assumes nothing.
use Prim.Native.Nat.{ℕ, ◌+◌, ◌*◌, ◌-◌, ◌≤◌, ◌<◌}
use native.Mathlib.Nat.{zero-add}
use native.Mathlib.Omega.{arith}
use mathlib.Core.Bool.{true}
use mathlib.Core.List.{List}
use mathlib.Core.Path.{◌≡◌, refl}
use lib.ListN.{length}
use Rattle.numbers.specs.Over.{part}
use Rattle.image.specs.declared.elements.Kind.TheVariants.{Data}
use Rattle.image.specs.Header.{fields_of}
use Rattle.image.proofs.HeaderLaws.{fields_are, good_header, is_block_of}
use Rattle.opcodes.specs.declared.Command.TheVariants.{Write}
use Rattle.transfer.specs.Writing.{block_of, write_from}
use Rattle.transfer.proofs.LaidLaws.{blocks-laid, blocks-read-back}
use Rattle.transfer.proofs.WriteLaws.{lay_run, lay-left, lay-passed}
use Rattle.packet_laws.specs.Words.{blocks_of}
use Rattle.packet_laws.proofs.Endings.{ends_is}
use Rattle.packet_laws.proofs.Refusals.{begins-passes}
use Rattle.floppy_parts.specs.declared.tape.Floppy.{Floppy}
use Rattle.floppy_parts.specs.Checks.{asked_by}
use Rattle.floppy_parts.specs.Headers.{is_full}
use Rattle.floppy_parts.specs.Requests.{floppy_request, blocks_asked}
use Rattle.floppy_parts.specs.Settings.{tape_after}
use Rattle.floppy_parts.proofs.FullLaws.{full_image}
use Rattle.floppy_parts.proofs.RuledLaws.{Ruled, ruled_of}
use Rattle.floppy.specs.Packet.{floppy_device}
use Rattle.floppy.specs.Work.{write_ends, write_work, work_of}
use Rattle.floppy_laws.specs.Words.{place_of, end_of, IsDataAs}
use Rattle.floppy_laws.specs.Demands.{BlocksStored}
use Rattle.floppy_laws.proofs.Working.{step_is, room_is}

written : (s : List ℕ) (f : Floppy) (n : ℕ) (buf : List ℕ) → is_full s ≡ true → Ruled (fields_of s) f → n * (fields_of s).size ≤ length buf
    → (j : ℕ) → j < blocks_of (write_work s (fields_of s) (end_of f) f.shared n buf)
    → IsDataAs Data (write_work s (fields_of s) (end_of f) f.shared n buf).image (place_of f + j) (part buf (j * (fields_of s).size) (fields_of s).size)
unfolding write_work write_ends
written s f n buf full r room j b =
    let h = fields_of s in
    let p = place_of f in
    let X = write_from h.size h.kinds h.blocks (end_of f) buf n 0 p s in
    let run = lay_run (block_of h.size h.kinds h.blocks buf) h.size (end_of f) n 0 p s in
    let less = lay-left (block_of h.size h.kinds h.blocks buf) h.size (end_of f) n 0 p s in
    let passed = lay-passed (block_of h.size h.kinds h.blocks buf) h.size (end_of f) n 0 p s in
    let good = good_header s (full_image s full).0 in
    let moved : j < n - X.moved.left = rw ends_is at b in
    let w = blocks-laid h (end_of f) r.within buf run good (omega arith) (omega arith) in
    let z = blocks-read-back h (end_of f) r.within buf run good (omega arith) j (omega arith) in
    is_block_of Data refl _ X.image h (p + j) _ w.header (rw (fields_are _ _ w.header) (omega (arith, w.reached))) z.0 (rw zero-add at z.1)

pub blocks_stored : BlocksStored
unfolding work_of asked_by tape_after
blocks_stored s f packet buf b c j n =
    let p = begins-passes floppy_device s f packet buf b in
    let e = step_is s f packet buf b Write c in
    rw e (written s f (blocks_asked (floppy_request packet)) buf p.good (ruled_of _ _ p.ruly) (room_is s f packet buf b Write c) j (rw e at n))
