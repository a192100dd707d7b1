-- A written block reads back the same until something is stored at its own place, and so does a marked one.
-- Assumes nothing.
use Prim.Native.Nat.{ℕ, suc, ◌+◌, ◌*◌, ◌-◌, ◌≤◌, ◌<◌}
use native.Mathlib.Omega.{arith}
use mathlib.Core.Bool.{true}
use mathlib.Core.List.{List}
use mathlib.Core.Logic.{inl, inr, ⊎_elim}
use mathlib.Core.Path.{◌≡◌, sym, ap, ◌∙◌}
use borrow.Author.Tests.{leb-true, leb-false, ltb-true, ltb-false, eqb-true, eqb-false}
use lib.Dec.{leb, ltb, eqb}
use lib.ListN.{length}
use Rattle.numbers.specs.Over.{part}
use Rattle.numbers.proofs.Cases.{test}
use Rattle.image.specs.declared.elements.Kind.{Kind}
use Rattle.image.specs.declared.elements.Kind.TheVariants.{Data}
use Rattle.image.specs.declared.header.Header.{Header}
use Rattle.image.specs.Elements.{block_at}
use Rattle.image.specs.Header.{fields_of}
use Rattle.image.specs.Sameness.{Outside}
use Rattle.image.proofs.HeaderLaws.{fields_are, good_header, block_kept}
use Rattle.opcodes.specs.declared.Command.TheVariants.{Read, Write}
use Rattle.transfer.specs.Reading.{read_from}
use Rattle.transfer.proofs.BlockLaws.{moved_blocks}
use Rattle.transfer.proofs.ReadLaws.{read_left, read_first}
use Rattle.packet_parts.specs.Answers.{Left}
use Rattle.packet_laws.specs.Words.{number_of, blocks_of}
use Rattle.packet_laws.proofs.Endings.{ends_is}
use Rattle.packet_laws.proofs.Refusals.{begins-passes}
use Rattle.floppy_parts.specs.declared.tape.Floppy.{Floppy}
use Rattle.floppy_parts.specs.Checks.{asked_by}
use Rattle.floppy_parts.specs.Headers.{is_full}
use Rattle.floppy_parts.specs.Requests.{floppy_request, blocks_asked}
use Rattle.floppy_parts.specs.Settings.{tape_after}
use Rattle.floppy_parts.proofs.FullLaws.{full_image}
use Rattle.floppy_parts.proofs.RuledLaws.{Ruled, ruled_of}
use Rattle.floppy.specs.Packet.{floppy_device, floppy_step}
use Rattle.floppy.specs.Work.{read_ends, read_work, work_of}
use Rattle.floppy_laws.specs.Words.{place_of, end_of, IsData, IsDataAs}
use Rattle.floppy_laws.specs.History.{StoresAt, Later, at_once, asked, replaced, ReadsBackAs}
use Rattle.floppy_laws.specs.Demands.{ReadsBack, ReadGives, ReadMoves}
use Rattle.floppy_laws.proofs.Leaving.{accepted_leaves}
use Rattle.floppy_laws.proofs.Refusals.{refused_keeps}
use Rattle.floppy_laws.proofs.Storing.{blocks_stored}
use Rattle.floppy_laws.proofs.Working.{step_is, room_is}

-- ---- one packet

module _ (kind : Kind) (i : ℕ) (bytes : List ℕ) (s : List ℕ) (f : Floppy) (packet buf : List ℕ) (block : IsDataAs kind s i bytes)
    (spared : StoresAt i s f packet buf → ⊥) where
  abbrev x : Left Floppy
  x = floppy_step s f packet buf

  same_image : x.image ≡ s → IsDataAs kind x.image i bytes
  same_image e = rw e block

  -- a WRITE spares the places before and after its own
  outside : (floppy_request packet).command ≡ Write → Outside (place_of f) (blocks_of x) i
  outside c =
      test (ltb i (place_of f)) (λ a. inl (ltb-true _ _ a)) (λ a.
      test (leb (place_of f + blocks_of x) i) (λ b. inr (leb-true _ _ b)) (λ b.
      let l = leb-false (place_of f + blocks_of x) i b in
      absurd (spared (record { a_write = c; from = ltb-false _ _ a; upto = omega arith }))))

  accepted_block : number_of x ≡ 0 → IsDataAs kind x.image i bytes
  accepted_block e =
      let w = accepted_leaves s f packet buf e in
      ⊎_elim (λ c.
      let k = w.others i block.0.before (outside c) in
      block_kept kind _ _ s x.image (fields_of s) i bytes block
      w.header (rw (fields_are _ _ w.header) block.0.before) k.kind k.bytes)
      (λ z. same_image z) w.stored

  still_block : IsDataAs kind x.image i bytes
  still_block =
      test (eqb (number_of x) 0) (λ e. accepted_block (eqb-true _ _ e))
      (λ e. same_image (refused_keeps s f packet buf (eqb-false _ _ e)).image_kept)

-- ---- a whole history

later_block : (kind : Kind) (i : ℕ) (bytes : List ℕ) {s : List ℕ} {f : Floppy} {s' : List ℕ} {f' : Floppy} → Later i s f s' f'
    → IsDataAs kind s i bytes → IsDataAs kind s' i bytes
later_block kind i bytes at_once b = b
later_block kind i bytes (asked packet buf l e) b = still_block kind i bytes _ _ packet buf (later_block kind i bytes l b) e
later_block kind i bytes (replaced f'' l) b = later_block kind i bytes l b

-- ---- what READ copies

module _ (s : List ℕ) (f : Floppy) (n : ℕ) (buf : List ℕ) where
  abbrev h : Header
  h = fields_of s

  moves_first : (bytes : List ℕ) → IsData s (place_of f) bytes → place_of f < end_of f → 1 ≤ n → 1 ≤ blocks_of (read_work s h (end_of f) f.shared n buf)
  unfolding read_work read_ends
  moves_first bytes b l m =
      let e : n ≡ suc (n - 1) = omega arith in
      let k = read_first s h.size h.kinds h.blocks (end_of f) (n - 1) 0 (place_of f) buf l b.holds in
      rw ends_is (omega (arith, rw (← e) at k))

  copied_whole : is_full s ≡ true → Ruled h f → n * h.size ≤ length buf → (k : ℕ) → k < blocks_of (read_work s h (end_of f) f.shared n buf)
      → IsData s (place_of f + k) (part (read_work s h (end_of f) f.shared n buf).buf (k * h.size) h.size)
  unfolding read_work read_ends
  copied_whole full r room k l =
      let less = read_left s h.size h.kinds h.blocks (end_of f) n 0 (place_of f) buf in
      let m : k + (read_from s h.size h.kinds h.blocks (end_of f) n 0 (place_of f) buf).moved.left < n = omega (arith, rw ends_is at l) in
      let d = moved_blocks s h (good_header s (full_image s full).0) (end_of f) r.within n (place_of f) buf room k m in
      record { good = d.good; before = omega (arith, d.before, r.within); holds = d.holds; same = d.same }

pub read_gives : ReadGives
unfolding work_of asked_by tape_after
read_gives s f packet buf b c =
    let p = begins-passes floppy_device s f packet buf b in
    rw (step_is s f packet buf b Read c)
    (copied_whole s f (blocks_asked (floppy_request packet)) buf p.good (ruled_of _ _ p.ruly) (room_is s f packet buf b Read c))

pub read_moves_lem : ReadMoves
unfolding work_of tape_after
read_moves_lem s f packet buf bytes b c = rw (step_is s f packet buf b Read c) (moves_first s f (blocks_asked (floppy_request packet)) buf bytes)

reads_back_as : (kind : Kind) (i : ℕ) (bytes s : List ℕ) (f : Floppy) → IsDataAs kind s i bytes → ReadsBackAs kind i bytes s f
reads_back_as kind i bytes s f block s' f' l =
    let w = later_block kind i bytes l block in (
      w,
      λ packet buf b c k m e.
          let r = read_gives s' f' packet buf b c k m in
          sym r.same ∙ ap (λ (i : ℕ). block_at s' (fields_of s').size (fields_of s').blocks i) e ∙ w.0.same,
    )

pub reads_back : ReadsBack
reads_back =
    record {
      written = λ s f packet buf b c j n. reads_back_as Data (place_of f + j) _ _ _ (blocks_stored s f packet buf b c j n);
      recorded = reads_back_as;
    }
