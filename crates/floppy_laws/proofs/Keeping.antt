-- What stays good and what stays untouched: the record and the header through an accepted packet, the header's bytes through any.
-- Assumes nothing.
use Prim.Native.Nat.{ℕ, ◌<◌}
use native.Mathlib.Omega.{arith}
use mathlib.Core.List.{List}
use mathlib.Core.Logic.{inl, ⊎_elim}
use mathlib.Core.Path.{◌≡◌, ap}
use borrow.Author.Tests.{eqb-true, eqb-false}
use lib.Dec.{eqb}
use lib.ListN.{get_or}
use Rattle.numbers.proofs.Cases.{test}
use Rattle.image.specs.Header.{fields_of, header_length}
use Rattle.image.proofs.HeaderLaws.{fields_are, keeps_of, good_header, sound}
use Rattle.packet_laws.specs.Words.{number_of}
use Rattle.packet_laws.proofs.Refusals.{accepted_passes}
use Rattle.floppy_parts.specs.declared.tape.Floppy.{Floppy}
use Rattle.floppy_parts.proofs.FullLaws.{full_image, image_full}
use Rattle.floppy_parts.proofs.RuledLaws.{of_ruled}
use Rattle.floppy.specs.Packet.{floppy_device, floppy_step}
use Rattle.floppy_laws.specs.Demands.{StaysGood, RecordedKept, BeyondKept}
use Rattle.floppy_laws.proofs.Leaving.{accepted_leaves}
use Rattle.floppy_laws.proofs.Refusals.{refused_keeps}

pub stays_good : StaysGood
stays_good s f packet buf e =
    let w = accepted_leaves s f packet buf e in
    let g = fields_are _ _ w.header in
    let u = (full_image s (accepted_passes floppy_device s f packet buf e).good).1 in
    (image_full _ (keeps_of _ _ w.header) (rw g u), rw g (of_ruled _ _ u w.ruled))

pub beyond_kept : BeyondKept
beyond_kept s f packet buf e =
    let w = accepted_leaves s f packet buf e in
    record {
      buf_length = w.buf_length;
      buf_beyond = w.buf_beyond;
      buf_kept = w.no_gift;
      image_length = w.image_length;
      image_beyond = w.untouched;
      image_kept = λ n. ⊎_elim (λ z. absurd (n z)) (λ z. z) w.stored;
      elements_kept = w.others;
    }

module _ (s : List ℕ) (f : Floppy) (packet buf : List ℕ) where
  header_byte : number_of (floppy_step s f packet buf) ≡ 0 → (m : ℕ) → m < header_length → get_or (floppy_step s f packet buf).image m 0 ≡ get_or s m 0
  header_byte e m l =
      let p = accepted_passes floppy_device s f packet buf e in
      let g = sound s (fields_of s) (good_header s (full_image s p.good).0) in
      (accepted_leaves s f packet buf e).untouched m (record { not_kind = inl (omega arith); not_block = inl (omega arith) })

pub recorded_kept : RecordedKept
recorded_kept =
    record {
      bytes = λ s f packet buf m l.
          test (eqb (number_of (floppy_step s f packet buf)) 0) (λ e. header_byte s f packet buf (eqb-true _ _ e) m l)
          (λ e. ap (λ (t : List ℕ). get_or t m 0) (refused_keeps s f packet buf (eqb-false _ _ e)).image_kept);
      fields = λ s f packet buf.
          test (eqb (number_of (floppy_step s f packet buf)) 0) (λ e. fields_are _ _ (accepted_leaves s f packet buf (eqb-true _ _ e)).header)
          (λ e. ap fields_of (refused_keeps s f packet buf (eqb-false _ _ e)).image_kept);
    }
