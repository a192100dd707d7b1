-- LOCATE below the product and past it.
-- Assumes nothing.
use Prim.Native.Nat.{ℕ, ◌≤◌}
use mathlib.Core.List.{List}
use mathlib.Core.Path.{◌≡◌, ap, ◌∙◌}
use borrow.Author.Tests.{le-leb, leb-false}
use lib.ListN.{length}
use Rattle.image.specs.Header.{fields_of}
use Rattle.opcodes.specs.declared.Command.TheVariants.{Locate}
use Rattle.packet_state.specs.declared.state.Attention.TheVariants.{Nothing}
use Rattle.packet_state.specs.declared.state.Verdict.TheVariants.{Ends}
use Rattle.packet_state.specs.Senses.{invalid_field}
use Rattle.packet_state.specs.States.{with_sense}
use Rattle.packet_parts.specs.Answers.{Left}
use Rattle.packet_parts.specs.Shell.{found_by, carried_out}
use Rattle.packet_parts.specs.Verdicts.{found_first, verdict_by}
use Rattle.packet_laws.proofs.Endings.{ends_is}
use Rattle.packet_laws.proofs.Refusals.{accepted_passes, begins-unended}
use Rattle.packet_laws.proofs.Ways.{carried, unended_field, step_passed}
use Rattle.floppy_parts.specs.declared.tape.Floppy.{Floppy}
use Rattle.floppy_parts.specs.Checks.{asked_by}
use Rattle.floppy_parts.specs.Requests.{floppy_request, block_number}
use Rattle.floppy_parts.specs.Tape.{floppy_of}
use Rattle.floppy.specs.Packet.{floppy_device}
use Rattle.floppy.specs.Work.{work_of}
use Rattle.floppy_laws.specs.Words.{end_of}
use Rattle.floppy_laws.specs.Demands.{LocateExactly}
use Rattle.floppy_laws.proofs.Working.{step_is}

module _ (s : List ℕ) (f : Floppy) (packet buf : List ℕ) (c : (floppy_request packet).command ≡ Locate) where
  -- the field is bad
  judged : f.shared.attention ≡ Nothing → end_of f ≤ block_number (floppy_request packet)
      → found_by floppy_device (fields_of s) f (floppy_request packet) (length buf) ≡ Ends invalid_field
  unfolding verdict_by found_first asked_by
  judged a l = rw (c, a, le-leb _ _ l)

  ended : f.shared.attention ≡ Nothing
      → (carried floppy_device s f packet buf (Ends invalid_field)).state ≡ floppy_of (with_sense f.shared invalid_field) f.tape
  unfolding carried_out
  ended a = rw a

pub locate_exactly : LocateExactly
unfolding asked_by work_of
locate_exactly =
    record {
      below = λ s f packet buf b c.
          leb-false _ _ (rw c at (unended_field floppy_device s f packet buf (begins-unended floppy_device s f packet buf b)));
      there = λ s f packet buf b c. rw (step_is s f packet buf b Locate c, ends_is);
      past = λ s f packet buf n c a l.
          ap (λ (x : Left Floppy). x.state) (step_passed floppy_device s f packet buf (accepted_passes floppy_device s f packet buf n))
          ∙ ap (λ v. (carried floppy_device s f packet buf v).state) (judged s f packet buf c a l)
          ∙ ended s f packet buf c a;
    }
