-- What the fresh record and the cartridge change leave is accepted.
-- Assumes nothing.
use native.Mathlib.Omega.{arith}
use Rattle.image.specs.Header.{fields_of}
use Rattle.packet_state.specs.States.{fresh_state, changed_state}
use Rattle.packet_state.proofs.RecordLaws.{fresh_speed}
use Rattle.packet_parts.specs.Answers.{ends}
use Rattle.floppy_parts.specs.Tape.{reset_tape, floppy_of}
use Rattle.floppy_parts.proofs.FullLaws.{full_image}
use Rattle.floppy_parts.proofs.RuledLaws.{of_ruled, reset_product}
use Rattle.floppy.specs.Packet.{mounted}
use Rattle.floppy_laws.specs.Demands.{StartsGood}

pub starts_good : StartsGood
unfolding mounted ends
starts_good =
    record {
      fresh = λ s f e.
          let p = reset_product (fields_of s).capacity in
          rw e (of_ruled (fields_of s) (floppy_of fresh_state (reset_tape (fields_of s).capacity)) (full_image s e).1
          (record { within = omega arith; place = omega arith; speed = fresh_speed; key = omega arith }));
      changed = λ s f e g.
          let p = reset_product (fields_of s).capacity in
          rw e (of_ruled (fields_of s) (floppy_of (changed_state f.shared) (reset_tape (fields_of s).capacity)) (full_image s e).1
          (record { within = omega arith; place = omega arith; speed = g; key = omega arith }));
    }
