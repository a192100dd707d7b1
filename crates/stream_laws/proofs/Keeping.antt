-- What stays good and what stays untouched through an accepted packet.
-- Assumes nothing.
use mathlib.Core.Path.{sym, ap, ◌∙◌}
use Rattle.packet_state.proofs.RecordLaws.{of_ruly}
use Rattle.image.specs.declared.header.Header.{Header}
use Rattle.image.specs.Header.{fields_of, with_recorded}
use Rattle.image.proofs.HeaderLaws.{fields_are, keeps_of}
use Rattle.stream_laws.specs.Demands.{StaysGood, BeyondKept}
use Rattle.stream_laws.proofs.Leaving.{accepted_leaves}

pub stays_good : StaysGood
stays_good s st packet buf e =
    let w = accepted_leaves s st packet buf e in
    let f = fields_are _ _ w.header in (
      keeps_of _ _ w.header,
      f ∙ ap (λ (x : Header). with_recorded (fields_of s) x.recorded) (sym f),
      rw f (of_ruly _ _ w.accepted.ruly),
    )

pub beyond_kept : BeyondKept
beyond_kept s st packet buf e =
    let w = accepted_leaves s st packet buf e in
    record {
      buf_length = w.buf_length;
      buf_beyond = w.buf_beyond;
      buf_kept = w.no_gift;
      image_length = w.image_length;
      image_beyond = w.untouched;
      image_kept = w.no_store;
      recorded_new = λ f b. rw (fields_are _ _ w.header) (w.new_u f b);
      elements_before = w.below;
    }
