-- `work::mode_sense` meets its contract.
use mathlib.Core.Path.{◌∙◌}
use Rattle.packet_parts.proofs.ReplyLaws.{replied_as}
use Rattle.floppy.proofs.WorkLaws.{device_shown, tape_shown}
use Rattle.floppy.proofs.work.mode_sense.Goals as goal

pub returns-in-42 : goal.returns-in-42
returns-in-42 c =
    let e = device_shown c.args.h c.args.floppy.shared c.args.floppy.tape c.args.q c.in-42.is in
    let r = replied_as _ _ _ _ _ _ _ (c.device_mode-bytes.ensures ∙ e) c.reply.ensures.0 c.reply.ensures.1 in
    record { value = r.0; buf_after = r.1 }

pub returns-in-43 : goal.returns-in-43
returns-in-43 c =
    let e = tape_shown c.args.h c.args.floppy.shared c.args.floppy.tape c.args.q c.in-43.is in
    let d = c.reply-in-43 in
    let r = replied_as _ _ _ _ _ _ _ (c.tape_mode.ensures ∙ e) d.ensures.0 d.ensures.1 in
    record { value = r.0; buf_after = r.1 }
