-- `work` of the stream device meets its contract.
use mathlib.Core.Path.{refl}
use Rattle.packet_state.proofs.RecordLaws.{ruly_of}
use Rattle.packet_parts.proofs.VerdictLaws.{works_clear}
use Rattle.stream.proofs.StreamDevicePacketDevice.work.Goals as goal

pub work-requires-clause-passed : goal.work-requires-clause-passed
work-requires-clause-passed c =
    let b = c.requires.begun in
    let r = ruly_of _ _ b.ruled in
    record { header = b.header; place = r.place; key = r.key; count = c.requires.fitting }

pub work-requires-clause-q_in_bounds : goal.work-requires-clause-q_in_bounds
work-requires-clause-q_in_bounds c = (works_clear _ _ _ _ _ refl c.requires.works).1
