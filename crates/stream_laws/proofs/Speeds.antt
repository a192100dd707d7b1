-- The speed: page 2Ah tells it, and 15h sets it.
-- Assumes nothing.
use borrow.Author.Tests.{eq-eqb}
use Rattle.packet_state.proofs.RecordLaws.{ruly_of}
use Rattle.packet_parts.specs.Replies.{full_list}
use Rattle.packet_laws.proofs.Speeds.{KeepsSpeed, speed_follows as any-device}
use Rattle.stream.specs.Packet.{stream_device}
use Rattle.stream.specs.Work.{select_work, work_of}
use Rattle.stream_laws.specs.Demands.{SpeedFollows}
use Rattle.stream_laws.proofs.Records.{keeps_record, gives_page}
use Rattle.stream_laws.proofs.Refusals.{working}

keeps_speed : KeepsSpeed stream_device
unfolding work_of select_work
keeps_speed =
    record {
      page = gives_page;
      stays = keeps_record;
      ruled = λ h st e. (ruly_of h.recorded st e).speed;
      answers = λ s h st q list c l. rw (c, eq-eqb q.length full_list l);
      takes = λ s h st q list c l. rw (c, eq-eqb q.length full_list l);
    }

pub speed_follows : SpeedFollows
speed_follows = any-device stream_device working keeps_speed
