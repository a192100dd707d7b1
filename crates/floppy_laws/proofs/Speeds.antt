-- The speed: page 2Ah tells it, and 15h sets it.
-- Assumes nothing.
use borrow.Author.Tests.{eq-eqb}
use Rattle.packet_parts.specs.Replies.{full_list}
use Rattle.packet_laws.proofs.Speeds.{KeepsSpeed, speed_follows as any-device}
use Rattle.floppy_parts.proofs.RuledLaws.{ruled_of}
use Rattle.floppy.specs.Packet.{floppy_device}
use Rattle.floppy.specs.Work.{select_work, work_of}
use Rattle.floppy_laws.specs.Demands.{SpeedFollows}
use Rattle.floppy_laws.proofs.Records.{keeps_record, gives_page}
use Rattle.floppy_laws.proofs.Refusals.{working}

keeps_speed : KeepsSpeed floppy_device
unfolding work_of select_work
keeps_speed =
    record {
      page = gives_page;
      stays = keeps_record;
      ruled = λ h f e. (ruled_of h f e).speed;
      answers = λ s h f q list c l. rw (c, eq-eqb q.length full_list l);
      takes = λ s h f q list c l. rw (c, eq-eqb q.length full_list l);
    }

pub speed_follows : SpeedFollows
speed_follows = any-device floppy_device working keeps_speed
