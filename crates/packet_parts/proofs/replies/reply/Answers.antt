-- `replies::reply` meets its contract.
use Rattle.packet_parts.proofs.ReplyLaws.{reply_went}
use Rattle.packet_parts.proofs.replies.reply.Goals as goal

pub returns : goal.returns
returns c = reply_went c.args.bytes.now c.args.asked _ _ _ _ _ c.min-n.ensures c.end.ensures c.copy_block.ensures
