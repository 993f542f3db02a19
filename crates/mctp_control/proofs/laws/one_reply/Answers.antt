use Rattle.mctp_control.proofs.OneReply.{one_reply}
use Rattle.mctp_control.proofs.laws.one_reply.Goals as goal

pub returns : goal.returns
returns c = one_reply
