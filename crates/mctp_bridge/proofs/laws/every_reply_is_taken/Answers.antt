use Rattle.mctp_bridge.proofs.Replying.{reply_taken}
use Rattle.mctp_bridge.proofs.laws.every_reply_is_taken.Goals as goal

pub returns : goal.returns
returns c = reply_taken
