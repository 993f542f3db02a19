use Rattle.mctp_bridge.proofs.ReaderLaws.{asked}
use Rattle.mctp_bridge.proofs.laws.asks_what_is_due.Goals as goal

pub returns : goal.returns
returns c = asked
