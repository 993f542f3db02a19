use Rattle.mctp_transport.proofs.PacketLists.{packets_join}
use Rattle.mctp_transport.proofs.cutting.laws.cut_joins.Goals as goal

pub returns : goal.returns
returns c = packets_join
