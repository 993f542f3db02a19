use Rattle.mctp_transport.{proofs.Cuts.{same_cuts}, proofs.PacketLists.{same_packets}}
use Rattle.mctp_transport.proofs.cutting.laws.one_cut.Goals as goal

pub returns-clause-payloads : goal.returns-clause-payloads
returns-clause-payloads c = same_cuts

pub returns-clause-packets : goal.returns-clause-packets
returns-clause-packets c = same_packets
