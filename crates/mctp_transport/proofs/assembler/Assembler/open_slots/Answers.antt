use Rattle.mctp_transport.proofs.AssemblyLaws.{open_is_counted}
use Rattle.mctp_transport.proofs.assembler.Assembler.open_slots.Goals as goal

pub returns-clause-open_keys : goal.returns-clause-open_keys
returns-clause-open_keys c = λ h s. open_is_counted c.args.self.now h c.open_count.result c.open_count.ensures.count s
