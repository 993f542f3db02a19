use Rattle.std.proofs.Common.{sym}
use Rattle.pdr_record.proofs.ListsRead.{entities_count}
use Rattle.pdr_record.proofs.entities.Entities.count.Goals as goal

pub returns : goal.returns
returns c = sym (entities_count c.args.self.now.count c.args.self.now.bytes.now)
