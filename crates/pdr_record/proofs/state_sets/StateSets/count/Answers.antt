use Rattle.std.proofs.Common.{sym}
use Rattle.pdr_record.proofs.ListsRead.{state_sets_count}
use Rattle.pdr_record.proofs.state_sets.StateSets.count.Goals as goal

pub returns : goal.returns
returns c = sym (state_sets_count c.args.self.now.count c.args.self.now.bytes.now)
