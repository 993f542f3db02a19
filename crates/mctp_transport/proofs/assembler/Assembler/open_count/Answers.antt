use Rattle.std.proofs.Common.{sym, ◌∙◌, is_some}
use Rattle.mctp_transport.proofs.AssemblyLaws.{count_rows, some_same}
use Rattle.mctp_transport.proofs.assembler.Assembler.open_count.Goals as goal

pub returns-clause-count : goal.returns-clause-count
returns-clause-count c =
    (rw c.deref.ensures.value at c.open_in.ensures.count)
    ∙ sym (count_rows is_some is_some c.args.self.now.limit c.args.self.now.block.items 0 c.args.self.now.slots.items some_same)
