use Rattle.std.proofs.Common.{sym, arith}
use Rattle.pdr_record.proofs.ListsRead.{entities_count, entities_spelled, entities_fit}
use Rattle.pdr_record.proofs.entities.Entities.of.Goals as goal

pub invariant_of-result : goal.invariant_of-result
invariant_of-result c = record { whole = sym (entities_spelled c.args.count c.args.bytes.now c.requires (λ i. omega (arith, c.type_inv.bytes i))) }

pub returns-clause-bytes : goal.returns-clause-bytes
returns-clause-bytes c = entities_spelled c.args.count c.args.bytes.now c.requires (λ i. omega (arith, c.type_inv.bytes i))

pub returns-clause-count : goal.returns-clause-count
returns-clause-count c = entities_count c.args.count c.args.bytes.now

pub returns-clause-fits : goal.returns-clause-fits
returns-clause-fits c = entities_fit c.args.count c.args.bytes.now (λ i. omega (arith, c.type_inv.bytes i))
