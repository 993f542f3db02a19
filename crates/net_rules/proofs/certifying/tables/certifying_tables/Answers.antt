use Rattle.std.{proofs.Common.{length}, proofs.lemmas.Result.{IfOk-weaker}}
use Rattle.net_tables.{specs.Tables.{AreTabled, AreTables}, proofs.TableLaws.{tabled_sends}}
use Rattle.net_rules.proofs.certifying.tables.certifying_tables.Goals as goal

pub returns : goal.returns
returns c =
    let plan = c.args.plan.now in
    let count = length plan.nodes.items in
    IfOk-weaker c.routing_tables.result (λ tables. AreTabled plan count tables.items) (λ tables. AreTables plan count tables.items)
    (λ tables are. tabled_sends plan count tables.items are) c.routing_tables.ensures
