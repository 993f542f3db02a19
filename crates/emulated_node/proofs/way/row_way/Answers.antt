use Rattle.std.{proofs.Common.{◌∙◌, ap}, specs.Option.{option_and_then}}
use Rattle.mctp_routing.specs.declared.row.TableRow.{TableRow}
use Rattle.emulated_node.specs.Ways.{hop_way}
use Rattle.emulated_node.proofs.way.row_way.Goals as goal

pub returns-in-Some : goal.returns-in-Some
returns-in-Some c =
    c.hop_way.ensures ∙ ap (option_and_then (λ (row : TableRow). hop_way c.args.plan.now c.args.node row.hop)) c.in-Some.ensures

pub returns-in-None : goal.returns-in-None
returns-in-None c = ap (option_and_then (λ (row : TableRow). hop_way c.args.plan.now c.args.node row.hop)) c.in-None.ensures
