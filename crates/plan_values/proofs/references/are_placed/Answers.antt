use Rattle.std.proofs.Common.{◌∙◌}
use Rattle.plan_values.proofs.Placed.{list_all_values}
use Rattle.plan_values.proofs.references.are_placed.Goals as goal

pub returns : goal.returns
returns c = c.are_among.ensures ∙ list_all_values c.args.buses c.args.nodes.now
