use Rattle.std.proofs.Common.{arith}
use Rattle.net_rules.{specs.Names.{HaveOneName}, proofs.Beyond.{no_name}}
use Rattle.net_explained.proofs.causes.names.earlier_namesake.Goals as goal

pub returns-else-node-len : goal.returns-else-node-len
unfolding HaveOneName
returns-else-node-len c = λ k less (name, earlier, here). no_name c.args.plan.now c.args.node name (omega arith) here
