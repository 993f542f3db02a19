use Rattle.net_rules.proofs.Obstacles.{fault_named}
use Rattle.net_rules.proofs.certifying.meet_rule.Goals as goal

pub returns-in-Some-clause-obstacle : goal.returns-in-Some-clause-obstacle
returns-in-Some-clause-obstacle c = fault_named c.args.plan.now c.args.rule c.args.made.now c.in-Some.fault c.requires.made (rw c.in-Some.is at c.in_ok-fault.ensures)
