use Rattle.net_reached.proofs.Saying.{named_behind, none_behind}
use Rattle.net_reached.proofs.reading.node_behind.Goals as goal

pub returns-in-Some-clause-found : goal.returns-in-Some-clause-found
returns-in-Some-clause-found c = named_behind c.args.plan.now c.args.text.now c.args.front.now c.in-Some.name.now c.first_named.result c.in-Some.ensures c.first_named.ensures.found

pub returns-in-Some-clause-none : goal.returns-in-Some-clause-none
returns-in-Some-clause-none c = none_behind c.args.plan.now c.args.text.now c.args.front.now c.in-Some.name.now c.first_named.result c.in-Some.ensures c.first_named.ensures.none
