use Rattle.net_reached.proofs.Saying.{not_said_of}
use Rattle.net_reached.proofs.reading.wish_from.Goals as goal

pub returns-in-Some-clause-none : goal.returns-in-Some-clause-none
returns-in-Some-clause-none c =
    not_said_of c.args.plan.now c.args.line.now c.name_of.result.now c.in-Some.rest.now c.args.from c.wish_behind.result c.name_of.ensures c.in-Some.ensures c.wish_behind.ensures.none
