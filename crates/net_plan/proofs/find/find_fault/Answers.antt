use Rattle.net_plan.{specs.Grammar.{grammar, known_seen}, specs.Trees.{view}, proofs.Fitting.{searched}}
use Rattle.net_plan.proofs.find.find_fault.Goals as goal

pub returns-clause-fits : goal.returns-clause-fits
returns-clause-fits c = searched (known_seen c.args.known) (grammar c.args.shape.now) (view c.args.value.now) c.first_fault.result c.first_fault.ensures
