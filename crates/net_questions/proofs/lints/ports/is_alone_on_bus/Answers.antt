use Rattle.std.specs.Prelude.{slice_get}
use Rattle.net_tables.specs.Routing.{ports_of}
use Rattle.net_questions.{specs.Lint.{IsOnlyPort}, proofs.Exists.{of_some, of_none}}
use Rattle.net_questions.proofs.lints.ports.is_alone_on_bus.Goals as goal

pub returns-in-Some : goal.returns-in-Some
returns-in-Some c = of_some (slice_get (ports_of c.args.plan.now c.args.node) c.args.port) c.in-Some.found.now (λ a. IsOnlyPort c.args.plan.now a.bus c.args.node c.args.port) c.is_alone.result c.in-Some.ensures c.is_alone.ensures

pub returns-in-None : goal.returns-in-None
returns-in-None c = of_none (slice_get (ports_of c.args.plan.now c.args.node) c.args.port) (λ a. IsOnlyPort c.args.plan.now a.bus c.args.node c.args.port) c.in-None.ensures
