use Rattle.std.specs.Prelude.{slice_get}
use Rattle.net_tables.specs.Routing.{ports_of}
use Rattle.net_questions.{specs.Lint.{HaveOneAddress}, proofs.Exists.{of_some, of_none}}
use Rattle.net_questions.proofs.lints.ports.has_its_address.Goals as goal

pub returns-in-Some : goal.returns-in-Some
returns-in-Some c = of_some (slice_get (ports_of c.args.plan.now c.args.other) c.args.other_port) c.in-Some.other.now (HaveOneAddress c.args.port.now) c.have_one_address.result c.in-Some.ensures c.have_one_address.ensures

pub returns-in-None : goal.returns-in-None
returns-in-None c = of_none (slice_get (ports_of c.args.plan.now c.args.other) c.args.other_port) (HaveOneAddress c.args.port.now) c.in-None.ensures
