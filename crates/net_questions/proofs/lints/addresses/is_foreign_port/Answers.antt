use Rattle.std.specs.Prelude.{slice_get}
use Rattle.net_tables.specs.Routing.{ports_of}
use Rattle.net_questions.{specs.Addresses.{HasForeignAddress}, proofs.Exists.{of_some, of_none}}
use Rattle.net_questions.proofs.lints.addresses.is_foreign_port.Goals as goal

pub returns-in-Some : goal.returns-in-Some
returns-in-Some c =
    of_some (slice_get (ports_of c.args.plan.now c.args.node) c.args.port) c.in-Some.port.now (HasForeignAddress c.args.plan.now) c.has_foreign_address.result c.in-Some.ensures
    c.has_foreign_address.ensures

pub returns-in-None : goal.returns-in-None
returns-in-None c = of_none (slice_get (ports_of c.args.plan.now c.args.node) c.args.port) (HasForeignAddress c.args.plan.now) c.in-None.ensures
