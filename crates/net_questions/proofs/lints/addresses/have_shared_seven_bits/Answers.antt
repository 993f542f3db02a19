use Rattle.std.specs.Prelude.{slice_get}
use Rattle.net_tables.specs.Routing.{ports_of}
use Rattle.net_questions.{specs.Addresses.{HasItsSevenBits}, proofs.Exists.{of_some, of_none}}
use Rattle.net_questions.proofs.lints.addresses.have_shared_seven_bits.Goals as goal

pub returns-in-Some : goal.returns-in-Some
returns-in-Some c =
    of_some (slice_get (ports_of c.args.plan.now c.args.node) c.args.port) c.in-Some.port.now (λ a. HasItsSevenBits c.args.plan.now a c.args.other c.args.other_port)
    c.has_its_seven_bits.result c.in-Some.ensures c.has_its_seven_bits.ensures

pub returns-in-None : goal.returns-in-None
returns-in-None c =
    of_none (slice_get (ports_of c.args.plan.now c.args.node) c.args.port) (λ a. HasItsSevenBits c.args.plan.now a c.args.other c.args.other_port) c.in-None.ensures
