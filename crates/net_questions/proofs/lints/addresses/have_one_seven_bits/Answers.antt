use Rattle.std.specs.Prelude.{slice_get}
use Rattle.net_questions.{specs.Addresses.{HaveSevenBits}, proofs.Exists.{of_some, of_none}}
use Rattle.net_questions.proofs.lints.addresses.have_one_seven_bits.Goals as goal

pub returns-in-Some : goal.returns-in-Some
returns-in-Some c =
    of_some (slice_get c.args.plan.now.buses.items c.args.port.now.bus) c.in-Some.bus.now (λ b. HaveSevenBits b.binding c.args.port.now c.args.other.now) c.have_seven_bits.result
    c.in-Some.ensures c.have_seven_bits.ensures

pub returns-in-None : goal.returns-in-None
returns-in-None c =
    of_none (slice_get c.args.plan.now.buses.items c.args.port.now.bus) (λ b. HaveSevenBits b.binding c.args.port.now c.args.other.now) c.in-None.ensures
