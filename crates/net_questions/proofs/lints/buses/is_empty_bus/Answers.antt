use Rattle.std.specs.Prelude.{slice_get}
use Rattle.net_questions.{specs.Buses.{HasNoPorts}, proofs.Exists.{of_some, of_none}}
use Rattle.net_questions.proofs.lints.buses.is_empty_bus.Goals as goal

pub returns-in-Some : goal.returns-in-Some
returns-in-Some c = of_some (slice_get c.args.plan.now.buses.items c.args.bus) _ (λ b. HasNoPorts c.args.plan.now c.args.bus) c.has_no_ports.result c.in-Some.ensures c.has_no_ports.ensures

pub returns-in-None : goal.returns-in-None
returns-in-None c = of_none (slice_get c.args.plan.now.buses.items c.args.bus) (λ b. HasNoPorts c.args.plan.now c.args.bus) c.in-None.ensures
