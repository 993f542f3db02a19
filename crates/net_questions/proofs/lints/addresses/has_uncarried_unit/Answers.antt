use Rattle.std.specs.Prelude.{slice_get}
use Rattle.net_questions.{specs.Addresses.{IsPastByteCount}, proofs.Exists.{of_some, of_none}}
use Rattle.net_questions.proofs.lints.addresses.has_uncarried_unit.Goals as goal

pub returns-in-Some : goal.returns-in-Some
returns-in-Some c =
    of_some (slice_get c.args.plan.now.buses.items c.args.bus) c.in-Some.bus.now (λ b. IsPastByteCount b.binding c.args.plan.now.unit) c.is_past_byte_count.result c.in-Some.ensures
    c.is_past_byte_count.ensures

pub returns-in-None : goal.returns-in-None
returns-in-None c = of_none (slice_get c.args.plan.now.buses.items c.args.bus) (λ b. IsPastByteCount b.binding c.args.plan.now.unit) c.in-None.ensures
