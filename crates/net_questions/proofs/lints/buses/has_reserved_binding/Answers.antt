use Rattle.std.{specs.Prelude.{slice_get}, proofs.Common.{◌≡◌}}
use Rattle.net_questions.proofs.Exists.{of_some, of_none}
use Rattle.net_questions.proofs.lints.buses.has_reserved_binding.Goals as goal

pub returns-in-Some : goal.returns-in-Some
returns-in-Some c = of_some (slice_get c.args.plan.now.buses.items c.args.bus) _ (λ b. b.binding ≡ 0) c.is_reserved_binding.result c.in-Some.ensures c.is_reserved_binding.ensures

pub returns-in-None : goal.returns-in-None
returns-in-None c = of_none (slice_get c.args.plan.now.buses.items c.args.bus) (λ b. b.binding ≡ 0) c.in-None.ensures
