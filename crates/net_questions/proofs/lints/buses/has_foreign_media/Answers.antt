use Rattle.std.specs.Prelude.{slice_get}
use Rattle.net_questions.{specs.Buses.{IsMediaOfAnother}, proofs.Exists.{of_some, of_none}}
use Rattle.net_questions.proofs.lints.buses.has_foreign_media.Goals as goal

pub returns-in-Some : goal.returns-in-Some
returns-in-Some c = of_some (slice_get c.args.plan.now.buses.items c.args.bus) _ (λ b. IsMediaOfAnother b.binding b.media) c.is_media_of_another.result c.in-Some.ensures c.is_media_of_another.ensures

pub returns-in-None : goal.returns-in-None
returns-in-None c = of_none (slice_get c.args.plan.now.buses.items c.args.bus) (λ b. IsMediaOfAnother b.binding b.media) c.in-None.ensures
