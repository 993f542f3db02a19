use Rattle.net_tables.specs.Repositories.{terminus_of}
use Rattle.net_questions.{specs.Lint.{HasItsTid}, proofs.Exists.{of_some, of_none}}
use Rattle.net_questions.proofs.lints.termini.have_shared_tid.Goals as goal

pub returns-in-Some : goal.returns-in-Some
returns-in-Some c = of_some (terminus_of c.args.plan.now c.args.node) c.in-Some.terminus.now (λ t. HasItsTid c.args.plan.now t c.args.other) c.has_its_tid.result c.in-Some.ensures c.has_its_tid.ensures

pub returns-in-None : goal.returns-in-None
returns-in-None c = of_none (terminus_of c.args.plan.now c.args.node) (λ t. HasItsTid c.args.plan.now t c.args.other) c.in-None.ensures
