use Rattle.net_tables.specs.Repositories.{terminus_of}
use Rattle.net_questions.{specs.Lint.{HaveOneTid}, proofs.Exists.{of_some, of_none}}
use Rattle.net_questions.proofs.lints.termini.has_its_tid.Goals as goal

pub returns-in-Some : goal.returns-in-Some
returns-in-Some c = of_some (terminus_of c.args.plan.now c.args.other) c.in-Some.other.now (HaveOneTid c.args.terminus.now) c.have_one_tid.result c.in-Some.ensures c.have_one_tid.ensures

pub returns-in-None : goal.returns-in-None
returns-in-None c = of_none (terminus_of c.args.plan.now c.args.other) (HaveOneTid c.args.terminus.now) c.in-None.ensures
