use Rattle.net_tables.specs.Repositories.{terminus_of}
use Rattle.net_questions.{specs.Lint.{IsUnlocated}, proofs.Exists.{of_some, of_none}}
use Rattle.net_questions.proofs.lints.locators.lacks_locator.Goals as goal

pub returns-in-Some : goal.returns-in-Some
returns-in-Some c =
    of_some (terminus_of c.args.plan.now c.args.node) c.in-Some.terminus.now (λ t. IsUnlocated c.args.plan.now c.args.node t.tid) c.is_unlocated.result c.in-Some.ensures
    c.is_unlocated.ensures

pub returns-in-None : goal.returns-in-None
returns-in-None c = of_none (terminus_of c.args.plan.now c.args.node) (λ t. IsUnlocated c.args.plan.now c.args.node t.tid) c.in-None.ensures
