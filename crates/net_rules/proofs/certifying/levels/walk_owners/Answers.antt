use Rattle.std.proofs.Common.{◌∙◌}
use Rattle.net_rules.proofs.LevelLaws.{walked_owners}
use Rattle.net_rules.proofs.certifying.levels.walk_owners.Goals as goal

pub returns : goal.returns
returns c = walked_owners c.args.plan.now c.deref.result.now (c.deref.ensures.value ∙ c.in_ok-owners.ensures) c.walk.result c.walk.ensures
