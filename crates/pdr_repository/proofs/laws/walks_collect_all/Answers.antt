use Rattle.pdr_repository.proofs.Walks.{every_walk_collects}
use Rattle.pdr_repository.proofs.laws.walks_collect_all.Goals as goal

pub returns : goal.returns
returns c = every_walk_collects
