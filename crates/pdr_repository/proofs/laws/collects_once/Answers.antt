use Rattle.pdr_repository.proofs.Collecting.{collects_once}
use Rattle.pdr_repository.proofs.laws.collects_once.Goals as goal

pub returns : goal.returns
returns c = collects_once
