use Rattle.pdr_repository.proofs.OneLentParts.{one_lent_part}
use Rattle.pdr_repository.proofs.laws.one_lent_part.Goals as goal

pub returns : goal.returns
returns c = one_lent_part
