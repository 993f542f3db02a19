use Rattle.pdr_repository.proofs.Meeting.{requests_are_answered}
use Rattle.pdr_repository.proofs.laws.requests_are_answered.Goals as goal

pub returns : goal.returns
returns c = requests_are_answered
