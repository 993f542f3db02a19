use Rattle.pdr_repository.proofs.OneAnswers.{one_answer}
use Rattle.pdr_repository.proofs.laws.one_answer.Goals as goal

pub returns : goal.returns
returns c = one_answer
