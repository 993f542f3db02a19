use Rattle.std.proofs.Common.{ap}
use Rattle.pldm_message.{specs.Heads.{outcome_value}, specs.PdrValues.{part}}
use Rattle.pdr_repository.proofs.walker.Walker.take_outcome.Goals as goal

pub returns-in-Ok-clause-wants : goal.returns-in-Ok-clause-wants
returns-in-Ok-clause-wants c = λ wants. (part c.in-Ok.given, ap (outcome_value part) c.in-Ok.is, c.take_part.ensures.wants wants)
