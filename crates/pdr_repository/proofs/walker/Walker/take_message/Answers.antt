use Rattle.std.proofs.Common.{inr, option_map, ap}
use Rattle.pldm_message.specs.PdrValues.{get_pdr_answer}
use Rattle.pdr_repository.specs.Dues.{request_of}
use Rattle.pdr_repository.proofs.walker.Walker.take_message.Goals as goal

pub returns-in-Ok-clause-takes : goal.returns-in-Ok-clause-takes
returns-in-Ok-clause-takes c =
    let m = get_pdr_answer c.in-Ok.read in
    let count = c.args.self.now.count in
    inr ((λ none. none m c.in-Ok.ensures.ok), (m, request_of count c.args.due, c.in-Ok.ensures.ok, ap (option_map (request_of count)) c.requires.due, c.take_outcome.ensures.takes))

pub returns-in-Ok-clause-wants : goal.returns-in-Ok-clause-wants
returns-in-Ok-clause-wants c = λ wants. let lacking = c.take_outcome.ensures.wants wants in (get_pdr_answer c.in-Ok.read, lacking.0, c.in-Ok.ensures.ok, lacking.1, lacking.2)
