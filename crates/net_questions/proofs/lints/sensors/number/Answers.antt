use Rattle.net_questions.proofs.Numbers.{number_by_places}
use Rattle.net_questions.proofs.lints.sensors.number.Goals as goal

pub returns-clause-number : goal.returns-clause-number
returns-clause-number c = let same = number_by_places c.args.bytes.now c.requires in let bits = c.bits_of.ensures.bits in cc
