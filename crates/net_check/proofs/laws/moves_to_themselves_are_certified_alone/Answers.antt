use Rattle.net_check.proofs.SelfCertificates.{moves_alone, alone_moves, obstacle_alone}
use Rattle.net_check.proofs.laws.moves_to_themselves_are_certified_alone.Goals as goal

pub returns-clause-certificates : goal.returns-clause-certificates
returns-clause-certificates c plan cert = (moves_alone plan cert, alone_moves plan cert)

pub returns-clause-obstacles : goal.returns-clause-obstacles
returns-clause-obstacles c plan o named some = obstacle_alone plan o named some
