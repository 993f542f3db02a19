use Rattle.std.proofs.Common.{◌+◌, arith}
use Rattle.pdr_repository.proofs.FivePackets.{fit_five, pass_five}
use Rattle.pdr_repository.proofs.parts.five_packets.Goals as goal

pub returns-clause-fit : goal.returns-clause-fit
returns-clause-fit c = fit_five c.args.unit c.min.result c.requires.least (omega arith)

pub returns-clause-pass : goal.returns-clause-pass
returns-clause-pass c = λ below. pass_five c.args.unit (c.min.result + 1) (omega arith)
