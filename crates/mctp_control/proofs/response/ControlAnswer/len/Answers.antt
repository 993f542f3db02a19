use Rattle.std.proofs.Common.{arith}
use Rattle.mctp_control.proofs.CommandNumbers.{is_number}
use Rattle.mctp_control.proofs.response.ControlAnswer.len.Goals as goal

pub returns-in-Failed-clause-lawful : goal.returns-in-Failed-clause-lawful
returns-in-Failed-clause-lawful c =
    rw c.in-Failed.is (is_number c.in-Failed.command, c.in-Failed.failure.no_success, omega arith)
