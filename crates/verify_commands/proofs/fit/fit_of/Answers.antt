use Rattle.std.proofs.Common.{subst}
use Rattle.net_check.specs.Errors.{NamesFirstFault}
use Rattle.verify_commands.proofs.Fitting.{not_accepted}
use Rattle.verify_commands.proofs.fit.fit_of.Goals as goal

pub returns-in_ok-fault_line-in-Err-Fault : goal.returns-in_ok-fault_line-in-Err-Fault
returns-in_ok-fault_line-in-Err-Fault c =
    let plan = c.args.plan.now in
    let cert = c.in-Held.certificate in
    let first = subst (NamesFirstFault plan cert) c.in-Err-Fault.field-0-is c.in-Err-Fault.ensures.first_fault in
    rw c.in-Held.is (not_accepted plan cert c.in-Err-Fault.fault first)
