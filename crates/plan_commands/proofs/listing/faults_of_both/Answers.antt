use Rattle.std.{proofs.Common.{rules, Some}, specs.Cow.{cow_str_bytes}}
use Rattle.net_faults.specs.PlanFaults.{AreAllFaults}
use Rattle.net_check.specs.Errors.{NamesFirstFault}
use Rattle.plan_commands.{specs.FaultListing.{IsFaultListOf}, proofs.FaultListed.{some_faults}}
use Rattle.fault_texts.specs.FaultListLines.{IsFaultsText}
use Rattle.net_check.specs.declared.check_error.CheckError.TheVariants as check_error
use Rattle.plan_commands.proofs.listing.faults_of_both.Goals as goal

pub returns-in_ok-lines-in-Fault-clause-answers : goal.returns-in_ok-lines-in-Fault-clause-answers
returns-in_ok-lines-in-Fault-clause-answers c =
    let name = c.args.name.now in
    let text = c.args.given.now.text.items in
    let plan = c.args.given.now.plan in
    let cert = c.args.certificate.now in
    let faults = c.in_ok-faults-in-Fault.faults.items in
    let all : AreAllFaults plan (Some cert) faults = search rules in
    let first : NamesFirstFault plan cert (check_error.Fault c.in-Fault.field-0) = search rules in
    let told : IsFaultsText plan name text faults (cow_str_bytes c.fault.result.text) = search rules in
    let list : IsFaultListOf name text plan cert (cow_str_bytes c.fault.result.text) =
    record { faults = faults; all = all; some = some_faults plan cert c.in-Fault.field-0 faults first all; written = told } in
    (c.fault.ensures.status, list)
