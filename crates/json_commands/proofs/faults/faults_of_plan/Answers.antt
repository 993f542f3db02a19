use Rattle.std.proofs.Common.{rules, List, inr, subst}
use Rattle.serde_json.specs.View.{view}
use Rattle.net_faults.{specs.declared.plan_fault.PlanFault.{PlanFault}, specs.PlanFaults.{HasCertificate}}
use Rattle.json_commands.specs.Faults.{AreFaultsTold}
use Rattle.json_commands.proofs.faults.faults_of_plan.Goals as goal

pub returns : goal.returns
returns c =
    let plan = c.args.given.now.plan in
    let told = c.in_ok-faults_said in
    let Said : List PlanFault → Type 0 = λ faults. AreFaultsTold c.args.form c.args.name.now c.args.given.now.text.items plan faults (view told.field-0.value) in
    let none : ¬ HasCertificate plan = search rules in
    inr (told.ensures.0, none, (c.in_ok-faults.faults.items, c.in_ok-faults.ensures.listed, subst Said c.deref.ensures.value told.ensures.1))
