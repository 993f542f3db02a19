use Rattle.std.proofs.Common.{List, subst}
use Rattle.serde_json.specs.View.{view}
use Rattle.net_faults.specs.declared.plan_fault.PlanFault.{PlanFault}
use Rattle.json_commands.specs.Faults.{AreFaultsTold}
use Rattle.json_commands.proofs.faults.faults_of_both.Goals as goal

pub returns : goal.returns
returns c =
    let told = c.in_ok-faults_said in
    let Said : List PlanFault → Type 0 = λ faults. AreFaultsTold c.args.form c.args.name.now c.args.given.now.text.items c.args.given.now.plan faults (view told.field-0.value) in
    (told.ensures.0, (c.in_ok-faults.faults.items, c.in_ok-faults.ensures, subst Said c.deref.ensures.value told.ensures.1))
