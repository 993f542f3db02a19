use Rattle.std.{proofs.Common.{List, subst}, specs.Prelude.{IfOk}}
use Rattle.serde_json.specs.View.{view}
use Rattle.net_faults.specs.declared.plan_fault.PlanFault.{PlanFault}
use Rattle.json_commands.{specs.Faults.{IsFaultItem}, specs.Values.{IsListTold}}
use Rattle.json_commands.proofs.faults.obstacle_results.Goals as goal

pub returns : goal.returns
returns c =
    let given = c.args.given.now in
    let Told : List PlanFault → Type 0 = λ fs. IfOk c.fault_results.result (λ v. IsListTold (IsFaultItem c.args.form c.args.name.now given.text.items given.plan) fs (view v)) in
    subst Told c.from_ref.ensures.value c.fault_results.ensures
