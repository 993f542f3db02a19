use Rattle.std.{proofs.Common.{ℕ, List, [], ◌∷◌, sym, subst, arith, rules}, specs.Prelude.{Option}}
use Rattle.plan_values.{specs.declared.certificate.Certificate.{Certificate}, specs.declared.plan.Plan.{Plan}}
use Rattle.net_rules.{specs.declared.fault_run.FaultRun.{FaultRun}, specs.FaultLists.{AreFaults, AreFaultsBefore}, proofs.FaultRuns.{none_yet, all_faults}, proofs.RuleOrder.{order_at}}
use Rattle.net_rules.proofs.all_faults.faults.Goals as goal

pub loop-rule-init : goal.loop-rule-init
loop-rule-init c =
    let judge = c.in_ok-judge.judge in
    let B : List FaultRun → Type 0 = AreFaultsBefore judge.plan.now judge.ranks (0 ∷ []) in
    subst B (sym (search rules)) (none_yet judge.plan.now judge.ranks)

pub add_of_rule-requires : goal.add_of_rule-requires
add_of_rule-requires c =
    let judge = c.in_ok-judge.judge in
    let B : ℕ → Type 0 = λ k. AreFaultsBefore judge.plan.now judge.ranks (k ∷ []) c.loop-rule.runs.items in
    subst B (sym (order_at c.loop-rule.rule-index _ c.loop-rule-test.true)) c.loop-rule.invariant

pub loop-rule-preserved : goal.loop-rule-preserved
loop-rule-preserved c = rw (order_at c.loop-rule.rule-index _ c.loop-rule-test.true) at c.in_ok-add_of_rule.ensures

pub returns : goal.returns
returns c =
    let judge = c.in_ok-judge.judge in
    let runs = c.loop-rule.runs.items in
    let P : Plan → Type 0 = λ plan. AreFaults plan judge.ranks runs in
    let C : Option Certificate → Type 0 = λ cert. AreFaults c.args.plan.now cert runs in
    subst C c.in_ok-judge.ensures.1 (subst P c.in_ok-judge.ensures.0 (all_faults judge.plan.now judge.ranks c.loop-rule.rule-index runs (omega arith) c.loop-rule.invariant))
