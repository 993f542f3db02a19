use Rattle.std.proofs.Common.{List, [], ◌∷◌, ◌++◌, subst, sym}
use Rattle.net_rules.{specs.declared.fault_run.FaultRun.{FaultRun}, specs.Faults.{order_of, order_of_number}, specs.FaultLists.{AreFaultsBefore}, proofs.FaultRuns.{alone_passed, alone_pushed}}
use Rattle.net_rules.proofs.all_faults.add_alone.Goals as goal

pub returns-then-is_met_alone : goal.returns-then-is_met_alone
returns-then-is_met_alone c =
    let site = c.args.site.now in
    let judge = site.judge.now in
    alone_passed judge.plan.now judge.ranks site.rule site.node site.entry c.args.runs.now.items (c.is_met_alone.ensures.0 c.if-is_met_alone.true) c.requires

pub returns : goal.returns
returns c =
    let site = c.args.site.now in
    let judge = site.judge.now in
    let B : List FaultRun → Type 0 = AreFaultsBefore judge.plan.now judge.ranks (order_of site.rule ∷ site.node ∷ order_of_number site.entry ∷ 1 ∷ []) in
    let R : FaultRun → Type 0 = λ run. B (c.args.runs.now.items ++ run ∷ []) in
    subst B (sym c.in_ok-push.ensures.items)
    (subst R (sym c.run.ensures)
    (alone_pushed judge.plan.now judge.ranks site.rule site.node site.entry c.args.runs.now.items (λ met. cc (c.is_met_alone.ensures.1 met, c.if-is_met_alone.false)) c.requires))
