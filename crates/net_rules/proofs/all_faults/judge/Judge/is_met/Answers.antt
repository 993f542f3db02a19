use Rattle.net_tables.specs.Routing.{eid_number}
use Rattle.net_rules.proofs.FaultRuns.{demands_from, demands_to}
use Rattle.net_rules.proofs.all_faults.judge.Judge.is_met.Goals as goal

pub returns-then-is_met_by_plan : goal.returns-then-is_met_by_plan
returns-then-is_met_by_plan c =
    let judge = c.args.self.now in
    let eid = eid_number c.args.eid in (
      λ yes. demands_from judge.plan.now judge.ranks c.args.rule c.args.node c.args.entry eid (c.is_met_by_plan.ensures.0 c.if-is_met_by_plan.true) (c.is_met_by_certificate.ensures.0 yes),
      λ met. c.is_met_by_certificate.ensures.1 (demands_to judge.plan.now judge.ranks c.args.rule c.args.node c.args.entry eid met).1,
    )

pub returns-else-is_met_by_plan : goal.returns-else-is_met_by_plan
returns-else-is_met_by_plan c =
    let judge = c.args.self.now in
    (λ yes. absurd (cc (yes, c.if-is_met_by_plan.false)), λ met. c.is_met_by_plan.ensures.1 (demands_to judge.plan.now judge.ranks c.args.rule c.args.node c.args.entry (eid_number c.args.eid) met).0)
