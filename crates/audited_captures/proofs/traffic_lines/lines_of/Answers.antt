use Rattle.std.{proofs.Common.{subst, map, []}, specs.Prelude.{IfOk, Option, option_map}}
use Rattle.plan_values.specs.declared.plan.Plan.{Plan}
use Rattle.audited_captures.{specs.Judging.{unplanned_value}, specs.Lines.{line_value}, specs.Packets.{numbered_packet}, specs.Traffic.{IsJudged}, specs.TrafficLines.{IsOneLine}, specs.declared.traffic.Unplanned.{Unplanned}, proofs.TrafficLaws.{some_lines}}
use Rattle.audited_captures.proofs.traffic_lines.lines_of.Goals as goal

pub returns-in-Some : goal.returns-in-Some
returns-in-Some c =
    let plan = c.args.checked.now.0 in
    let f = numbered_packet c.args.first.now in
    let why = c.in-Some.why in
    let judged = subst (λ (w : Option Unplanned). IsJudged plan c.args.bus f.source f.destination (option_map unplanned_value w)) c.in-Some.is c.in_ok-why.ensures in
    let line = subst (λ (p : Plan). IfOk c.line_of.result (λ ls. IsOneLine p f c.args.count (unplanned_value why) (map line_value ls.items))) c.plan.ensures.plan c.line_of.ensures in
    some_lines plan c.args.bus [] (λ ls. map line_value ls.items) f c.args.count (unplanned_value why) c.line_of.result judged line
