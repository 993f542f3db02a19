use Rattle.std.proofs.Common.{◌≡◌, length, refl, ◌∙◌, ap}
use Rattle.plan_values.specs.declared.plan.Plan.{Plan}
use Rattle.net_tables.specs.TwoPlans.{Tables}
use Rattle.mctp_transport.specs.Heard.{IsIdle}
use Rattle.net_sim.proofs.Dealt.{all_at, queues_long, no_flight_there, dealt_same, stands_at_rest, rest_is_start}
use Rattle.net_sim.proofs.traffic.Traffic.start.Goals as goal

pub invariant_of-result : goal.invariant_of-result
invariant_of-result g c = record {
  queued = queues_long _ c.in_ok-queues.queues.items c.plan-3.result.now.nodes.items _ c.in_ok-queues.ensures ∙ ap (λ (p : Plan). length p.nodes.items) c.plan-3.ensures.plan;
  assembled = c.in_ok-assemblers.ensures.many ∙ (c.len.ensures ∙ (c.plan-2.result.now.nodes.ok.0 ∙ ap (λ (p : Plan). length p.nodes.items) c.plan-2.ensures.plan));
  sized = λ n a is. (let h = all_at IsIdle c.in_ok-assemblers.assemblers.items c.in_ok-assemblers.ensures.idle n a is in (h.0, h.1));
  placed = λ number f is. absurd (no_flight_there _ number f c.in_ok-flights.ensures is);
}

pub returns-clause-at_rest : goal.returns-clause-at_rest
returns-clause-at_rest g c =
    let plan = c.args.accepted.0.plan in
    let same : c.plan-3.result.now ≡ plan = c.plan-3.ensures.plan ∙ ap (λ (t : Tables). t.plan) c.in_ok-router.ensures.tables in
    stands_at_rest plan _ _ c.in_ok-flights.ensures
    (λ n a is. (all_at IsIdle c.in_ok-assemblers.assemblers.items c.in_ok-assemblers.ensures.idle n a is).2)
    (c.in_ok-queues.ensures ∙ dealt_same _ _ _ _ _ (ap (λ (p : Plan). p.nodes.items) same) refl)
    c.in_ok-router.ensures.unswitched

pub returns-clause-stands : goal.returns-clause-stands
returns-clause-stands g c = λ planned. rest_is_start c.args.accepted.0.plan c.args.accepted.1 _ _ (returns-clause-at_rest g c) planned
