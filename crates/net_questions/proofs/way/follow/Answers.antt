use Rattle.std.{proofs.Common.{ap, arith, length, subst, ◌∙◌}, proofs.lemmas.List.{length_push}}
use Rattle.mctp_routing.specs.declared.decision.Decision.TheVariants.{Drop, Forward}
use Rattle.net_questions.{specs.Ways.{DoesAfter}, proofs.WayLaws.{one_step_more, steps_within}}
use Rattle.net_questions.proofs.way.follow.Goals as goal

pub loop-hop-smaller : goal.loop-hop-smaller
loop-hop-smaller c =
    let plan = c.args.checked.now.0 in
    let e = c.args.eid.value in
    let steps = c.loop-hop.steps.items in
    let hop = c.in-Forward.hop in
    let sent = subst (λ p. DoesAfter p e c.len.result c.loop-hop.last (Forward hop)) c.plan-plan.ensures.plan c.in-Forward.ensures in
    let more = one_step_more plan e 0 c.args.from steps c.loop-hop.last c.len.result hop (omega (arith, c.len.ensures, c.loop-hop.steps.ok.0)) c.loop-hop.invariant sent in
    let within = steps_within plan c.args.checked.now.1 e c.args.from _ hop.next c.plan-plan.ensures.accepted more in
    omega (arith, within, length_push steps (record { node = c.loop-hop.last; hop = hop }), ap length c.in_ok-push-in-Forward.ensures.items)

pub loop-hop-preserved : goal.loop-hop-preserved
loop-hop-preserved c =
    let plan = c.args.checked.now.0 in
    let e = c.args.eid.value in
    let hop = c.in-Forward.hop in
    let sent = subst (λ p. DoesAfter p e c.len.result c.loop-hop.last (Forward hop)) c.plan-plan.ensures.plan c.in-Forward.ensures in
    rw c.in_ok-push-in-Forward.ensures.items
    (one_step_more plan e 0 c.args.from c.loop-hop.steps.items c.loop-hop.last c.len.result hop (omega (arith, c.len.ensures, c.loop-hop.steps.ok.0)) c.loop-hop.invariant sent)

pub returns-in-Here-clause-within : goal.returns-in-Here-clause-within
returns-in-Here-clause-within c =
    steps_within c.args.checked.now.0 c.args.checked.now.1 c.args.eid.value c.args.from c.loop-hop.steps.items c.loop-hop.last c.plan-plan.ensures.accepted c.loop-hop.invariant

pub returns-in-Drop-clause-way : goal.returns-in-Drop-clause-way
returns-in-Drop-clause-way c =
    let e = c.args.eid.value in
    let why = c.in-Drop.why in
    let long = c.len.ensures ∙ c.loop-hop.steps.ok.0 in
    let does = subst (λ p. DoesAfter p e c.len.result c.loop-hop.last (Drop why)) c.plan-plan.ensures.plan c.in-Drop.ensures in
    record { follows = c.loop-hop.invariant; ends = subst (λ k. DoesAfter c.args.checked.now.0 e k c.loop-hop.last (Drop why)) long does }

pub returns-in-Drop-clause-within : goal.returns-in-Drop-clause-within
returns-in-Drop-clause-within c =
    steps_within c.args.checked.now.0 c.args.checked.now.1 c.args.eid.value c.args.from c.loop-hop.steps.items c.loop-hop.last c.plan-plan.ensures.accepted c.loop-hop.invariant
