use Rattle.std.proofs.Common.{refl, ◌∙◌, ap, arith}
use Rattle.net_runs.specs.States.{unit_of}
use Rattle.net_sim.{specs.Networks.{checked_of}, specs.LackingRooms.{NetworkLacksRoom}, specs.Outcomes.{event_value}, proofs.PlayedRuns.{holds_of_next, played_start, played_plays, played_next, stopped_plays, stopped_after}, proofs.AsSent.{plays_as_sent}, proofs.PlayedWalks.{plays_walks, promised}, proofs.PutInBefore.{plays_what_was_put_in}}
use Rattle.net_sim.proofs.network.Network.run.Goals as goal

pub loop-event-init : goal.loop-event-init
loop-event-init g c =
    (refl, played_start (checked_of c.args.self.now).0 _ c.args.events.now _ c.in_ok-outcomes.ensures.items, c.in_ok-outcomes.ensures.capacity)

pub push_reserved-requires : goal.push_reserved-requires
push_reserved-requires g c =
    omega (arith, c.loop-event.invariant.1.long, c.loop-event.invariant.2, c.loop-event-test.true, c.loop-event.outcomes.ok.0)

pub loop-event-preserved : goal.loop-event-preserved
loop-event-preserved g c =
    let same = ap (λ r. r.0) c.loop-event.invariant.0 in (
      c.in-Ok.ensures.checked ∙ c.loop-event.invariant.0,
      played_next c.args.events.now c.loop-event.event-index c.event-item.result c.loop-event-test.true c.event-item.is (checked_of c.args.self.now).0 (checked_of c.loop-event.self).0 same
          _ _ _ _ _ c.in-Ok.outcome c.push_reserved.ensures.items c.loop-event.invariant.1 c.in-Ok.ensures.plays,
      omega (arith, c.loop-event.invariant.2, c.push_reserved.ensures.capacity),
    )

pub returns-in-Err-clause-checked : goal.returns-in-Err-clause-checked
returns-in-Err-clause-checked g c = c.in-Err.ensures.checked ∙ c.loop-event.invariant.0

pub returns-in-Err-clause-plays : goal.returns-in-Err-clause-plays
returns-in-Err-clause-plays g c =
    let same = ap (λ r. r.0) c.loop-event.invariant.0 in
    stopped_plays c.args.events.now c.loop-event.event-index c.event-item.result c.loop-event-test.true c.event-item.is (checked_of c.args.self.now).0 (checked_of c.loop-event.self).0 same
    _ _ _ _ c.loop-event.invariant.1 c.in-Err.ensures.plays

pub returns-in-Err-clause-exact : goal.returns-in-Err-clause-exact
returns-in-Err-clause-exact g c = plays_as_sent (unit_of (checked_of c.args.self.now).0.plan) (checked_of c.args.self.now).0 _ _ _ _ (returns-in-Err-clause-plays g c)

pub returns-in-Err-clause-walks : goal.returns-in-Err-clause-walks
returns-in-Err-clause-walks g c =
    plays_walks (checked_of c.args.self.now).0 (checked_of c.args.self.now).1 _ _ _ _ c.plan-plan.ensures.accepted (returns-in-Err-clause-plays g c)

pub returns-in-Err-clause-stopped : goal.returns-in-Err-clause-stopped
returns-in-Err-clause-stopped g c = λ stopped.
    let same = ap (λ r. r.0) c.loop-event.invariant.0 in
    stopped_after c.args.events.now c.loop-event.event-index c.event-item.result c.loop-event-test.true c.event-item.is (checked_of c.args.self.now).0 (checked_of c.loop-event.self).0 same
    _ _ _ _ c.loop-event.invariant.1 c.in-Err.ensures.plays

pub returns-clause-checked : goal.returns-clause-checked
returns-clause-checked g c = c.loop-event.invariant.0

pub returns-clause-plays : goal.returns-clause-plays
returns-clause-plays g c = played_plays (checked_of c.args.self.now).0 _ _ c.args.events.now c.loop-event.event-index _ c.loop-event.invariant.1

pub returns-clause-exact : goal.returns-clause-exact
returns-clause-exact g c = plays_as_sent (unit_of (checked_of c.args.self.now).0.plan) (checked_of c.args.self.now).0 _ _ _ _ (returns-clause-plays g c)

pub returns-clause-walks : goal.returns-clause-walks
returns-clause-walks g c = plays_walks (checked_of c.args.self.now).0 (checked_of c.args.self.now).1 _ _ _ _ c.plan-plan.ensures.accepted (returns-clause-plays g c)

pub returns-clause-whole : goal.returns-clause-whole
returns-clause-whole g c = λ whole. omega (arith, c.loop-event.invariant.1.long)

pub returns-in_err-outcomes-clause-promises : goal.returns-in_err-outcomes-clause-promises
returns-in_err-outcomes-clause-promises g c = promised (checked_of c.args.self.now).0 (checked_of c.args.self.now).1 c.plan-plan.ensures.accepted

pub returns-in-Err-clause-promises : goal.returns-in-Err-clause-promises
returns-in-Err-clause-promises g c = promised (checked_of c.args.self.now).0 (checked_of c.args.self.now).1 c.plan-plan.ensures.accepted

pub returns-clause-promises : goal.returns-clause-promises
returns-clause-promises g c = promised (checked_of c.args.self.now).0 (checked_of c.args.self.now).1 c.plan-plan.ensures.accepted

pub returns-in-Err-clause-joins : goal.returns-in-Err-clause-joins
returns-in-Err-clause-joins g c =
    plays_what_was_put_in (checked_of c.args.self.now).0 (checked_of c.args.self.now).1 _ _ _ _ c.plan-plan.ensures.accepted (returns-in-Err-clause-plays g c)

pub returns-clause-joins : goal.returns-clause-joins
returns-clause-joins g c =
    plays_what_was_put_in (checked_of c.args.self.now).0 (checked_of c.args.self.now).1 _ _ _ _ c.plan-plan.ensures.accepted (returns-clause-plays g c)

pub returns-in-Err-clause-lacks : goal.returns-in-Err-clause-lacks
returns-in-Err-clause-lacks g c = λ stopped.
    holds_of_next c.args.events.now c.loop-event.event-index c.event-item.result c.loop-event-test.true c.event-item.is _ c.loop-event.invariant.1.long
    (λ event. NetworkLacksRoom c.step.new.self (event_value event)) c.in-Err.ensures.lacks
