use Rattle.std.proofs.Common.{refl, sym}
use Rattle.net_tables.{specs.Routing.{IsBridge}, proofs.PoolsOf.{in_pool_of}}
use Rattle.net_rules.specs.Pools.{IsPoolInRange}
use Rattle.net_explained.proofs.PoolFaults.{bridge_first, range_next, beyond_owners, meets_earlier, all_lawful, end_within}
use Rattle.net_explained.proofs.causes.pools.unlawful_pool.Goals as goal

pub returns-then-not-is_bridge-clause-cause : goal.returns-then-not-is_bridge-clause-cause
returns-then-not-is_bridge-clause-cause c =
    let none : ¬ IsBridge c.args.plan.now c.args.node = λ bridge. cc (c.is_bridge.ensures.1 bridge, c.if-not-is_bridge.true) in
    ((refl, (c.args.pool, c.requires, none)), bridge_first c.args.plan.now c.args.node c.args.pool c.requires none)

pub returns-then-not-is_pool_in_range-clause-cause : goal.returns-then-not-is_pool_in_range-clause-cause
returns-then-not-is_pool_in_range-clause-cause c =
    let none : ¬ IsPoolInRange c.args.pool = λ range. cc (c.is_pool_in_range.ensures.1 range, c.if-not-is_pool_in_range.true) in
    ((refl, (c.args.pool, c.requires, none)), range_next c.args.plan.now c.args.node c.args.pool c.requires none)

pub beyond_owners-requires : goal.beyond_owners-requires
beyond_owners-requires c = end_within c.args.plan.now c.args.node c.args.pool c.requires (c.is_pool_in_range.ensures.0 c.if-not-is_pool_in_range.false)

pub returns-in-Some-clause-cause : goal.returns-in-Some-clause-cause
returns-in-Some-clause-cause c =
    let plan = c.args.plan.now in
    let e = c.in-Some.eid.value in
    let beyond = c.in-Some.ensures in
    let inside = (in_pool_of plan c.args.node e c.args.pool (sym c.requires)).0 beyond.1 in
    ((refl, (inside, beyond.0, beyond.2)), beyond_owners plan c.args.node c.args.pool c.requires c.in-Some.owner e beyond.0 beyond.1 beyond.2)

pub returns-in-Some-earlier_meeting-clause-cause : goal.returns-in-Some-earlier_meeting-clause-cause
returns-in-Some-earlier_meeting-clause-cause c =
    let plan = c.args.plan.now in
    let m = c.in-Some-earlier_meeting.earlier in
    let e = c.in-Some-earlier_meeting.eid.value in
    let found = c.in-Some-earlier_meeting.ensures in
    let inside = (in_pool_of plan c.args.node e c.args.pool (sym c.requires)).0 found.1.1 in
    ((refl, (found.0, found.1.0, inside, found.1.2)), meets_earlier plan c.args.node c.args.pool c.requires m e found.0 found.1.0 found.1.1 found.1.2)

pub returns-in-None-earlier_meeting-clause-cause : goal.returns-in-None-earlier_meeting-clause-cause
returns-in-None-earlier_meeting-clause-cause c =
    all_lawful c.args.plan.now c.args.node c.args.pool c.requires (c.is_bridge.ensures.0 c.if-not-is_bridge.false) (c.is_pool_in_range.ensures.0 c.if-not-is_pool_in_range.false) c.in-None.ensures
    c.in-None-earlier_meeting.ensures
