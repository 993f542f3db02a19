use Rattle.std.proofs.Common.{◌≡◌, ℕ, None, refl, ap, inl, inr, arith}
use Rattle.plan_values.specs.declared.plan.Plan.{Plan}
use Rattle.net_tables.specs.Routing.{Holds}
use Rattle.net_runs.specs.Walkers.{IsThere}
use Rattle.net_sim.{proofs.Begins.{is_there, is_among, begins_twice, begins_without_terminus, begins_with_wrong_count, may_begin}, proofs.network.Network.why_not_begin.Goals.{then-count-lt-LEAST_COUNT-via-then-count-lt-LEAST_COUNT, then-count-lt-LEAST_COUNT-via-else-count-lt-LEAST_COUNT+then-five_packets-count}}
use Rattle.net_sim.proofs.network.Network.why_not_begin.Goals as goal

pub returns-then-has_walker-clause-first : goal.returns-then-has_walker-clause-first
returns-then-has_walker-clause-first g c = λ w s.
    let now = c.args.self.now in
    begins_twice now.traffic.router.tables w c.args.node c.args.eid.value c.args.tag.value c.args.count (c.has_node.ensures.0 c.if-not-has_node.false)
    (is_there _ w s now.walkers.items refl c.args.node c.args.eid.value c.args.tag.value (c.has_walker.ensures.0 c.if-has_walker.true))

pub returns-then-no_terminus_holds-clause-first : goal.returns-then-no_terminus_holds-clause-first
returns-then-no_terminus_holds-clause-first g c = λ w s.
    let now = c.args.self.now in
    let new : ¬ IsThere w c.args.node c.args.eid.value c.args.tag.value = λ there. (
    let told = c.has_walker.ensures.1 (is_among _ w s now.walkers.items refl c.args.node c.args.eid.value c.args.tag.value there) in
    absurd (cc (told, c.if-has_walker.false))) in
    begins_without_terminus now.traffic.router.tables w c.args.node c.args.eid.value c.args.tag.value c.args.count (c.has_node.ensures.0 c.if-not-has_node.false) new
    ((c.no_terminus_holds.ensures w.network s.network).0 c.if-no_terminus_holds.true)

pub returns-then-count-lt-LEAST_COUNT-clause-first : goal.returns-then-count-lt-LEAST_COUNT-clause-first
returns-then-count-lt-LEAST_COUNT-clause-first g c = λ w s.
    let now = c.args.self.now in
    let new : ¬ IsThere w c.args.node c.args.eid.value c.args.tag.value = λ there. (
    let told = c.has_walker.ensures.1 (is_among _ w s now.walkers.items refl c.args.node c.args.eid.value c.args.tag.value there) in
    absurd (cc (told, c.if-has_walker.false))) in
    let some : ¬ ((n : ℕ) → Holds now.traffic.router.tables.plan n c.args.eid.value → w.network.terminus n ≡ None) = λ none. (
    let told = (c.no_terminus_holds.ensures w.network s.network).1 none in
    absurd (cc (told, c.if-no_terminus_holds.false))) in
    begins_with_wrong_count now.traffic.router.tables w c.args.node c.args.eid.value c.args.tag.value c.args.count (c.has_node.ensures.0 c.if-not-has_node.false) new some
    (elim c.then-count-lt-LEAST_COUNT.branch [
      | then-count-lt-LEAST_COUNT-via-then-count-lt-LEAST_COUNT b ↦ inl (omega (arith, b.if-count-lt-LEAST_COUNT.true))
      | then-count-lt-LEAST_COUNT-via-else-count-lt-LEAST_COUNT+then-five_packets-count b ↦ inr (omega (arith, b.five_packets.ensures.count, ap (λ (p : Plan). p.unit) b.plan.ensures.plan, b.if-five_packets-count.true))
    ])

pub returns-clause-first : goal.returns-clause-first
returns-clause-first g c = λ w s.
    let now = c.args.self.now in
    let new : ¬ IsThere w c.args.node c.args.eid.value c.args.tag.value = λ there. (
    let told = c.has_walker.ensures.1 (is_among _ w s now.walkers.items refl c.args.node c.args.eid.value c.args.tag.value there) in
    absurd (cc (told, c.if-has_walker.false))) in
    let some : ¬ ((n : ℕ) → Holds now.traffic.router.tables.plan n c.args.eid.value → w.network.terminus n ≡ None) = λ none. (
    let told = (c.no_terminus_holds.ensures w.network s.network).1 none in
    absurd (cc (told, c.if-no_terminus_holds.false))) in
    may_begin now.traffic.router.tables w c.args.node c.args.eid.value c.args.tag.value c.args.count (c.has_node.ensures.0 c.if-not-has_node.false) new some
    (omega (arith, c.if-count-lt-LEAST_COUNT.false)) (omega (arith, c.five_packets.ensures.count, ap (λ (p : Plan). p.unit) c.plan.ensures.plan, c.if-five_packets-count.false))
