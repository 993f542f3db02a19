use Rattle.std.proofs.Common.{◌≡◌, ◌++◌, ◌∙◌, [], length, ap, subst, sym, arith}
use Rattle.plan_values.specs.declared.plan.Plan.{Plan}
use Rattle.net_questions.{specs.Reaching.{NeverCircles, AreHopsToEach, hops_in, pairs_from}, proofs.Listing.{flat_map_range_more}, proofs.Tables.{never_circles, are_pairs}}
use Rattle.net_questions.proofs.reaching.reach.Goals as goal

pub hops_to_each-requires : goal.hops_to_each-requires
hops_to_each-requires c = subst (λ p. NeverCircles p) (sym c.plan.ensures.plan) (never_circles c.args.checked.now.0 c.args.checked.now.1 c.plan.ensures.accepted)

pub loop-from-preserved : goal.loop-from-preserved
loop-from-preserved c =
    let table = c.in_ok-hops.hops.items in
    let f = pairs_from (length table) (hops_in table) in
    let added = rw c.deref.ensures.value at c.in_ok-add_pairs.ensures in
    added ∙ (ap (λ ps. ps ++ f c.loop-from.from) c.loop-from.invariant ∙ flat_map_range_more f [] c.loop-from.from)

pub returns : goal.returns
returns c =
    let table = c.in_ok-hops.hops.items in
    let each = subst (λ (p : Plan). AreHopsToEach p (length p.nodes.items) table) c.plan.ensures.plan c.in_ok-hops.ensures in
    let all : c.loop-from.from ≡ length table = omega arith in
    are_pairs c.args.checked.now.0 table each c.args.checked.now.1 c.plan.ensures.accepted c.loop-from.pairs.items c.loop-from.from all c.loop-from.invariant
