use Rattle.std.{proofs.Common.{length, sym, arith, ◌-◌}, proofs.lemmas.List.{length_push}}
use Rattle.net_rules.{specs.Circles.{MovesBy}, proofs.Circling.{one_place_more, under_way_within, stands_there, ended_not_back}}
use Rattle.net_rules.proofs.certifying.walks.loop_from.Goals as goal

pub loop-next-smaller : goal.loop-next-smaller
loop-next-smaller c =
    let within = under_way_within c.args.table.now c.args.start c.loop-next.at c.loop-next.places.items c.loop-next.invariant c.requires in
    let long = length_push c.loop-next.places.items c.in-Some.next in
    let is = c.in_ok-push-2.ensures.items in
    rw is (omega arith)

pub loop-next-preserved : goal.loop-next-preserved
loop-next-preserved c =
    let more = one_place_more (MovesBy c.args.table.now) c.args.start c.loop-next.at c.in-Some.next c.loop-next.places.items c.loop-next.invariant (sym c.in-Some.ensures) c.if-next-start.false in
    rw c.in_ok-push-2.ensures.items more

pub returns : goal.returns
returns c = absurd (ended_not_back c.args.table.now c.args.start (length c.loop-next.places.items - 1) c.loop-next.at (stands_there (MovesBy c.args.table.now) c.args.start c.loop-next.at c.loop-next.places.items c.loop-next.invariant) (sym c.in_default.ensures) c.requires)
