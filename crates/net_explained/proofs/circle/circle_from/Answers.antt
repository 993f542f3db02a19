use Rattle.std.{proofs.Common.{length, sym, arith, ◌-◌}, proofs.lemmas.List.{length_push, length-map}}
use Rattle.net_rules.{specs.Circles.{MovesBy}, proofs.Circling.{one_place_more, under_way_within, stands_there, ended_not_back, back_again}}
use Rattle.net_explained.{specs.Followers.{record_of_handle, followers}, proofs.FollowersOf.{circles_alike, loop_alike}}
use Rattle.net_explained.proofs.circle.circle_from.Goals as goal

pub loop-next-smaller : goal.loop-next-smaller
loop-next-smaller c =
    let table = followers c.args.records.now in
    let circle = circles_alike c.args.records.now c.requires.handles c.args.first c.requires.circle in
    let within = under_way_within table c.args.first c.loop-next.at c.loop-next.circle.items c.loop-next.invariant circle in
    let long = length_push c.loop-next.circle.items c.in-Some.next in
    let table_long = length-map c.args.records.now (λ r. record_of_handle c.args.records.now r.next) in
    let is = c.in_ok-push-2.ensures.items in
    rw is (omega arith)

pub loop-next-preserved : goal.loop-next-preserved
loop-next-preserved c =
    let more = one_place_more (MovesBy (followers c.args.records.now)) c.args.first c.loop-next.at c.in-Some.next c.loop-next.circle.items c.loop-next.invariant (sym c.in-Some.ensures) c.if-next-first.false in
    rw c.in_ok-push-2.ensures.items more

pub returns-then-next-first : goal.returns-then-next-first
returns-then-next-first c =
    let back = back_again (MovesBy (followers c.args.records.now)) c.args.first c.loop-next.at c.in-Some.next c.loop-next.circle.items c.loop-next.invariant (sym c.in-Some.ensures) c.if-next-first.true in
    rw c.in_ok-push-2.ensures.items (loop_alike c.args.records.now c.args.first _ back)

pub returns : goal.returns
returns c =
    let circle = circles_alike c.args.records.now c.requires.handles c.args.first c.requires.circle in
    let way = stands_there (MovesBy (followers c.args.records.now)) c.args.first c.loop-next.at c.loop-next.circle.items c.loop-next.invariant in
    absurd (ended_not_back (followers c.args.records.now) c.args.first (length c.loop-next.circle.items - 1) c.loop-next.at way (sym c.in_default.ensures) circle)
