use Rattle.std.proofs.Common.{rules, ◌≡◌, None, sym, arith, add-one, suc}
use Rattle.net_rules.{specs.Circles.{MovesBy, next_in}, proofs.Circling.{short_way, one_more}}
use Rattle.net_questions.proofs.Tables.{no_circle, leads_by_rows, way_is_over, reached, stranded}
use Rattle.net_questions.proofs.hops.hops_from.Goals as goal

pub overflow_add-moves : goal.overflow_add-moves
overflow_add-moves c =
    let none = no_circle c.args.plan.now c.args.eid.value c.args.nexts.now c.requires.nexts c.requires.circles in
    let way = one_more (MovesBy c.args.nexts.now) c.args.from c.loop-next.moves c.loop-next.at c.in-Some.next c.loop-next.invariant (sym c.in-Some.ensures) in
    omega (arith, short_way c.args.nexts.now c.args.from (suc c.loop-next.moves) c.in-Some.next none way)

pub loop-next-smaller : goal.loop-next-smaller
loop-next-smaller c =
    let none = no_circle c.args.plan.now c.args.eid.value c.args.nexts.now c.requires.nexts c.requires.circles in
    let way = one_more (MovesBy c.args.nexts.now) c.args.from c.loop-next.moves c.loop-next.at c.in-Some.next c.loop-next.invariant (sym c.in-Some.ensures) in
    omega (arith, short_way c.args.nexts.now c.args.from (suc c.loop-next.moves) c.in-Some.next none way)

pub loop-next-preserved : goal.loop-next-preserved
loop-next-preserved c = rw add-one (one_more (MovesBy c.args.nexts.now) c.args.from c.loop-next.moves c.loop-next.at c.in-Some.next c.loop-next.invariant (sym c.in-Some.ensures))

pub returns-then-holds : goal.returns-then-holds
returns-then-holds c =
    reached c.args.plan.now c.args.eid.value c.args.from c.loop-next.moves c.loop-next.at
    (leads_by_rows c.args.plan.now c.args.eid.value c.args.nexts.now c.requires.nexts c.args.from c.loop-next.moves c.loop-next.at c.loop-next.invariant)
    (c.holds.ensures.0 c.if-holds.true)

pub returns-else-holds : goal.returns-else-holds
returns-else-holds c =
    let none : next_in c.args.nexts.now c.loop-next.at ≡ None = search rules in
    stranded c.args.plan.now c.args.eid.value c.args.from c.loop-next.moves c.loop-next.at
    (leads_by_rows c.args.plan.now c.args.eid.value c.args.nexts.now c.requires.nexts c.args.from c.loop-next.moves c.loop-next.at c.loop-next.invariant)
    (λ held. cc (c.holds.ensures.1 held, c.if-holds.false)) (way_is_over c.args.plan.now c.args.eid.value c.args.nexts.now c.requires.nexts c.loop-next.at none)
