use Rattle.std.proofs.Common.{◌+◌, sym, arith, add-one}
use Rattle.net_rules.{specs.Circles.{MovesBy}, proofs.Circling.{one_more}, proofs.KnownEnds.{long_way, ends_soon, ends_behind}}
use Rattle.net_rules.proofs.certifying.walks.moves_to_end.Goals as goal

pub overflow_add-result : goal.overflow_add-result
overflow_add-result c =
    let ends = ends_behind c.args.table.now c.args.start c.loop-count.count c.loop-count.at c.in-Some.rest c.loop-count.invariant (c.requires c.loop-count.at c.in-Some.rest c.in-Some.ensures) in
    omega (arith, ends_soon c.args.table.now c.args.start (c.loop-count.count + c.in-Some.rest) ends)

pub returns-in-Some : goal.returns-in-Some
returns-in-Some c =
    ends_behind c.args.table.now c.args.start c.loop-count.count c.loop-count.at c.in-Some.rest c.loop-count.invariant (c.requires c.loop-count.at c.in-Some.rest c.in-Some.ensures)

pub loop-count-preserved : goal.loop-count-preserved
loop-count-preserved c = rw add-one (one_more (MovesBy c.args.table.now) c.args.start c.loop-count.count c.loop-count.at c.in-Some-next_of.next c.loop-count.invariant (sym c.in-Some-next_of.ensures))

pub returns : goal.returns
returns c = long_way c.args.table.now c.args.start c.loop-count.count c.loop-count.at c.loop-count.invariant (omega arith)
