use Rattle.std.proofs.Common.{arith}
use Rattle.net_rules.{specs.Circles.{MovesBy}, proofs.Circling.{no_circle_down, table_within}}
use Rattle.net_faults.{specs.Circles.{FallsFrom, height_in}, proofs.CircleLaws.{one_more_below}}
use Rattle.net_faults.proofs.circles.heights_fall.Goals as goal

pub loop-index-preserved : goal.loop-index-preserved
loop-index-preserved c = one_more_below (λ n. FallsFrom c.args.table.now c.args.heights.now n) c.loop-index.index c.loop-index.invariant (c.falls_from.ensures c.if-not-falls_from.false)

pub returns : goal.returns
returns c = λ _. no_circle_down (MovesBy c.args.table.now) (λ n. height_in c.args.heights.now n)
    (λ n p move. c.loop-index.invariant n (omega (arith, table_within c.args.table.now n p move, c.loop-index-test.false)) p move)
