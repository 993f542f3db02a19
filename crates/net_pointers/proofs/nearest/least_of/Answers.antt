use Rattle.std.proofs.Common.{rules, ◌<◌, ◌≤◌, get_or, arith}
use Rattle.net_pointers.{proofs.Least.{one_more, first_more}, proofs.nearest.least_of.Goals.{then-count-counts, else-count-counts}}
use Rattle.net_pointers.proofs.nearest.least_of.Goals as goal

pub loop-index-preserved : goal.loop-index-preserved
loop-index-preserved c =
    let xs = c.args.counts.now in
    let old = c.loop-index.least in
    let index = c.loop-index.index in
    elim c.if-count-counts.branch [
      | then-count-counts w ↦
          let below : get_or xs index 0 < get_or xs old 0 = search (rules, w.if-count-counts) in
          rw w.least-is (c.loop-index-test.true, one_more xs old index index c.loop-index-test.true c.loop-index.invariant.1 (omega arith) (omega arith), first_more xs old index c.loop-index.invariant.1 below, omega arith)
      | else-count-counts w ↦
          let above : get_or xs old 0 ≤ get_or xs index 0 = search (rules, w.if-count-counts) in
          rw w.least-is (c.loop-index.invariant.0, one_more xs old old index c.loop-index-test.true c.loop-index.invariant.1 (omega arith) above, c.loop-index.invariant.2, omega (arith, c.loop-index.invariant.3))
    ]

pub returns-clause-least : goal.returns-clause-least
returns-clause-least c = λ k d within. c.loop-index.invariant.1 k d (search (rules, within))
