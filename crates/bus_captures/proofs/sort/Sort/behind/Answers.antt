use Rattle.std.proofs.Common.{arith}
use Rattle.bus_captures.{proofs.LineLaws.{behind_is}, proofs.sort.Sort.behind.Goals.{then-loop-at-test+else-not-has, else-loop-at-test}}
use Rattle.bus_captures.proofs.sort.Sort.behind.Goals as goal

pub returns-clause-place : goal.returns-clause-place
returns-clause-place c =
    behind_is c.args.self c.args.text.now c.loop-at.at c.loop-at.invariant.0 c.loop-at.invariant.1
    (λ some. elim c.loop-at-test.branch [
      | then-loop-at-test+else-not-has w ↦ cc
      | else-loop-at-test w ↦ absurd (omega arith)
    ])
