use Rattle.std.proofs.Common.{◌≡◌, ◌∙◌, map, subst, arith}
use Rattle.plan_texts.{specs.DifferenceLines.{DifferFirstAt}, proofs.Differing.{differ_here, same_here, differ_behind}}
use Rattle.plan_texts.proofs.differences.differing_index.Goals as goal

pub returns-then-ne-clause-differs : goal.returns-then-ne-clause-differs
returns-then-ne-clause-differs c = differ_here c.args.wanted.now c.args.came.now c.loop-index.index _ c.loop-index.invariant (omega arith) (omega arith) c.if-ne.ensures

pub loop-index-preserved : goal.loop-index-preserved
loop-index-preserved c = same_here c.args.wanted.now c.args.came.now c.loop-index.index _ c.loop-index.invariant (omega arith) (omega arith) c.if-ne.ensures

pub returns-clause-differs : goal.returns-clause-differs
returns-clause-differs c =
    let at_end : c.loop-index.index ≡ c.min-common.result = omega arith in
    subst (DifferFirstAt (map (λ line. line.now) c.args.wanted.now) (map (λ line. line.now) c.args.came.now)) at_end
    (differ_behind c.args.wanted.now c.args.came.now c.loop-index.index c.loop-index.invariant (at_end ∙ c.min-common.ensures) c.if-wanted-came.false)
