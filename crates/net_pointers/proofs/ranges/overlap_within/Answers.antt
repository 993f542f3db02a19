use Rattle.std.{proofs.Common.{◌≤◌, ◌<◌, arith, subst}, proofs.lemmas.Grind.{common_steps}}
use Rattle.net_pointers.proofs.Overlaps.{first_here, none_more}
use Rattle.net_pointers.proofs.ranges.overlap_within.Goals as goal

pub loop-index-preserved : goal.loop-index-preserved
loop-index-preserved c =
    let up_to : c.loop-index.end ≤ c.first_in_range.result = omega (arith, c.if-first_in_range-end.false) in
    (grind (arith, common_steps), λ none. absurd (omega (arith, none)), λ j d before. grind (arith, common_steps), none_more c.args.ranges.now c.loop-index.index c.loop-index.end c.first_in_range.result c.index-ranges-index.result c.loop-index-test.true c.index-ranges-index.is c.loop-index.invariant.2 c.first_in_range.ensures up_to c.loop-index.invariant.3)

pub returns-then-first_in_range-end-clause-found : goal.returns-then-first_in_range-end-clause-found
returns-then-first_in_range-end-clause-found c = first_here c.args.ranges.now c.loop-index.index c.loop-index.end c.index-ranges-index.result c.loop-index-test.true c.index-ranges-index.is c.loop-index.invariant.1 c.loop-index.invariant.2 c.loop-index.invariant.3 (subst (λ n. n < c.loop-index.end) c.first_in_range.ensures c.if-first_in_range-end.true)
