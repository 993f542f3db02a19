use Rattle.std.{proofs.Common.{arith, inl, inr}, proofs.lemmas.Bool.{cases_lt}}
use Rattle.net_rules.{specs.Circles.{MovesBy}, proofs.Circling.{table_only, table_within}}
use Rattle.net_faults.{specs.Circles.{IsNotLeast}, proofs.CircleLaws.{none_below, one_more_below}}
use Rattle.net_faults.proofs.circles.first_on_circle.Goals as goal

pub returns-then-begins : goal.returns-then-begins
returns-then-begins c =
    let table = c.args.table.now in (
      c.in_ok-begins.ensures.yes c.if-begins.true,
      λ n circle. elim (cases_lt n c.loop-index.index) [
        | inl before ↦ absurd (none_below (MovesBy table) (table_only table) c.loop-index.index c.loop-index.invariant n before circle)
        | inr le ↦ le
      ],
    )

pub loop-index-preserved : goal.loop-index-preserved
loop-index-preserved c = one_more_below (λ n. IsNotLeast (MovesBy c.args.table.now) n) c.loop-index.index c.loop-index.invariant (c.in_ok-begins.ensures.no c.if-begins.false)

pub returns : goal.returns
returns c = λ n circle.
    let table = c.args.table.now in
    none_below (MovesBy table) (table_only table) c.loop-index.index c.loop-index.invariant n (omega (arith, table_within table n circle.1.0 circle.1.1, c.loop-index-test.false)) circle
