use Rattle.std.{proofs.Common.{sym, ◌∙◌, refl, ap, arith, add-one, Some}, proofs.lemmas.Bool.{false≢true}}
use Rattle.net_rules.{specs.Circles.{MovesBy}, proofs.Circling.{not_back_more, never_back, ended_not_back, one_more}}
use Rattle.net_rules.proofs.certifying.walks.is_on_circle.Goals as goal

pub returns-in_default : goal.returns-in_default
returns-in_default c = (
  λ e. absurd (false≢true e),
  λ circle. absurd (ended_not_back c.args.table.now c.args.start c.loop-count._count c.loop-count.at c.loop-count.invariant.way (sym c.in_default.ensures) circle),
)

pub returns-then-next-start : goal.returns-then-next-start
returns-then-next-start c = (
  λ _.
      let move : MovesBy c.args.table.now c.loop-count.at c.args.start = sym c.in-Some.ensures ∙ ap Some c.if-next-start.true in
      (c.loop-count._count, one_more (MovesBy c.args.table.now) c.args.start c.loop-count._count c.loop-count.at c.args.start c.loop-count.invariant.way move),
  λ _. refl,
)

pub loop-count-preserved : goal.loop-count-preserved
loop-count-preserved c = record {
  way = rw add-one (one_more (MovesBy c.args.table.now) c.args.start c.loop-count._count c.loop-count.at c.in-Some.next c.loop-count.invariant.way (sym c.in-Some.ensures));
  none = not_back_more c.args.table.now c.args.start c.loop-count._count c.loop-count.at c.in-Some.next c.loop-count.invariant.none c.loop-count.invariant.way (sym c.in-Some.ensures) c.if-next-start.false;
}

pub returns : goal.returns
returns c = (
  λ e. absurd (false≢true e),
  λ circle. absurd (never_back c.args.table.now c.args.start c.loop-count._count c.loop-count.invariant.none (omega arith) circle),
)
