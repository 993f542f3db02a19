use Rattle.std.proofs.Common.{subst}
use Rattle.board_kept.specs.Rowed.{IsSameButRows, AreRowsOfAllKept}
use Rattle.board_kept.proofs.rowed.is_kept.Goals as goal

pub returns-then-is_same_but_rows : goal.returns-then-is_same_but_rows
returns-then-is_same_but_rows c = λ yes. record {
  accepted = c.plan-plan.ensures.accepted;
  same = subst (λ p. IsSameButRows c.args.before.now p) c.plan-plan.ensures.plan (c.is_same_but_rows.ensures c.if-is_same_but_rows.true);
  rows = subst (λ p. AreRowsOfAllKept c.args.before.now p) c.plan-plan.ensures.plan (c.keeps_all_rows.ensures yes);
}
