use Rattle.std.proofs.Common.{inr, subst}
use Rattle.board_kept.specs.Kept.{IsAmongRows}
use Rattle.board_kept.proofs.nodes.keeps_row_at.Goals as goal

pub returns-in_ok-is_among_rows-in-Some : goal.returns-in_ok-is_among_rows-in-Some
returns-in_ok-is_among_rows-in-Some c = λ yes. inr (subst (λ o. IsAmongRows c.args.plan.now c.args.rows.now o) c.in-Some.ensures
    (c.in_ok-is_among_rows-in-Some.ensures yes))
