use Rattle.std.proofs.Common.{rules, sym}
use Rattle.board_kept.proofs.nodes.is_row_at.Goals as goal

pub returns-in_ok-row_text-in-Some : goal.returns-in_ok-row_text-in-Some
returns-in_ok-row_text-in-Some c = λ yes. (c.args.index, c.in-Some.row.now, sym c.in-Some.ensures, search rules)
