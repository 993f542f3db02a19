use Rattle.std.proofs.Common.{sym}
use Rattle.board_kept.proofs.rowed.is_the_row.Goals as goal

pub returns-in-Some : goal.returns-in-Some
returns-in-Some c = λ yes. (c.args.index, c.in-Some.own.now, sym c.in-Some.ensures, c.is_same_row.ensures yes)
