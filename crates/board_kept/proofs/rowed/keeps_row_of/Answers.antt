use Rattle.std.{proofs.Common.{◌∙◌, subst}, proofs.lemmas.Option.{same_Some}}
use Rattle.board_kept.specs.Rowed.{HasTheRow}
use Rattle.board_kept.proofs.rowed.keeps_row_of.Goals as goal

pub returns-in-Some : goal.returns-in-Some
returns-in-Some c = λ yes row at. subst (λ own. HasTheRow c.args.after.now c.args.node own) (same_Some c.in-Some.row.now row (c.in-Some.ensures ∙ at))
    (c.has_the_row.ensures yes)
