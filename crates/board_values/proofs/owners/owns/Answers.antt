use Rattle.board_values.proofs.owners.owns.Goals as goal

pub returns-in-Some : goal.returns-in-Some
returns-in-Some c = λ yes. (c.in-Some.name.now, c.in-Some.ensures, c.says_text_at.ensures yes)
