use Rattle.std.proofs.Common.{Some, None}
use Rattle.json_commands.proofs.explained.explained_fault.Goals as goal

pub returns-in_ok-told_with_edits-in-Some : goal.returns-in_ok-told_with_edits-in-Some
returns-in_ok-told_with_edits-in-Some c =
    let told = c.in_ok-told_with_edits-in-Some in
    (told.ensures.0, (Some c.in-Some.cause, c.in-Some.ensures, told.ensures.1))

pub returns-in_ok-certificate_told-in-None : goal.returns-in_ok-certificate_told-in-None
returns-in_ok-certificate_told-in-None c =
    let told = c.in_ok-certificate_told-in-None in
    (told.ensures.0, (None, c.in-None.ensures, told.ensures.1))
