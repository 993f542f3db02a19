use Rattle.std.{proofs.Common.{rules, ◌≡◌, true}, specs.Char.{is_ascii_digit}, specs.List.{list_all}}
use Rattle.command_answers.proofs.Ends.{no_number}
use Rattle.command_answers.proofs.naming.ends.eid_of_word.Goals as goal

pub returns-in-Err : goal.returns-in-Err
returns-in-Err c =
    let digits : list_all is_ascii_digit c.args.word.now ≡ true = search rules in
    no_number c.args.word.now c.in-Err.field-0 c.in-Err.ensures.value.0 digits
