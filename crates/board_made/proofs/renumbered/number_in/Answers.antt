use Rattle.board_made.{specs.Numbers.{number_value}, specs.Renumbering.{same_thing}, proofs.Found.{value_found}}
use Rattle.board_made.proofs.renumbered.number_in.Goals as goal

pub returns : goal.returns
returns c = value_found (same_thing (number_value c.args.wanted.now)) c.args.numbers.now _ c.first_of_one.ensures
