use Rattle.board_made.{specs.Numbers.{number_value}, specs.Renumbering.{takes}, proofs.Found.{value_found}}
use Rattle.board_made.proofs.renumbered.taker_in.Goals as goal

pub returns : goal.returns
returns c = value_found (takes (number_value c.args.own.now) c.args.eid) c.args.numbers.now _ c.first_taker.ensures
