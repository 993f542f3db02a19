use Rattle.toml.specs.View.{view}
use Rattle.board_made.proofs.Answered.{answered}
use Rattle.board_made.proofs.answer.answer_text.Goals as goal

pub returns-in_ok-answer_value-in-Ok : goal.returns-in_ok-answer_value-in-Ok
returns-in_ok-answer_value-in-Ok c = answered c.args.files.now c.args.text.now (view c.in-Ok.board) c.in_ok-answer_value-in-Ok.field-0 c.in-Ok.ensures
    c.in_ok-answer_value-in-Ok.ensures
