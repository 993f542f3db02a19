use Rattle.board_made.proofs.rowed.answer_rows.Goals as goal

pub as_it_stands-requires-clause-whole : goal.as_it_stands-requires-clause-whole
as_it_stands-requires-clause-whole c = c.in_ok-is_whole.ensures.0 c.if-branch.true
