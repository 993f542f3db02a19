use Rattle.toml.specs.View.{view}
use Rattle.board_values.proofs.Owning.{without_end}
use Rattle.board_values.proofs.owners.leads_up_without_end.Goals as goal

pub returns-then-is_set : goal.returns-then-is_set
returns-then-is_set c = λ yes k. without_end (view c.args.board.now) c.args.above.now (c.are_owners_flagged.ensures yes) c.args.node
    (c.is_set.ensures c.if-is_set.true) k
