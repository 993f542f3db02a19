use Rattle.std.{proofs.Common.{rules, true, arith, below_more}, proofs.lemmas.Option.{slice_get_within}}
use Rattle.toml.specs.View.{view}
use Rattle.board_values.specs.Owners.{IsOwnerFlagged}
use Rattle.board_values.proofs.owners.are_owners_flagged.Goals as goal

pub loop-node-preserved : goal.loop-node-preserved
loop-node-preserved c = below_more (λ n. IsOwnerFlagged (view c.args.board.now) c.args.above.now n) c.loop-node.node c.loop-node.invariant
    (c.is_owner_flagged.ensures (search rules))

pub returns : goal.returns
returns c = λ yes n at. c.loop-node.invariant n (omega (arith, slice_get_within c.args.above.now n true at, c.loop-node-test.false)) at
