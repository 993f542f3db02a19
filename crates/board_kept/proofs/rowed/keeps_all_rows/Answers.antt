use Rattle.std.proofs.Common.{rules}
use Rattle.board_kept.{specs.Rowed.{AreRowsOfNodeKept}, proofs.More.{one_more}}
use Rattle.board_kept.proofs.rowed.keeps_all_rows.Goals as goal

pub loop-node-preserved : goal.loop-node-preserved
loop-node-preserved c = one_more (λ n. AreRowsOfNodeKept c.args.before.now c.args.after.now n) c.loop-node.node c.loop-node.invariant
    (c.keeps_rows_of.ensures (search rules))
