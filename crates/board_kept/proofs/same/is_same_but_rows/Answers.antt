use Rattle.board_kept.proofs.SameFrames.{same_but_rows}
use Rattle.net_rules.proofs.MoveOrder.{as_many_nodes}
use Rattle.board_kept.proofs.same.is_same_but_rows.Goals as goal

pub first_unlike_node-requires : goal.first_unlike_node-requires
first_unlike_node-requires c = as_many_nodes c.args.before.now c.args.after.now (c.have_same_frame.ensures.0 c.if-have_same_frame.true)

pub returns-then-have_same_frame : goal.returns-then-have_same_frame
returns-then-have_same_frame c =
    same_but_rows c.args.before.now c.args.after.now c.first_unlike_node.result c.is_none.result (c.have_same_frame.ensures.0 c.if-have_same_frame.true) c.first_unlike_node.ensures
    c.is_none.ensures
