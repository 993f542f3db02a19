use Rattle.std.proofs.Common.{refl}
use Rattle.net_rules.proofs.MoveOrder.{as_many_nodes}
use Rattle.net_rules.proofs.first_move_fault.meet_frames.Goals as goal

pub first_unlike_node-requires : goal.first_unlike_node-requires
first_unlike_node-requires c = as_many_nodes c.args.before.now c.args.after.now (c.if-not-have_same_frame.ensures.0 refl)
