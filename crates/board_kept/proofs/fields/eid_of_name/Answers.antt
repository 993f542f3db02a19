use Rattle.std.proofs.Common.{sym}
use Rattle.board_kept.proofs.More.{named_at}
use Rattle.board_kept.proofs.fields.eid_of_name.Goals as goal

pub returns-in-Some : goal.returns-in-Some
returns-in-Some c = named_at c.args.plan.now c.args.name.now c.args.index c.in-Some.node.now c.eid_if_named.result (sym c.in-Some.ensures) c.eid_if_named.ensures
