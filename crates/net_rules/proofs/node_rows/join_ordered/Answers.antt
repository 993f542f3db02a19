use Rattle.std.proofs.Common.{Option, subst}
use Rattle.net_rules.{specs.declared.spans.Joined.{Joined}, specs.Spans.{AreJoined}, proofs.SpanLaws.{no_turn}}
use Rattle.net_rules.proofs.node_rows.join_ordered.Goals as goal

pub unreachable-requires : goal.unreachable-requires
unreachable-requires c =
    let A : Option Joined → Type 0 = AreJoined c.args.rows.now in
    no_turn c.args.rows.now c.requires (subst A c.in-None.is c.in_ok-joined.ensures)
