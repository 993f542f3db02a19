use Rattle.std.proofs.Common.{List, subst}
use Rattle.plan_values.specs.declared.nodes.Row.{Row}
use Rattle.net_rules.{specs.Spans.{IsJoined}, proofs.SpanLaws.{joined_moved}}
use Rattle.net_rules.proofs.node_rows.NodeRows.of.Goals as goal

pub invariant_of-result-2 : goal.invariant_of-result-2
invariant_of-result-2 c =
    let J : List Row → Type 0 = λ rows. IsJoined rows c.in_ok-joined-2.joined in (
      c.in_ok-ordered.ensures.same,
      joined_moved c.args.rows.now c.in_ok-ordered.ordered.items c.in_ok-joined-2.joined c.in_ok-ordered.ensures.same (subst J c.deref.ensures.value c.in_ok-joined-2.ensures),
    )
