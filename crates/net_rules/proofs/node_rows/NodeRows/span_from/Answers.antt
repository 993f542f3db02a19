use Rattle.std.proofs.Common.{ℕ, List, subst}
use Rattle.plan_values.specs.declared.nodes.Row.{Row}
use Rattle.net_rules.{specs.declared.span.Span.{Span}, specs.Spans.{IsCovered, IsInSpan, IsInSpans}}
use Rattle.net_rules.proofs.node_rows.NodeRows.span_from.Goals as goal

pub returns : goal.returns
returns c =
    let S : List Span → Type 0 = λ xs. (e : ℕ) → IsInSpan c.span_from.result e → IsInSpans xs e in
    let C : List Row → Type 0 = λ rows. (e : ℕ) → IsInSpan c.span_from.result e → IsCovered rows e in
    let has = subst S c.deref.ensures.value c.span_from.ensures in
    subst C c.self.view_is (λ e h. (c.self.invariant.1.cover e).0 (has e h))
