use Rattle.std.proofs.Common.{ℕ, List, subst}
use Rattle.plan_values.specs.declared.nodes.Row.{Row}
use Rattle.net_rules.{specs.declared.span.Span.{Span}, specs.Spans.{IsCovered, IsInSpans}, specs.Stretches.{IsStretch}, proofs.SpanLaws.{stretch_of}}
use Rattle.net_rules.proofs.node_rows.NodeRows.border.Goals as goal

pub returns : goal.returns
returns c =
    let spans = c.self.inside.joined.spans.items in
    let e = c.args.eid.value in
    let S : List Span → Type 0 = λ xs. IsStretch (IsInSpans xs) e c.span_border.result in
    let C : List Row → Type 0 = λ rows. IsStretch (IsCovered rows) e c.span_border.result in
    subst C c.self.view_is (stretch_of (IsInSpans spans) (IsCovered c.self.inside.rows.now) c.self.invariant.1.cover e c.span_border.result (subst S c.deref.ensures.value c.span_border.ensures))
