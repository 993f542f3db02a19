use Rattle.std.{proofs.Common.{ℕ, List, subst}, specs.Prelude.{◌↔◌, IsTrue}}
use Rattle.plan_values.specs.declared.nodes.Row.{Row}
use Rattle.net_rules.{specs.declared.span.Span.{Span}, specs.Spans.{IsCovered, IsInSpans}}
use Rattle.net_rules.proofs.node_rows.NodeRows.cover.Goals as goal

pub returns : goal.returns
returns c =
    let e = c.args.eid.value in
    let S : List Span → Type 0 = λ xs. IsTrue c.is_in_spans.result ↔ IsInSpans xs e in
    let C : List Row → Type 0 = λ rows. IsTrue c.is_in_spans.result ↔ IsCovered rows e in
    let has = subst S c.deref.ensures.value c.is_in_spans.ensures in
    let cover = c.self.invariant.1.cover e in
    subst C c.self.view_is (λ t. cover.0 (has.0 t), λ h. has.1 (cover.1 h))
