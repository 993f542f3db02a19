use Rattle.std.{proofs.Common.{◌≡◌, ℕ, length, Some, None, refl, subst, arith}, specs.Prelude.{slice_get}, proofs.lemmas.Option.{slice_get_read, slice_get_past}}
use Rattle.net_rules.{specs.declared.span.Span.{Span}, specs.Following.{EndedBy}, proofs.SpanLaws.{stretch_within, stretch_before, stretch_after}}
use Rattle.net_rules.proofs.spans.span_border.Goals as goal

pub returns-in-Some : goal.returns-in-Some
returns-in-Some c =
    let spans = c.args.spans.now in
    let B : ℕ → Type 0 = λ d. EndedBy (λ (s : Span). s.end) spans d c.ended_by.result in
    let by = subst B c.from-at.ensures c.ended_by.ensures in
    let span = c.in-Some.span.now in
    let here : slice_get spans c.ended_by.result ≡ Some span = let look = c.in-Some.ensures.lookup in slice_get_read spans (length spans) c.ended_by.result span refl look.3.0 look.1 in
    stretch_within spans c.requires c.args.eid.value c.ended_by.result by span here (omega arith)

pub returns-in-Some-2 : goal.returns-in-Some-2
returns-in-Some-2 c =
    let spans = c.args.spans.now in
    let B : ℕ → Type 0 = λ d. EndedBy (λ (s : Span). s.end) spans d c.ended_by.result in
    let by = subst B c.from-at.ensures c.ended_by.ensures in
    let span = c.in-Some.span.now in
    let here : slice_get spans c.ended_by.result ≡ Some span = let look = c.in-Some.ensures.lookup in slice_get_read spans (length spans) c.ended_by.result span refl look.3.0 look.1 in
    stretch_before spans c.requires c.args.eid.value c.ended_by.result by span here (omega arith)

pub returns-in-None : goal.returns-in-None
returns-in-None c =
    let spans = c.args.spans.now in
    let B : ℕ → Type 0 = λ d. EndedBy (λ (s : Span). s.end) spans d c.ended_by.result in
    let by = subst B c.from-at.ensures c.ended_by.ensures in
    let none : slice_get spans c.ended_by.result ≡ None = slice_get_past spans c.ended_by.result c.in-None.ensures.lookup.3 in
    stretch_after spans c.requires c.args.eid.value c.ended_by.result by none (omega arith)
