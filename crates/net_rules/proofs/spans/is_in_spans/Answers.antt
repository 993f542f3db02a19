use Rattle.std.{proofs.Common.{◌≡◌, ℕ, length, Some, None, refl, subst, arith}, specs.Prelude.{slice_get}, proofs.lemmas.Option.{slice_get_read, slice_get_past}, proofs.lemmas.Bool.Decides.{nat_tests}}
use Rattle.net_rules.{specs.declared.span.Span.{Span}, specs.Following.{EndedBy}, proofs.SpanLaws.{has_by_first, has_not}}
use Rattle.net_rules.proofs.spans.is_in_spans.Goals as goal

pub returns-in-Some : goal.returns-in-Some
returns-in-Some c =
    let spans = c.args.spans.now in
    let B : ℕ → Type 0 = λ d. EndedBy (λ (s : Span). s.end) spans d c.ended_by.result in
    let by = subst B c.from-at.ensures c.ended_by.ensures in
    let span = c.in-Some.span.now in
    let here : slice_get spans c.ended_by.result ≡ Some span = let look = c.in-Some.ensures.lookup in slice_get_read spans (length spans) c.ended_by.result span refl look.3.0 look.1 in
    let has = has_by_first spans c.requires c.args.eid.value c.ended_by.result by span here in (
      λ t. has.0 (grind (arith, nat_tests)),
      λ h. (let low = has.1 h in grind (arith, nat_tests)),
    )

pub returns-in-None : goal.returns-in-None
returns-in-None c =
    let spans = c.args.spans.now in
    let B : ℕ → Type 0 = λ d. EndedBy (λ (s : Span). s.end) spans d c.ended_by.result in
    let by = subst B c.from-at.ensures c.ended_by.ensures in
    let none : slice_get spans c.ended_by.result ≡ None = slice_get_past spans c.ended_by.result c.in-None.ensures.lookup.3 in
    (λ t. cc, λ h. absurd (has_not spans c.requires c.args.eid.value c.ended_by.result by none h))
