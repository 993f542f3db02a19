use Rattle.std.{proofs.Common.{◌≡◌, length, Some, refl}, specs.Prelude.{slice_get}, proofs.lemmas.Option.{slice_get_read}}
use Rattle.net_rules.proofs.spans.span_from.Goals as goal

pub returns-in-Some : goal.returns-in-Some
returns-in-Some c =
    let spans = c.args.spans.now in
    let span = c.in-Some.span.now in
    let here : slice_get spans c.ended_by.result ≡ Some span = let look = c.in-Some.ensures.lookup in slice_get_read spans (length spans) c.ended_by.result span refl look.3.0 look.1 in
    λ e has. (c.ended_by.result, span, here, has)
