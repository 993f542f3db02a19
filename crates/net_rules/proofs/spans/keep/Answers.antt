use Rattle.std.proofs.Common.{List, sym, subst, arith}
use Rattle.net_rules.{specs.declared.span.Span.{Span}, specs.Spans.{IsKept}, proofs.SpanLaws.{kept_none, kept_one}}
use Rattle.net_rules.proofs.spans.keep.Goals as goal

pub returns-else-last : goal.returns-else-last
returns-else-last c = kept_none c.args.spans.now.items c.args.last c.requires.follow c.requires.below (omega arith)

pub returns-in_ok-push : goal.returns-in_ok-push
returns-in_ok-push c =
    let P : List Span → Type 0 = λ after. IsKept c.args.spans.now.items c.args.last after in
    subst P (sym c.in_ok-push.ensures.items) (kept_one c.args.spans.now.items c.args.last c.requires.follow c.requires.below)
