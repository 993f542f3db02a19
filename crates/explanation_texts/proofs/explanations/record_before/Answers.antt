use Rattle.std.proofs.Common.{◌∙◌, ◌==◌, position, ap, sym}
use Rattle.explanation_texts.specs.Explanations.{record_before}
use Rattle.explanation_texts.proofs.explanations.record_before.Goals as goal

pub returns-in-Some : goal.returns-in-Some
returns-in-Some c =
    c.first_leading_to.ensures
    ∙ (ap (position (λ r. r.next == c.in-Some.next)) c.records_at.ensures ∙ sym (ap (record_before c.args.plan.now c.args.node) c.in-Some.is))
