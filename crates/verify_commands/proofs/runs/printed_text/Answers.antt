use Rattle.std.{proofs.Common.{◌≡◌, ◌∙◌, ap, map, string_bytes, subst}, specs.Prelude.{IfOk}}
use Rattle.plan_values.{specs.declared.certificate.Certificate.{Certificate}, specs.declared.plan.Plan.{Plan}}
use Rattle.net_sim.specs.Outcomes.{event_value}
use Rattle.verify_commands.specs.Parts.{IsPrinted}
use Rattle.verify_commands.proofs.runs.printed_text.Goals as goal

pub returns : goal.returns
returns c =
    let P : Plan × Certificate → Type 0 = λ p. IfOk c.played_text.result (λ text. IsPrinted p.0 p.1 (map event_value c.args.events.now) (string_bytes text)) in
    let same : c.in_ok-again.again ≡ c.args.checked.now =
    c.in_ok-again.ensures ∙ (ap (λ (p : Plan). (p, c.certificate.result.now)) c.plan.ensures.plan ∙ ap (λ (x : Certificate). (c.args.checked.now.0, x)) c.certificate.ensures.certificate) in
    subst P same c.played_text.ensures
