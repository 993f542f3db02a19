use Rattle.std.{proofs.Common.{ℕ, List, length, sym, ap, ◌∙◌}, proofs.lemmas.List.{length-map}}
use Rattle.plan_values.specs.declared.certificate.RecordPlace.{RecordPlace}
use Rattle.net_rules.proofs.rules.superfluous.given_places.Goals as goal

pub returns : goal.returns
returns c = sym (length-map c.places_at.result.now (λ (p : RecordPlace). p.value)) ∙ ap (λ (places : List ℕ). length places) c.places_at.ensures
