use Rattle.std.proofs.Common.{ℕ, ◌<◌, [], ◌∷◌}
use Rattle.net_tables.specs.Routing.{OfItem}
use Rattle.net_rules.specs.Locators.{IsEidLocator}
use Rattle.net_questions.proofs.lints.locators.has_no_locator.Given as goal

abbrev pub invariant-loop-listed : goal.invariant-loop-listed
invariant-loop-listed l = (k : ℕ) → k < l.listed-index → OfItem l.records k (λ r. ¬ IsEidLocator r.bytes.items l.tid (l.eid.value ∷ []))
