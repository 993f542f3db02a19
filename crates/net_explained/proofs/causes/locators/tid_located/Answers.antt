use Rattle.std.proofs.Common.{ℕ, List, [], ◌∷◌, sym, subst}
use Rattle.net_rules.specs.Locators.{IsEidLocator}
use Rattle.net_explained.proofs.causes.locators.tid_located.Goals as goal

pub returns-in_err-locator : goal.returns-in_err-locator
returns-in_err-locator c = λ tid. (
  λ is. absurd (c.in_err-locator.ensures.all tid (c.args.eid.value ∷ []) (subst (λ (b : List ℕ). IsEidLocator b tid (c.args.eid.value ∷ [])) (sym c.deref.ensures.value) is)),
  λ h. absurd (cc (h, c.from_residual.ensures)),
)
