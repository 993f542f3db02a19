use Rattle.std.proofs.Common.{ℕ, List, [], ◌∷◌, sym, subst}
use Rattle.net_rules.specs.Locators.{IsEidLocator}
use Rattle.net_questions.proofs.lints.locators.locates.Goals as goal

pub returns-in-Some : goal.returns-in-Some
returns-in-Some c =
    let tid = c.args.tid in
    let value = c.in-Some.locator.locator_value.now in
    let bytes = c.args.listed.now.bytes.items in
    let only = c.args.eid.value ∷ [] in
    let there = subst (λ (b : List ℕ). IsEidLocator b c.in-Some.locator.tid value) c.deref.ensures.value c.in-Some.ensures.found in (
      λ h. (
          let both = c.is_of.ensures.0 h in
          subst (λ (v : List ℕ). IsEidLocator bytes tid v) both.1 (subst (λ t. IsEidLocator bytes t value) both.0 there)),
      λ is. c.is_of.ensures.1 (c.in-Some.ensures.all tid only (subst (λ (b : List ℕ). IsEidLocator b tid only) (sym c.deref.ensures.value) is)),
    )

pub returns-in-None : goal.returns-in-None
returns-in-None c = (
  λ h. absurd (cc h),
  λ is. absurd (c.in-None.ensures.all c.args.tid (c.args.eid.value ∷ []) (subst (λ (b : List ℕ). IsEidLocator b c.args.tid (c.args.eid.value ∷ [])) (sym c.deref.ensures.value) is)),
)
