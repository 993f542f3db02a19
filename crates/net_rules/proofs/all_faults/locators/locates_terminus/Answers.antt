use Rattle.std.proofs.Common.{List, ℕ, [], ◌∷◌, sym, refl, subst}
use Rattle.net_rules.{specs.Locators.{IsEidLocator}, proofs.LocatorLaws.{by_value, not_located}}
use Rattle.net_rules.proofs.all_faults.locators.locates_terminus.Goals as goal

pub returns-in-Some : goal.returns-in-Some
returns-in-Some c =
    let tid = c.in-Some.locator.tid in
    let value = c.in-Some.locator.locator_value.now in
    let e = c.args.eid.value in
    let held = c.is_value_held.ensures in
    let by = by_value c.args.plan.now c.args.listed.now e tid value
    (subst (λ (bytes : List ℕ). IsEidLocator bytes tid value) c.deref.ensures.value c.in-Some.ensures.found)
    (λ t v is. c.in-Some.ensures.all t v (subst (λ (bytes : List ℕ). IsEidLocator bytes t v) (sym c.deref.ensures.value) is)) in
    (λ yes. by.0 (held.0 yes), λ locates. held.1 (by.1 locates))

pub returns-in-None : goal.returns-in-None
returns-in-None c =
    let e = c.args.eid.value in (
      λ _. not_located c.args.plan.now c.args.listed.now e
          (λ t is. c.in-None.ensures.all t (e ∷ []) (subst (λ (bytes : List ℕ). IsEidLocator bytes t (e ∷ [])) (sym c.deref.ensures.value) is)),
      λ _. refl,
    )
