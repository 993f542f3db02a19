use Rattle.std.proofs.Common.{ℕ, List, sym, subst}
use Rattle.net_rules.{specs.Locators.{IsEidLocator}, proofs.OtherSearches.{locator_spot, no_locator_spot}}
use Rattle.net_rules.proofs.rules.locators.misleading_at.Goals as goal

pub returns-in-Some : goal.returns-in-Some
returns-in-Some c =
    let tid = c.in-Some.locator.tid in
    let value = c.in-Some.locator.locator_value.now in
    locator_spot c.args.plan.now c.args.listed.now tid value c.misleading_value.result
    (subst (λ (bytes : List ℕ). IsEidLocator bytes tid value) c.deref.ensures.value c.in-Some.ensures.found)
    (λ t v is. c.in-Some.ensures.all t v (subst (λ (bytes : List ℕ). IsEidLocator bytes t v) (sym c.deref.ensures.value) is))
    c.misleading_value.ensures

pub returns-in-None : goal.returns-in-None
returns-in-None c =
    no_locator_spot c.args.plan.now c.args.listed.now
    (λ t v is. c.in-None.ensures.all t v (subst (λ (bytes : List ℕ). IsEidLocator bytes t v) (sym c.deref.ensures.value) is))
