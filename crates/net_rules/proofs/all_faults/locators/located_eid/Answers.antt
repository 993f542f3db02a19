use Rattle.std.proofs.Common.{List, ℕ, [], ◌∷◌, sym, subst}
use Rattle.net_rules.{specs.Locators.{IsEidLocator}, proofs.LocatorLaws.{not_located}}
use Rattle.net_rules.proofs.all_faults.locators.located_eid.Goals as goal

pub returns-in-Some : goal.returns-in-Some
returns-in-Some c = λ plan e other. not_located plan c.args.listed.now e
    (λ t is. c.eid_of_value.ensures e other (c.in-Some.ensures.all t (e ∷ []) (subst (λ (bytes : List ℕ). IsEidLocator bytes t (e ∷ [])) (sym c.deref.ensures.value) is)).1)

pub returns-in-None : goal.returns-in-None
returns-in-None c = λ plan e other. not_located plan c.args.listed.now e
    (λ t is. c.in-None.ensures.all t (e ∷ []) (subst (λ (bytes : List ℕ). IsEidLocator bytes t (e ∷ [])) (sym c.deref.ensures.value) is))
