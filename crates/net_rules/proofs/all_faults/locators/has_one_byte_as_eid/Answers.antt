use Rattle.std.proofs.Common.{List, ℕ, sym, refl, subst}
use Rattle.net_rules.specs.Locators.{IsEidLocator, HasOneByteAsEid}
use Rattle.net_rules.proofs.all_faults.locators.has_one_byte_as_eid.Goals as goal

pub returns-in-None : goal.returns-in-None
unfolding HasOneByteAsEid
returns-in-None c =
    (λ _ t v is. absurd (c.in-None.ensures.all t v (subst (λ (bytes : List ℕ). IsEidLocator bytes t v) (sym c.deref.ensures.value) is)), λ _. refl)
