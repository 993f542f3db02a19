use Rattle.std.proofs.Common.{ℕ, List, length, sym, subst, ap, arith}
use Rattle.net_rules.specs.Locators.{IsEidLocator, HasOneByteAsEid}
use Rattle.net_explained.proofs.causes.locators.tid_of_long.Goals as goal

pub returns-then-locator-eq1 : goal.returns-then-locator-eq1
unfolding HasOneByteAsEid
returns-then-locator-eq1 c = λ tid value is.
    let same = c.in-Some.ensures.all tid value (subst (λ (b : List ℕ). IsEidLocator b tid value) (sym c.deref.ensures.value) is) in
    let long = ap length same.1 in
    omega (arith, long)

pub returns-in-None : goal.returns-in-None
unfolding HasOneByteAsEid
returns-in-None c = λ tid value is. absurd (c.in-None.ensures.all tid value (subst (λ (b : List ℕ). IsEidLocator b tid value) (sym c.deref.ensures.value) is))
