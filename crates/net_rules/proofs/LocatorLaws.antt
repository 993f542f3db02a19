-- What a record locates, by the one locator that its bytes are.
use Rattle.std.{proofs.Common.{◌≡◌, ℕ, List, [], ◌∷◌, subst}, specs.Prelude.{◌↔◌}}
use Rattle.plan_values.specs.declared.plan.Plan.{Plan}
use Rattle.net_rules.specs.Locators.{IsEidLocator, IsHeldByTerminus, LocatesTerminus}
use Rattle.plan_values.specs.declared.terminus.PlannedRecord as listed

module _ (plan : Plan) (r : listed.PlannedRecord) (e : ℕ) where
  pub by_value : (tid : ℕ) (value : List ℕ) → IsEidLocator r.bytes.items tid value → ((t : ℕ) (v : List ℕ) → IsEidLocator r.bytes.items t v → (tid ≡ t) × (value ≡ v))
      → (value ≡ e ∷ [] → IsHeldByTerminus plan tid e) ↔ LocatesTerminus plan r e
  unfolding LocatesTerminus
  by_value tid value is one = (
    λ held t other.
        let same = one t (e ∷ []) other in
        subst (λ (n : ℕ). IsHeldByTerminus plan n e) same.0 (held same.1),
    λ locates same. locates tid (subst (λ (bytes : List ℕ). IsEidLocator r.bytes.items tid bytes) same is),
  )

  pub not_located : ((t : ℕ) → ¬ IsEidLocator r.bytes.items t (e ∷ [])) → LocatesTerminus plan r e
  unfolding LocatesTerminus
  not_located none t is = absurd (none t is)
