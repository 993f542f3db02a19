-- Topmost owners.
use Rattle.std.{proofs.Common.{◌≡◌, ◌↔◌, ℕ, suc, ◌<◌, length, Option, Some, None, IsTrue, eqb, ap, inl, inr}, specs.Option.{option_eq}, proofs.lemmas.Bool.Decides.{eqb_tells}, proofs.lemmas.Option.{same_Some, none-some}}
use Rattle.plan_values.specs.declared.plan.Plan.{Plan}
use Rattle.net_tables.specs.Ownership.{IsOwnedBy}
use Rattle.net_rules.{proofs.LevelLaws.{owner_within}, proofs.Lines.{lands_within}}
use Rattle.net_questions.{specs.Lint.{IsTopmostOwner}, proofs.Within.{owned_within}}

-- a topmost owner is a node of the plan
pub topmost_within : (plan : Plan) (n top : ℕ) → IsTopmostOwner plan n top → top < length plan.nodes.items
topmost_within plan n top is =
    lands_within (IsOwnedBy plan) (length plan.nodes.items) (λ m owner owned. owner_within plan m owner owned) n (suc is.0) top (owned_within plan n is.1.0 is.1.1) is.1

-- what a comparison with a number says of an optional one
pub is_number : (found : Option ℕ) (n : ℕ) → IsTrue (option_eq eqb found (Some n)) ↔ (found ≡ Some n)
is_number None n = (λ h. absurd (cc h), λ is. absurd (none-some n is))
is_number (Some m) n = elim (eqb_tells m n) [
  | inl same ↦ (λ _. ap Some same.1, λ _. same.0)
  | inr other ↦ (λ h. absurd (cc (h, other.0)), λ is. absurd (other.1 (same_Some m n is)))
]
