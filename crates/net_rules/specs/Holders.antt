-- The first holders of EIDs.
use Rattle.std.specs.Prelude.{◌≡◌, ℕ, ◌+◌, ◌<◌, List, Option, Some, None, slice_get}
use Rattle.plan_values.specs.declared.plan.Plan.{Plan}
use Rattle.net_rules.{specs.declared.holders.Holder.{Holder}, specs.Following.{Follow}}
use Rattle.net_tables.specs.Routing.{Holds, OfItem}

-- the first node of the plan that holds e, if any does
abbrev pub IsFirstHolder : Plan → ℕ → Option ℕ → Type 0
IsFirstHolder plan e None = (n : ℕ) → ¬ Holds plan n e
IsFirstHolder plan e (Some n) = Holds plan n e × ((m : ℕ) → m < n → ¬ Holds plan m e)

-- the EID of each is less than that of any later one
abbrev pub HoldersAscend : List Holder → Type 0
HoldersAscend holders = Follow (λ holder. holder.eid.value) (λ holder. holder.eid.value + 1) holders

-- The first holder of each EID that one of so many nodes holds, in ascending order of the EIDs.
pub record AreFirstHolders (plan : Plan) (count : ℕ) (holders : List Holder) : Type 0 where
  pub ascend : HoldersAscend holders
  pub first : (k : ℕ) → OfItem holders k (λ holder. IsFirstHolder plan holder.eid.value (Some holder.node))
  pub all : (n e : ℕ) → n < count → Holds plan n e
      → (k : ℕ) × (holder : Holder) × (slice_get holders k ≡ Some holder) × (holder.eid.value ≡ e)
