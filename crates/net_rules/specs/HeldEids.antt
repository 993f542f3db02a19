-- Rows lead on what is held elsewhere.
use Rattle.std.specs.Prelude.{◌≢◌, ◌⊎◌, ℕ}
use Rattle.plan_values.specs.declared.plan.Plan.{Plan}
use Rattle.net_tables.{specs.Routing.{Holds, Routes, IsBridge}, specs.TwoPlans.{Tables, one_plan, HasRowAlways}}

-- where a node other than n holds e, m holds it too or is a bridge that always routes it
unfoldable pub IsLedOn : Tables → ℕ → ℕ → ℕ → Type 0
IsLedOn tables n e m = (holder : ℕ) → Holds tables.plan holder e → holder ≢ n
    → Holds tables.plan m e ⊎ (IsBridge tables.plan m × HasRowAlways tables m e)

-- each row leads on what is held elsewhere
abbrev pub HeldAreLedOn : Plan → Type 0
HeldAreLedOn plan = (n e m : ℕ) → Routes plan n e m → IsLedOn (one_plan plan) n e m
