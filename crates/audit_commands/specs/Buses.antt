-- The bus that a name stands for.
use Rattle.std.specs.Prelude.{ℕ, ⊤, List, Option, Some, None}
use Rattle.plan_values.specs.declared.plan.Plan.{Plan}
use Rattle.net_tables.specs.Names.{IsFirstBus, IsNoBus}

-- the bus of the name, where one is given
abbrev pub IsBusOf : Plan → Option (List ℕ) → Option ℕ → Type 0
IsBusOf plan None None = ⊤
IsBusOf plan None (Some b) = ⊥
IsBusOf plan (Some name) None = ⊥
IsBusOf plan (Some name) (Some b) = IsFirstBus plan name b

abbrev pub NamesNoBus : Plan → Option (List ℕ) → Type 0
NamesNoBus plan None = ⊥
NamesNoBus plan (Some name) = IsNoBus plan name
