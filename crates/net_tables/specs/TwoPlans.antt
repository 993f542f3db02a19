-- The tables of nodes: those of one plan, or of two while they move from one to the other.
use Rattle.std.specs.Prelude.{◌⊎◌, ℕ, List, Bool, Option, Some, None, if◌then◌else◌}
use Rattle.plan_values.{specs.declared.plan.Plan.{Plan}, specs.declared.nodes.Row.{Row}}
use Rattle.net_tables.specs.Routing.{rows_of, HasRow}

-- A network is that of a plan. Where its nodes move to new tables, they have the rows of the plan after as
-- well; nothing else is taken from that.
pub record Tables : Type 0 where
  pub plan : Plan
  pub after : Option Plan

abbrev pub one_plan : Plan → Tables
one_plan plan = record { plan = plan; after = None }

abbrev pub moving : Plan → Plan → Tables
moving before after = record { plan = before; after = Some after }

-- the rows that n goes by, before it has switched and from then on
abbrev pub rows_by : Plan → Option Plan → Bool → ℕ → List Row
rows_by plan None switched n = rows_of plan n
rows_by plan (Some after) switched n = if switched then rows_of after n else rows_of plan n

-- n has a row for e, before it has switched and from then on
abbrev pub HasRowInBoth : Plan → Option Plan → ℕ → ℕ → Type 0
HasRowInBoth plan None n e = HasRow plan n e
HasRowInBoth plan (Some after) n e = HasRow plan n e × HasRow after n e

abbrev pub HasRowAlways : Tables → ℕ → ℕ → Type 0
HasRowAlways tables n e = HasRowInBoth tables.plan tables.after n e

-- n has a row for e, before it has switched or from then on
abbrev pub HasRowInEither : Plan → Option Plan → ℕ → ℕ → Type 0
HasRowInEither plan None n e = HasRow plan n e
HasRowInEither plan (Some after) n e = HasRow plan n e ⊎ HasRow after n e

abbrev pub HasRowEver : Tables → ℕ → ℕ → Type 0
HasRowEver tables n e = HasRowInEither tables.plan tables.after n e
