-- The tables of the plans that a search goes by.
use Rattle.std.specs.Prelude.{option_map}
use Rattle.net_tables.specs.TwoPlans.{Tables}
use Rattle.net_rules.specs.declared.plans.Plans.{Plans}

abbrev pub plans_value : Plans → Tables
plans_value plans = record { plan = plans.plan.now; after = option_map (λ after. after.now) plans.after }
