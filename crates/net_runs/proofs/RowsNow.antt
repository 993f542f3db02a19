-- Who always has a row has one now, whichever rows it goes by.
use Rattle.std.proofs.Common.{ℕ, Bool, true, false, Option, Some, None}
use Rattle.plan_values.specs.declared.plan.Plan.{Plan}
use Rattle.net_tables.{specs.Routing.{NamesFor}, specs.TwoPlans.{Tables, rows_by, HasRowInBoth, HasRowAlways}}
use Rattle.net_runs.specs.States.{NetworkState, rows_now}

row_in : (plan : Plan) (after : Option Plan) (switched : Bool) (n e : ℕ) → HasRowInBoth plan after n e → (m : ℕ) × NamesFor (rows_by plan after switched n) e m
row_in plan None switched n e has = has
row_in plan (Some after) false n e has = has.0
row_in plan (Some after) true n e has = has.1

pub row_now : (tables : Tables) (w : NetworkState) (n e : ℕ) → HasRowAlways tables n e → (m : ℕ) × NamesFor (rows_now tables w n) e m
row_now tables w n e has = row_in tables.plan tables.after (w.switched n) n e has
