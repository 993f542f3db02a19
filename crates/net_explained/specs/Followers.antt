-- Which record follows which, by the next handles.
use Rattle.std.specs.Prelude.{ℕ, ◌==◌, List, Option, map, position}
use Rattle.plan_values.specs.declared.terminus.PlannedRecord.{PlannedRecord}

-- the first record of a handle, if there is one
abbrev pub record_of_handle : List PlannedRecord → ℕ → Option ℕ
record_of_handle records handle = position (λ r. r.handle == handle) records

-- for each record the one that follows it, if there is one
abbrev pub followers : List PlannedRecord → List (Option ℕ)
followers records = map (λ r. record_of_handle records r.next) records
