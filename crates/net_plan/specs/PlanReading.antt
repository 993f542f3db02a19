-- The plan that a JSON value stands for, or its first fault in the order of tests, by functions.
use Rattle.std.specs.Prelude.{codes, length, None, if◌then◌else◌, is_ok, Result, Ok}
use Rattle.serde_json.specs.Data.{Data}
use Rattle.net_plan.{specs.Finding.{first_fault, refused}, specs.Json.{at_key, demand, whole_number}, specs.Made.{plan_made}, specs.Names.{names_differ}, specs.Reading.{then_with}, specs.Tables.{a_plan}, specs.declared.error.ValueFault.{ValueFault}, specs.declared.error.ValueFault.TheVariants.{UnknownName, Doubled}, specs.declared.plan_format.PlanFormat.{PlanFormat}, specs.declared.plan_format.PlanFormat.TheVariants.{One, Two}}
use Rattle.plan_values.{specs.Placed.{are_placed}, specs.PlanValues.{PlanValue, bus_names}}

-- the format by whose tests a plan is read: 2 where it says so, else 1
abbrev pub plan_format : Data → PlanFormat
plan_format d = if is_ok (at_key (codes "format") (whole_number 2 2) d) then Two else One

-- the tests of a whole plan: no two buses have one name, and what it names is its own
abbrev pub plan_tested : PlanValue → Result PlanValue ValueFault
plan_tested p =
    then_with (demand Doubled (names_differ (bus_names p.buses))) (λ _.
    then_with (demand UnknownName (are_placed (length p.buses) p.nodes)) (λ _. Ok p))

-- the plan, by the tests of a format
abbrev pub plan_by : PlanFormat → Data → Result PlanValue ValueFault
plan_by f d = then_with (refused (first_fault None (a_plan f) d)) (λ _. plan_tested (plan_made f d))

abbrev pub plan : Data → Result PlanValue ValueFault
plan d = plan_by (plan_format d) d
