use Rattle.std.proofs.Common.{rules}
use Rattle.pdr_repository.specs.Records.{entries}
use Rattle.network_tests.{specs.Planned.{IsAlone}, proofs.Alone.{planned_here, lawful_here}}
use Rattle.network_tests.proofs.tests.planned.run_of_one_record.Goals as goal

pub run_alone-requires-clause-lawful : goal.run_alone-requires-clause-lawful
run_alone-requires-clause-lawful c =
    let plan = c.plan-plan in
    let found = c.in-Some in
    lawful_here c.args.checked.0 plan.result.now c.args.checked.1 c.args.index found.terminus.now found.record.now (entries c.in_ok-records.records.items)
    plan.ensures.accepted plan.ensures.plan found.ensures.0 found.ensures.1 c.in_ok-records.ensures.listed

pub run_alone-requires-clause-planned : goal.run_alone-requires-clause-planned
run_alone-requires-clause-planned c =
    let plan = c.plan-plan in
    let found = c.in-Some in
    let alone : IsAlone plan.result.now c.args.index = search rules in
    planned_here c.args.checked.0 plan.result.now c.args.checked.1 c.args.index c.new-tid.result.value found.terminus.now found.record.now (entries c.in_ok-records.records.items)
    plan.ensures.accepted plan.ensures.plan alone found.ensures.0 found.ensures.1 c.new-tid.ensures c.in_ok-records.ensures.listed
