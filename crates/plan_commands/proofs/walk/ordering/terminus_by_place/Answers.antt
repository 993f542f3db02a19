use Rattle.std.{proofs.Common.{arith}, proofs.lemmas.List.{length-map}}
use Rattle.pdr_repository.specs.Records.{entries, entry_of}
use Rattle.net_check.proofs.Accepted.{accepted_orders}
use Rattle.command_answers.proofs.Places.{lawful_records, known_terminus, few_kept, lawful_kept}
use Rattle.plan_commands.proofs.walk.ordering.terminus_by_place.Goals as goal

pub new-requires-2-clause-few : goal.new-requires-2-clause-few
new-requires-2-clause-few c =
    let records = entries c.in_ok-records.records.items in
    let there = known_terminus c.args.plan.now c.args.node c.args.terminus.now c.requires.there in
    let facts = lawful_records c.args.plan.now c.args.certificate.now c.args.node records (accepted_orders c.args.plan.now c.args.certificate.now c.requires.accepted) there c.in_ok-records.ensures in
    omega (arith, facts.0, length-map c.in_ok-records.records.items entry_of)

pub new-requires-2-clause-lawful : goal.new-requires-2-clause-lawful
new-requires-2-clause-lawful c =
    let records = entries c.in_ok-records.records.items in
    let there = known_terminus c.args.plan.now c.args.node c.args.terminus.now c.requires.there in
    let facts = lawful_records c.args.plan.now c.args.certificate.now c.args.node records (accepted_orders c.args.plan.now c.args.certificate.now c.requires.accepted) there c.in_ok-records.ensures in
    facts.1

pub returns-clause-few : goal.returns-clause-few
returns-clause-few c =
    let records = entries c.in_ok-records.records.items in
    let there = known_terminus c.args.plan.now c.args.node c.args.terminus.now c.requires.there in
    let facts = lawful_records c.args.plan.now c.args.certificate.now c.args.node records (accepted_orders c.args.plan.now c.args.certificate.now c.requires.accepted) there c.in_ok-records.ensures in
    few_kept _ _ c.new-2.ensures.records facts.0

pub returns-clause-lawful : goal.returns-clause-lawful
returns-clause-lawful c =
    let records = entries c.in_ok-records.records.items in
    let there = known_terminus c.args.plan.now c.args.node c.args.terminus.now c.requires.there in
    let facts = lawful_records c.args.plan.now c.args.certificate.now c.args.node records (accepted_orders c.args.plan.now c.args.certificate.now c.requires.accepted) there c.in_ok-records.ensures in
    lawful_kept _ _ c.new-2.ensures.records facts.1
