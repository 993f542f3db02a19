use Rattle.std.proofs.Common.{ℕ, arith}
use Rattle.net_tables.{specs.Repositories.{records_of}, proofs.RowSearches.{of_one_more}}
use Rattle.net_rules.{specs.Locators.{HasOneByteAsEid, LocatesTerminus}, proofs.OtherSpots.{meets_everywhere}, proofs.OtherSearches.{found_item, found_no_item}}
use Rattle.plan_values.specs.declared.terminus.PlannedRecord as plan
use Rattle.net_rules.proofs.rules.locators.misleading_locator.Goals as goal

pub returns-in-Some : goal.returns-in-Some
returns-in-Some c =
    let net = c.args.plan.now in
    rw c.in_entry.ensures
    (found_item (records_of net c.args.node) c.records_at-records.result.now c.loop-j.j c.index-records-j.result c.in-Some.spot HasOneByteAsEid (LocatesTerminus net)
    c.records_at-records.ensures (omega arith) c.index-records-j.is c.loop-j.invariant c.in-Some.ensures)

pub loop-j-preserved : goal.loop-j-preserved
loop-j-preserved c =
    let net = c.args.plan.now in
    of_one_more c.records_at-records.result.now c.loop-j.j c.index-records-j.result (λ (r : plan.PlannedRecord). HasOneByteAsEid r × ((e : ℕ) → LocatesTerminus net r e))
    (omega arith) c.index-records-j.is (meets_everywhere (HasOneByteAsEid c.index-records-j.result) (LocatesTerminus net c.index-records-j.result) c.in_default.ensures) c.loop-j.invariant

pub returns : goal.returns
returns c =
    let net = c.args.plan.now in
    found_no_item (records_of net c.args.node) c.records_at-records.result.now c.loop-j.j HasOneByteAsEid (LocatesTerminus net) c.records_at-records.ensures (omega arith)
    c.loop-j.invariant
