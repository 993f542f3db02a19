use Rattle.net_rules.{proofs.MoveOrder.{frames_hold, old_breaks, old_holds, new_breaks, new_holds, old_way_breaks, old_ways_hold, new_way_breaks, new_ways_hold, given_breaks, all_hold}, specs.declared.move_fault.MoveRule.TheVariants.{M02, M03}, specs.declared.move_fault.MoveFault.{MoveFault}, specs.Rules.{AtRowEid, AtNodeOrEid}, specs.HeldEids.{IsLedOn}, specs.Superfluous.{NeedsWhatItIsGiven, NeedsItsRank}, specs.MoveSearch.{IsFirstByNode}}
use Rattle.std.proofs.Common.{◌≡◌, Option, subst}
use Rattle.plan_values.{specs.declared.plan.Plan.{Plan}, specs.declared.certificate.Certificate.{Certificate}}
use Rattle.net_tables.specs.TwoPlans.{moving}
use Rattle.net_rules.proofs.first_move_fault.meet_rules_of_move.Goals as goal

-- what is first by the plans, by what the indexes say of them
abbrev Ways : Plan → Plan → Plan → Option MoveFault → Type 0
Ways before after whose found = IsFirstByNode M02 (λ n. AtRowEid whose n (λ row e. IsLedOn (moving before after) n e row.next)) found

ways_of : (index new before after whose : Plan) (found : Option MoveFault) → index ≡ before → new ≡ after → Ways index new whose found → Ways before after whose found
ways_of index new before after whose found same same' h =
    let P : Plan → Type 0 = λ p. Ways p new whose found in
    let Q : Plan → Type 0 = λ p. Ways before p whose found in
    subst Q same' (subst P same h)

abbrev Given : Plan → Plan → Certificate → Option MoveFault → Type 0
Given before after cert found = IsFirstByNode M03 (λ n. AtNodeOrEid (NeedsWhatItIsGiven before cert n) (NeedsItsRank (moving before after) cert n)) found

given_of : (index new before after : Plan) (cert : Certificate) (found : Option MoveFault) → index ≡ before → new ≡ after → Given index new cert found → Given before after cert found
given_of index new before after cert found same same' h =
    let P : Plan → Type 0 = λ p. Given p new cert found in
    let Q : Plan → Type 0 = λ p. Given before p cert found in
    subst Q same' (subst P same h)

pub returns-in-Some-clause-first_fault : goal.returns-in-Some-clause-first_fault
returns-in-Some-clause-first_fault c =
    let before = c.args.before.now in
    let after = c.args.after.now in
    let cert = c.args.certificate.now in
    let below2 = frames_hold before after cert c.in_ok-meet_frames.ensures.met in
    old_breaks before after cert c.fault_of_plan.result c.in-Some.fault c.fault_of_plan.ensures below2 (rw c.in-Some.is at c.in_ok-fault.ensures)

pub returns-in-Some-2-clause-first_fault : goal.returns-in-Some-2-clause-first_fault
returns-in-Some-2-clause-first_fault c =
    let before = c.args.before.now in
    let after = c.args.after.now in
    let cert = c.args.certificate.now in
    let below2 = frames_hold before after cert c.in_ok-meet_frames.ensures.met in
    let below3 = old_holds before after cert below2 (rw c.in_default.is at c.in_ok-fault.ensures) in
    new_breaks before after cert c.fault_of_plan-in-Some-2.result c.in-Some-2.fault c.fault_of_plan-in-Some-2.ensures below3 (rw c.in-Some-2.is at c.in_ok-fault-2.ensures)

pub returns-in-Some-first_without_way_on-clause-first_fault : goal.returns-in-Some-first_without_way_on-clause-first_fault
returns-in-Some-first_without_way_on-clause-first_fault c =
    let before = c.args.before.now in
    let after = c.args.after.now in
    let cert = c.args.certificate.now in
    let below2 = frames_hold before after cert c.in_ok-meet_frames.ensures.met in
    let below3 = old_holds before after cert below2 (rw c.in_default.is at c.in_ok-fault.ensures) in
    let below4 = new_holds before after cert below3 (rw c.in_default-2.is at c.in_ok-fault-2.ensures) in
    old_way_breaks before after cert c.in-Some-first_without_way_on.fault below4 (rw c.in-Some-first_without_way_on.is at (ways_of c.in_ok-index.index c.in_ok-new_index.new_index before after before c.first_without_way_on.result c.in_ok-index.ensures c.in_ok-new_index.ensures c.first_without_way_on.ensures))

pub returns-in-Some-first_without_way_on-2-clause-first_fault : goal.returns-in-Some-first_without_way_on-2-clause-first_fault
returns-in-Some-first_without_way_on-2-clause-first_fault c =
    let before = c.args.before.now in
    let after = c.args.after.now in
    let cert = c.args.certificate.now in
    let below2 = frames_hold before after cert c.in_ok-meet_frames.ensures.met in
    let below3 = old_holds before after cert below2 (rw c.in_default.is at c.in_ok-fault.ensures) in
    let below4 = new_holds before after cert below3 (rw c.in_default-2.is at c.in_ok-fault-2.ensures) in
    let below5 = old_ways_hold before after cert below4 (rw c.in_default-first_without_way_on.is at (ways_of c.in_ok-index.index c.in_ok-new_index.new_index before after before c.first_without_way_on.result c.in_ok-index.ensures c.in_ok-new_index.ensures c.first_without_way_on.ensures)) in
    new_way_breaks before after cert c.in-Some-first_without_way_on-2.fault below5 (rw c.in-Some-first_without_way_on-2.is at (ways_of c.in_ok-index.index c.in_ok-new_index.new_index before after after c.first_without_way_on-2.result c.in_ok-index.ensures c.in_ok-new_index.ensures c.first_without_way_on-2.ensures))

pub returns-in-Some-first_superfluous-clause-first_fault : goal.returns-in-Some-first_superfluous-clause-first_fault
returns-in-Some-first_superfluous-clause-first_fault c =
    let before = c.args.before.now in
    let after = c.args.after.now in
    let cert = c.args.certificate.now in
    let below2 = frames_hold before after cert c.in_ok-meet_frames.ensures.met in
    let below3 = old_holds before after cert below2 (rw c.in_default.is at c.in_ok-fault.ensures) in
    let below4 = new_holds before after cert below3 (rw c.in_default-2.is at c.in_ok-fault-2.ensures) in
    let below5 = old_ways_hold before after cert below4 (rw c.in_default-first_without_way_on.is at (ways_of c.in_ok-index.index c.in_ok-new_index.new_index before after before c.first_without_way_on.result c.in_ok-index.ensures c.in_ok-new_index.ensures c.first_without_way_on.ensures)) in
    let below6 = new_ways_hold before after cert below5 (rw c.in_default-first_without_way_on-2.is at (ways_of c.in_ok-index.index c.in_ok-new_index.new_index before after after c.first_without_way_on-2.result c.in_ok-index.ensures c.in_ok-new_index.ensures c.first_without_way_on-2.ensures)) in
    given_breaks before after cert c.in-Some-first_superfluous.fault below6 (rw c.in-Some-first_superfluous.is at (given_of c.in_ok-index.index c.in_ok-new_index.new_index before after cert c.first_superfluous.result c.in_ok-index.ensures c.in_ok-new_index.ensures c.first_superfluous.ensures))

pub returns-clause-accepted : goal.returns-clause-accepted
returns-clause-accepted c =
    let before = c.args.before.now in
    let after = c.args.after.now in
    let cert = c.args.certificate.now in
    let below2 = frames_hold before after cert c.in_ok-meet_frames.ensures.met in
    let below3 = old_holds before after cert below2 (rw c.in_default.is at c.in_ok-fault.ensures) in
    let below4 = new_holds before after cert below3 (rw c.in_default-2.is at c.in_ok-fault-2.ensures) in
    let below5 = old_ways_hold before after cert below4 (rw c.in_default-first_without_way_on.is at (ways_of c.in_ok-index.index c.in_ok-new_index.new_index before after before c.first_without_way_on.result c.in_ok-index.ensures c.in_ok-new_index.ensures c.first_without_way_on.ensures)) in
    let below6 = new_ways_hold before after cert below5 (rw c.in_default-first_without_way_on-2.is at (ways_of c.in_ok-index.index c.in_ok-new_index.new_index before after after c.first_without_way_on-2.result c.in_ok-index.ensures c.in_ok-new_index.ensures c.first_without_way_on-2.ensures)) in
    all_hold before after cert below6 (rw c.in_default-first_superfluous.is at (given_of c.in_ok-index.index c.in_ok-new_index.new_index before after cert c.first_superfluous.result c.in_ok-index.ensures c.in_ok-new_index.ensures c.first_superfluous.ensures))
