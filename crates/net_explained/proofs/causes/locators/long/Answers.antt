use Rattle.std.proofs.Common.{◌≢◌, ℕ, List, length, refl, sym}
use Rattle.net_tables.specs.Repositories.{records_of}
use Rattle.net_rules.specs.Locators.{IsEidLocator, HasOneByteAsEid}
use Rattle.net_explained.proofs.Items.{of_item, not_of_item}
use Rattle.plan_values.specs.declared.terminus.PlannedRecord as listed
use Rattle.net_explained.proofs.causes.locators.long.Goals as goal

not_one : (r : listed.PlannedRecord) (tid : ℕ) → (value : List ℕ) × IsEidLocator r.bytes.items tid value × (length value ≢ 1) → ¬ HasOneByteAsEid r
unfolding HasOneByteAsEid
not_one r tid (value, is, long) one = long (one tid value is)

pub returns-in-Some : goal.returns-in-Some
returns-in-Some c =
    let r = c.in_ok-listed.listed.now in
    let long = c.in-Some.ensures in
    ((refl, (r, sym c.in_ok-listed.ensures, long)), not_of_item (records_of c.args.plan.now c.args.node) c.args.index HasOneByteAsEid r c.in_ok-listed.ensures (not_one r c.in-Some.tid long))

pub returns-in-None : goal.returns-in-None
returns-in-None c = of_item (records_of c.args.plan.now c.args.node) c.args.index HasOneByteAsEid c.in_ok-listed.listed.now c.in_ok-listed.ensures c.in-None.ensures
