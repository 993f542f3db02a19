use Rattle.std.proofs.Common.{◌≡◌, Some, codes, map, option_map, refl, subst, rules}
use Rattle.json.{specs.Json.{object}, specs.Value.{members_view}, proofs.Trees.{view-Object}}
use Rattle.plan_values.specs.NodeValues.{terminus_value}
use Rattle.net_plan.{specs.RowParts.{named_row}, specs.Skeleton.{AreStandIns, IsCutTerminus, IsCutRows}}
use Rattle.net_plan.proofs.skeleton.NextNodeNextItem.next_item.Goals as goal

pub returns : goal.returns
returns c =
    let parts = c.read_object.new.gathered in
    let read = c.in_ok-read_object.ensures.read in
    let ls = members_view parts.found.items in
    let ended : parts.terminus ≡ Some c.in_ok-terminus.terminus = search rules in
    let listed : parts.rows ≡ Some c.in_ok-rows.rows = search rules in
    let h = read.2 c.none-parts.ensures in
    let one = subst (λ o. AreStandIns (codes "terminus") (IsCutTerminus (option_map (λ t. option_map terminus_value t) o)) read.0 h.0) ended h.1 in
    let two = subst (λ o. AreStandIns (codes "rows") (IsCutRows (option_map (λ v. map named_row v.items) o)) h.0 ls) listed h.2 in
    (object read.0, read.1, (read.0, h.0, ls, refl, view-Object parts.found, one, two))
