use Rattle.std.proofs.Common.{◌≡◌, drop}
use Rattle.json.specs.Value.{items_view, members_view}
use Rattle.net_plan.specs.SingleKeys.{items_single, members_single}
use Rattle.net_plan.proofs.json_keys.+single.Given as goal

abbrev pub invariant-items_have_single_keys-loop-item : goal.invariant-items_have_single_keys-loop-item
invariant-items_have_single_keys-loop-item l = items_single (items_view (drop l.item-index l.item-items)) ≡ items_single (items_view l.item-items)

abbrev pub invariant-members_have_single_keys-loop-member : goal.invariant-members_have_single_keys-loop-member
invariant-members_have_single_keys-loop-member l = members_single (members_view (drop l.member-index l.member-items)) ≡ members_single (members_view l.member-items)
