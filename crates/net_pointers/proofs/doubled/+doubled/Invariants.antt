-- What is left decides.
use Rattle.std.proofs.Common.{◌≡◌, drop}
use Rattle.json.{specs.Json.{array, object}, specs.Value.{items_view, members_view}}
use Rattle.net_plan.specs.SingleKeys.{items_single, members_single}
use Rattle.net_pointers.proofs.Doubling.{Passed}
use Rattle.net_pointers.proofs.doubled.+doubled.Given as goal

abbrev pub invariant-doubled_in_items-loop-index : goal.invariant-doubled_in_items-loop-index
invariant-doubled_in_items-loop-index l = (items_single (items_view (drop l.index l.items.items)) ≡ items_single (items_view l.items.items)) × Passed (array (items_view l.items.items)) l.index

abbrev pub invariant-doubled_in_members-loop-index : goal.invariant-doubled_in_members-loop-index
invariant-doubled_in_members-loop-index l = (members_single (members_view (drop l.index l.members.items)) ≡ members_single (members_view l.members.items)) × Passed (object (members_view l.members.items)) l.index
