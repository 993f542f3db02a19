-- The items that were passed stand before those that are left.
use Rattle.std.proofs.Common.{◌≡◌, ℕ, ◌-◌, ◌≤◌, length}
use Rattle.json.specs.Json.{Items, items, value, parse_map}
use Rattle.net_plan.{specs.Gathered.{EachIs}, proofs.Gathered.{items_joined}}
use Rattle.net_plan.proofs.gather.next_list.Given as goal

abbrev pub invariant-items : goal.invariant-items
invariant-items g l =
    (n : ℕ) × (before : Items) × (length l.reader ≤ n)
    × (items (value (l.depth - 1)) (length l.initial.reader) l.initial.reader ≡ parse_map (items_joined before) (items (value (l.depth - 1)) n l.reader))
    × (length l.reader ≤ length l.initial.reader)
    × EachIs (g.N.NextItem.IsOf l.each) before l.list.items
    × (length l.list.items ≤ l.most)

abbrev pub decreases-items : goal.decreases-items
decreases-items g l = length l.reader
