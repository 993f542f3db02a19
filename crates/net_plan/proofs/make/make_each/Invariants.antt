-- What is left gives the rest of the list.
use Rattle.std.proofs.Common.{◌≡◌, ◌++◌, length, drop, map}
use Rattle.net_plan.{specs.Trees.{items_view}, specs.Made.{each_made}}
use Rattle.net_plan.proofs.make.make_each.Given as goal

abbrev pub invariant-loop-value : goal.invariant-loop-value
invariant-loop-value g l = (length l.list.items ≡ l.value-index) × (map g.M.Make.meaning l.list.items ++ each_made (g.M.Make.made l.maker) (items_view (drop l.value-index l.values))
    ≡ each_made (g.M.Make.made l.maker) (items_view l.values))
