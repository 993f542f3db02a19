-- The values that were made tell the items that were passed.
use Rattle.std.proofs.Common.{map, take}
use Rattle.serde_json.specs.View.{view}
use Rattle.json_commands.specs.Values.{AreTold}
use Rattle.json_commands.proofs.lists.list_of.Given as goal

abbrev pub invariant-loop-item : goal.invariant-loop-item
invariant-loop-item g l = AreTold (g.W.Listed.told l.writer) (take l.item-index l.items) (map view l.list.items)
