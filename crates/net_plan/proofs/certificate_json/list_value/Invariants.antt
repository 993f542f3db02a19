-- The values that were made are those of the items that were passed.
use Rattle.std.proofs.Common.{◌≡◌, map, take}
use Rattle.serde_json.specs.View.{view}
use Rattle.net_plan.proofs.certificate_json.list_value.Given as goal

abbrev pub invariant-loop-item : goal.invariant-loop-item
invariant-loop-item g l = map view l.list.items ≡ map (λ x. g.W.WriteItem.data_of l.writer (g.W.WriteItem.meaning x)) (take l.item-index l.items)
