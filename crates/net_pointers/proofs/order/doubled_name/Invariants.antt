-- What is left decides.
use Rattle.std.proofs.Common.{drop}
use Rattle.net_plan.specs.Trees.{view}
use Rattle.net_pointers.{specs.Asks.{DoDiffer, IsDoubledIn}, specs.declared.doubled.TwoIndices.{TwoIndices}, specs.declared.order.NameList.{NameList}}
use Rattle.net_pointers.proofs.order.doubled_name.Given as goal

abbrev pub invariant-loop-list : goal.invariant-loop-list
invariant-loop-list l = (DoDiffer (drop l.list-index l.lists) (view l.value) → DoDiffer l.lists (view l.value))
    × ((at : NameList) (indices : TwoIndices) → IsDoubledIn (drop l.list-index l.lists) at indices (view l.value) → IsDoubledIn l.lists at indices (view l.value))
