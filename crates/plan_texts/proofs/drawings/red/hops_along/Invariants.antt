use Rattle.std.proofs.Common.{◌≡◌, take}
use Rattle.plan_texts.specs.Drawings.{hops_along}
use Rattle.plan_texts.proofs.drawings.red.hops_along.Given as goal

abbrev pub invariant-loop-index : goal.invariant-loop-index
invariant-loop-index l = l.hops.items ≡ hops_along l.eid (take l.index l.nodes)
