use Rattle.net_pointers.{specs.Ascending.{ranks_ascend, AreFirst, DoOverlap}, proofs.Ordered.{overlap_told}}
use Rattle.net_plan.specs.Trees.{view}
use Rattle.serde_json.specs.Find.{get}
use Rattle.std.proofs.Common.{codes}
use Rattle.net_pointers.proofs.order.overlap_in.Goals as goal

pub returns-then-ascending : goal.returns-then-ascending
returns-then-ascending c =
    let d = view c.args.value.now in
    overlap_told c.first_overlap.result c.args.ascending (ranks_ascend (get (codes "ranks") d)) (AreFirst (DoOverlap d)) c.if-ascending.true c.first_overlap.ensures.told c.first_overlap.ensures.found
