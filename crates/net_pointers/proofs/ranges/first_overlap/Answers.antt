use Rattle.std.proofs.Common.{Some, rules}
use Rattle.net_plan.specs.Trees.{view}
use Rattle.net_pointers.proofs.Overlaps.{first_of_ranks}
use Rattle.net_pointers.proofs.ranges.first_overlap.Goals as goal

pub returns-in-Some-clause-found : goal.returns-in-Some-clause-found
returns-in-Some-clause-found c =
    first_of_ranks (view c.args.certificate.now) (view c.in-Some.list.now) c.overlap_of_ranks.result (search rules) c.overlap_of_ranks.ensures.found
