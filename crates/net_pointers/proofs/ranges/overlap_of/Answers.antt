use Rattle.std.proofs.Common.{Some, rules}
use Rattle.net_plan.specs.Trees.{view}
use Rattle.net_pointers.proofs.Overlaps.{first_of_entry}
use Rattle.net_pointers.proofs.ranges.overlap_of.Goals as goal

pub returns-in-Some-clause-found : goal.returns-in-Some-clause-found
returns-in-Some-clause-found c =
    first_of_entry (view c.args.ranks.now) (view c.in-Some.list.now) c.overlap_in.result (search rules) c.overlap_in.ensures.found
