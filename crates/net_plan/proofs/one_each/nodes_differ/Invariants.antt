-- Of the entries that were passed no two are of one node.
use Rattle.std.proofs.Common.{◌≢◌, ◌<◌, ℕ, get_or}
use Rattle.net_plan.proofs.one_each.nodes_differ.Given as goal

abbrev pub invariant-loop-index : goal.invariant-loop-index
invariant-loop-index g l = (i j : ℕ) (d : g.row.E.Denot) → i < j → j < l.index → g.E.Entry.node_of (get_or l.entries i d) ≢ g.E.Entry.node_of (get_or l.entries j d)
