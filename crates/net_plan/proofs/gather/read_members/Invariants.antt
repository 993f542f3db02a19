-- The members that were passed stand before those that are left.
use Rattle.std.proofs.Common.{◌≡◌, ℕ, ◌≤◌, length}
use Rattle.json.specs.Json.{Members, no_members, members, value, parse_map}
use Rattle.net_plan.proofs.Gathered.{joined}
use Rattle.net_plan.proofs.gather.read_members.Given as goal

abbrev pub invariant-members : goal.invariant-members
invariant-members g l =
    (n : ℕ) × (before : Members) × (length l.reader ≤ n)
    × (members (value l.depth) (length l.initial.reader) l.initial.reader ≡ parse_map (joined before) (members (value l.depth) n l.reader))
    × (length l.reader ≤ length l.initial.reader)
    × (g.G.Gather.Holds l.initial.gathered no_members → g.G.Gather.Holds l.gathered before)
    × (g.G.Gather.given l.gathered ≡ g.G.Gather.given l.initial.gathered)

abbrev pub decreases-members : goal.decreases-members
decreases-members g l = length l.reader
