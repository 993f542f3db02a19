-- No name that was passed stands twice, and each has its index.
use Rattle.std.{proofs.Common.{◌≡◌, map, take, true}, specs.BTreeMap.{get_by}, specs.Cmp.Lexicographic.{slice_cmp}, specs.Ordering.{nat_cmp}}
use Rattle.net_plan.specs.Names.{names_differ}
use Rattle.net_pointers.proofs.Doubling.{AreNoted}
use Rattle.net_pointers.proofs.doubled.first_doubled.Given as goal

abbrev pub invariant-loop-second : goal.invariant-loop-second
invariant-loop-second l = (names_differ (map (λ name. name.now) (take l.second l.names)) ≡ true) × AreNoted l.names l.second (λ q. get_by (λ other. slice_cmp nat_cmp q other.now) l.passed)
