use Rattle.std.{proofs.Common.{◌≡◌, ◌++◌}, specs.List.{flat_map, range_with_len}}
use Rattle.net_questions.specs.Reaching.{hops_in, pair_between}
use Rattle.net_questions.proofs.reaching.add_pairs.Given as goal

abbrev pub invariant-loop-to : goal.invariant-loop-to
invariant-loop-to l = l.pairs.items ≡ l.initial.pairs.items ++ flat_map (pair_between (hops_in l.hops) l.from) (range_with_len 0 l.to)
