use Rattle.std.{proofs.Common.{◌≡◌, length}, specs.List.{flat_map, range_with_len}}
use Rattle.net_questions.specs.Reaching.{hops_in, pairs_from}
use Rattle.net_questions.proofs.reaching.reach.Given as goal

abbrev pub invariant-loop-from : goal.invariant-loop-from
invariant-loop-from l = l.pairs.items ≡ flat_map (pairs_from (length l.hops.items) (hops_in l.hops.items)) (range_with_len 0 l.from)
