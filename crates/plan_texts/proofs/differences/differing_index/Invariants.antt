use Rattle.std.proofs.Common.{◌≡◌, take, map}
use Rattle.plan_texts.proofs.differences.differing_index.Given as goal

abbrev pub invariant-loop-index : goal.invariant-loop-index
invariant-loop-index l = take l.index (map (λ line. line.now) l.wanted) ≡ take l.index (map (λ line. line.now) l.came)
