-- No key that was passed stands before it, and those that are left decide.
use Rattle.std.proofs.Common.{◌≡◌, map, take, drop}
use Rattle.net_plan.specs.Names.{are_new, names_differ}
use Rattle.net_plan.proofs.json_keys.are_keys_new.Given as goal

abbrev pub invariant-loop-index : goal.invariant-loop-index
invariant-loop-index l = are_new (map (λ m. m.0.now) (take l.index l.members)) (map (λ m. m.0.now) (drop l.index l.members)) ≡ names_differ (map (λ m. m.0.now) l.members)
