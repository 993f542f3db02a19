-- The keys that were passed.
use Rattle.std.proofs.Common.{◌≡◌, map, take}
use Rattle.net_pointers.proofs.doubled.keys_of.Given as goal

abbrev pub invariant-loop-member : goal.invariant-loop-member
invariant-loop-member l = map (λ key. key.now) l.keys.items ≡ map (λ m. m.0.now) (take l.member-index l.members)
