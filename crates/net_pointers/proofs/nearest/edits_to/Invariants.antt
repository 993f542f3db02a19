-- The names that were passed.
use Rattle.std.proofs.Common.{◌≡◌, map, take}
use Rattle.net_pointers.specs.Nearest.{edits_to}
use Rattle.net_pointers.proofs.nearest.edits_to.Given as goal

abbrev pub invariant-loop-other : goal.invariant-loop-other
invariant-loop-other l = l.edits.items ≡ edits_to (map (λ other. other.now) (take l.other-index l.names)) l.name
