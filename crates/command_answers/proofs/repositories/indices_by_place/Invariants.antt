use Rattle.std.proofs.Common.{◌≡◌, length, map, take}
use Rattle.command_answers.specs.Ordering.{AreFirstAt}
use Rattle.command_answers.proofs.repositories.indices_by_place.Given as goal

abbrev pub invariant-loop-index : goal.invariant-loop-index
invariant-loop-index l = (length l.by_place.items ≡ l.count) × AreFirstAt (map (λ p. p.value) (take l.index l.places)) l.by_place.items
