-- The texts that were passed.
use Rattle.std.proofs.Common.{◌≡◌, map, take}
use Rattle.net_plan.{specs.Names.{text_at}, specs.Trees.{view}}
use Rattle.net_pointers.proofs.known.texts_of.Given as goal

abbrev pub invariant-loop-item : goal.invariant-loop-item
invariant-loop-item l = map (λ text. text.now) l.texts.items ≡ map (λ v. text_at l.key (view v)) (take l.item-index l.items)
