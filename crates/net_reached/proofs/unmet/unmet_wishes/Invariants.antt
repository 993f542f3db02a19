use Rattle.std.proofs.Common.{take}
use Rattle.net_reached.specs.Wishes.{AreUnmet}
use Rattle.net_reached.proofs.unmet.unmet_wishes.Given as goal

abbrev pub invariant-loop-wish : goal.invariant-loop-wish
invariant-loop-wish l = AreUnmet l.checked.0 (take l.wish-index l.wishes) l.unmet.items
