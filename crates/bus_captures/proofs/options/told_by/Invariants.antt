use Rattle.std.proofs.Common.{length}
use Rattle.bus_captures.proofs.OptionLaws.{HaveTold}
use Rattle.bus_captures.proofs.options.told_by.Given as goal

abbrev pub invariant-loop-option : goal.invariant-loop-option
invariant-loop-option l = HaveTold l.order l.bytes l.left l.told

abbrev pub decreases-loop-option : goal.decreases-loop-option
decreases-loop-option l = length l.left
