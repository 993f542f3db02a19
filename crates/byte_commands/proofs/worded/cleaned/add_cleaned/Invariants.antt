use Rattle.std.proofs.Common.{◌≡◌, ◌++◌, length}
use Rattle.byte_commands.specs.Worded.{cleaned}
use Rattle.byte_commands.proofs.worded.cleaned.add_cleaned.Given as goal

abbrev pub invariant-loop-rest : goal.invariant-loop-rest
invariant-loop-rest l = l.text.items ++ cleaned l.rest ≡ l.fn.text.items ++ cleaned l.fn.word

abbrev pub decreases-loop-rest : goal.decreases-loop-rest
decreases-loop-rest l = length l.rest
