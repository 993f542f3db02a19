use Rattle.std.proofs.Common.{◌≡◌, ℕ, ◌<◌, Some}
use Rattle.net_reached.{specs.declared.wish.Wish.{Wish}, specs.Reading.{Says, from_of}}
use Rattle.net_reached.proofs.reading.wish_of_line.Given as goal

abbrev pub invariant-loop-from : goal.invariant-loop-from
invariant-loop-from l = (m : ℕ) → m < l.from → (wish : Wish) → from_of wish ≡ Some m → ¬ Says l.plan l.line wish
