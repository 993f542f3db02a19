-- Each turn takes bytes and keeps them in order.
use Rattle.std.{proofs.Common.{◌≡◌, ◌-◌, ◌≤◌, length}, specs.Io.KnownBytes.{Consumes}}
use Rattle.net_plan.proofs.stream.read_within.Given as goal

abbrev pub invariant-pieces : goal.invariant-pieces
invariant-pieces g l = Consumes (g.S.Source.account l.initial.source).bytes (g.S.Source.account l.source).bytes l.text.items
    × (length l.text.items ≤ l.limit)
    × ((g.S.Source.account l.source).failures ≡ (g.S.Source.account l.initial.source).failures)

abbrev pub decreases-pieces : goal.decreases-pieces
decreases-pieces g l = l.limit - length l.text.items
