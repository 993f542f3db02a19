use Rattle.std.proofs.Common.{map, take}
use Rattle.audited_captures.{specs.Exchanges.{exchange_value}, specs.Lines.{line_value}, specs.Strangers.{AreStrangerLines}}
use Rattle.audited_captures.proofs.strangers.stranger_lines.Given as goal

abbrev pub invariant-loop-exchange : goal.invariant-loop-exchange
invariant-loop-exchange l = AreStrangerLines l.plan (map exchange_value (take l.exchange-index l.exchanges)) (map line_value l.lines.items)
