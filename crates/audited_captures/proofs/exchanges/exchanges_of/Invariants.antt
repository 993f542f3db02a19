use Rattle.std.proofs.Common.{map, take}
use Rattle.audited_captures.{specs.Words.{word_value}, specs.Exchanges.{exchange_value, AreExchanges}}
use Rattle.audited_captures.proofs.exchanges.exchanges_of.Given as goal

abbrev pub invariant-loop-i : goal.invariant-loop-i
invariant-loop-i l = AreExchanges (map word_value (take l.i l.words)) (map exchange_value l.exchanges.items)
