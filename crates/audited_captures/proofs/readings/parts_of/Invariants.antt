use Rattle.std.proofs.Common.{◌≡◌, map, take}
use Rattle.audited_captures.{specs.Exchanges.{exchange_value}, specs.Readings.{part_value, parts_of}}
use Rattle.audited_captures.proofs.readings.parts_of.Given as goal

abbrev pub invariant-loop-exchange : goal.invariant-loop-exchange
invariant-loop-exchange l = map part_value l.parts.items ≡ parts_of l.eid.value (map exchange_value (take l.exchange-index l.exchanges))
