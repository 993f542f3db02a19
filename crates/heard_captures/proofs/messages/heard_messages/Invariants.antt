use Rattle.std.proofs.Common.{map, take}
use Rattle.bus_captures.specs.Values.{entry_value}
use Rattle.heard_captures.{specs.Messages.{message_value}, proofs.HearingLaws.{HaveHeard}}
use Rattle.heard_captures.proofs.messages.heard_messages.Given as goal

abbrev pub invariant-loop-entry : goal.invariant-loop-entry
invariant-loop-entry l = HaveHeard l.unit (map entry_value (take l.entry-index l.capture.entries.items)) l.stations l.tally (map message_value l.messages.items)
