use Rattle.std.proofs.Common.{map, take}
use Rattle.heard_captures.specs.Messages.{message_value}
use Rattle.audited_captures.{specs.Lines.{line_value}, specs.Talk.{AreOwnerLines}}
use Rattle.audited_captures.proofs.talk.owner_lines.Given as goal

abbrev pub invariant-loop-message : goal.invariant-loop-message
invariant-loop-message l = AreOwnerLines l.plan (map message_value (take l.message-index l.messages)) (map line_value l.lines.items)
