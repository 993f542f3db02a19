use Rattle.std.proofs.Common.{rules, true, false}
use Rattle.heard_captures.specs.Messages.{message_value}
use Rattle.audited_captures.proofs.WordLaws.{misowned_by}
use Rattle.audited_captures.proofs.words.misowned.Goals as goal

pub returns-then-message : goal.returns-then-message
returns-then-message c = misowned_by (message_value c.args.message.now) c.answering.result true (search rules) c.answering.ensures

pub returns-else-message : goal.returns-else-message
returns-else-message c = misowned_by (message_value c.args.message.now) c.asking.result false (search rules) c.asking.ensures
