use Rattle.std.proofs.Common.{rules, true, false}
use Rattle.heard_captures.specs.Messages.{message_value}
use Rattle.audited_captures.proofs.WordLaws.{said_by}
use Rattle.audited_captures.proofs.words.word_of.Goals as goal

pub returns-then-message : goal.returns-then-message
returns-then-message c = said_by (message_value c.args.message.now) c.asking.result true (search rules) c.asking.ensures

pub returns-else-message : goal.returns-else-message
returns-else-message c = said_by (message_value c.args.message.now) c.answering.result false (search rules) c.answering.ensures
