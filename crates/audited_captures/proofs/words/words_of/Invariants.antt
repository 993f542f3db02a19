use Rattle.std.proofs.Common.{map, take}
use Rattle.heard_captures.specs.Messages.{message_value}
use Rattle.audited_captures.specs.Words.{word_value, AreWords}
use Rattle.audited_captures.proofs.words.words_of.Given as goal

abbrev pub invariant-loop-message : goal.invariant-loop-message
invariant-loop-message l = AreWords (map message_value (take l.message-index l.messages)) (map word_value l.words.items)
