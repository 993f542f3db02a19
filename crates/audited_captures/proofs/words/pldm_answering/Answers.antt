use Rattle.heard_captures.specs.Messages.{message_value}
use Rattle.audited_captures.{specs.Words.{word_value, IsTellingWord, IsTidTellingWord}, proofs.WordLaws.{or_other}}
use Rattle.audited_captures.proofs.words.pldm_answering.Goals as goal

pub returns-in-None : goal.returns-in-None
returns-in-None c =
    let m = message_value c.args.message.now in
    or_other (IsTellingWord m) (IsTidTellingWord m) word_value c.tid_answer_of.result c.in-None.ensures c.tid_answer_of.ensures
