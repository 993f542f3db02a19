use Rattle.heard_captures.specs.Messages.{message_value}
use Rattle.audited_captures.{specs.Words.{word_value, IsAskingWord, IsTidAskingWord}, proofs.WordLaws.{or_other}}
use Rattle.audited_captures.proofs.words.pldm_asking.Goals as goal

pub returns-in-None : goal.returns-in-None
returns-in-None c =
    let m = message_value c.args.message.now in
    or_other (IsAskingWord m) (IsTidAskingWord m) word_value c.tid_request_of.result c.in-None.ensures c.tid_request_of.ensures
