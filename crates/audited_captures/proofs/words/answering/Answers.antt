use Rattle.std.proofs.Common.{◌⊎◌}
use Rattle.heard_captures.specs.Messages.{message_value}
use Rattle.audited_captures.{specs.Words.{word_value, IsResponseWord, IsTellingWord, IsTidTellingWord}, proofs.WordLaws.{or_other}}
use Rattle.audited_captures.proofs.words.answering.Goals as goal

pub returns-in-None : goal.returns-in-None
returns-in-None c =
    let m = message_value c.args.message.now in
    or_other (IsResponseWord m) (λ w. IsTellingWord m w ⊎ IsTidTellingWord m w) word_value c.pldm_answering.result c.in-None.ensures c.pldm_answering.ensures
