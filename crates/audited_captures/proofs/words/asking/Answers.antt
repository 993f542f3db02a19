use Rattle.std.proofs.Common.{◌⊎◌}
use Rattle.heard_captures.specs.Messages.{message_value}
use Rattle.audited_captures.{specs.Words.{word_value, IsRequestWord, IsAskingWord, IsTidAskingWord}, proofs.WordLaws.{or_other}}
use Rattle.audited_captures.proofs.words.asking.Goals as goal

pub returns-in-None : goal.returns-in-None
returns-in-None c =
    let m = message_value c.args.message.now in
    or_other (IsRequestWord m) (λ w. IsAskingWord m w ⊎ IsTidAskingWord m w) word_value c.pldm_asking.result c.in-None.ensures c.pldm_asking.ensures
