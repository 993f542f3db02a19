use Rattle.std.proofs.Common.{string_bytes}
use Rattle.decoded_texts.{specs.Seen.{told_line}, proofs.SeenLaws.{behind_if}}
use Rattle.decoded_texts.proofs.entries.push_told.Goals as goal

pub returns : goal.returns
returns c =
    behind_if (string_bytes c.args.text.now) (told_line c.args.way c.args.message.now) _ _ c.push_message.result
    c.in_ok-push_told_line.ensures c.push_message.ensures
