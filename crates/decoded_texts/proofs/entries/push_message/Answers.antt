use Rattle.std.{proofs.Common.{◌≡◌, ◌++◌, rules, string_bytes}, specs.Prelude.{OnOk}}
use Rattle.decoded_texts.proofs.SeenLaws.{said_if}
use Rattle.decoded_texts.proofs.entries.push_message.Goals as goal

pub returns : goal.returns
returns c =
    let said = string_bytes c.in_ok-said.said in
    let joined : OnOk c.push_str.result (string_bytes c.push_str.new.self ≡ string_bytes c.args.text.now ++ said) = search rules in
    said_if (string_bytes c.args.text.now) said _ c.push_str.result joined
