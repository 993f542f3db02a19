use Rattle.std.proofs.Common.{◌∷◌, false, sym, ap, ◌∙◌, rules}
use Rattle.json.specs.Token.{string}
use Rattle.plain_json.proofs.Tokens.{string_begins}
use Rattle.plain_json.proofs.reader.PlainReader.next_string.Goals as goal

pub returns : goal.returns
returns c =
    let s = c.in_ok-text.text.now in
    string_begins c.args.self.now c.in_ok-begin.field-0.now s c.in_ok-text.rest.now c.after_spaces.result.now c.in_ok-begin.ensures c.in_ok-text.ensures c.after_spaces.ensures (search rules)
    ∙ ap (λ ts. string s ∷ ts) (sym c.stand.ensures)
