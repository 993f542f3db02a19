use Rattle.std.proofs.Common.{◌∷◌, sym, ap, ◌∙◌}
use Rattle.json.specs.Token.{number}
use Rattle.plain_json.proofs.Tokens.{number_begins}
use Rattle.plain_json.proofs.reader.PlainReader.next_numeral.Goals as goal

pub returns : goal.returns
returns c =
    number_begins c.args.self.now c.in_ok-begin.field-0.now c.in_ok-text.text.now c.in_ok-text.rest.now c.in_ok-begin.ensures c.in_ok-text.ensures ∙ ap (λ ts. number c.in_ok-text.text.now ∷ ts) (sym c.stand.ensures)
