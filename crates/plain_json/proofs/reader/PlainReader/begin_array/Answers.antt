use Rattle.std.proofs.Common.{◌∷◌, sym, ap, ◌∙◌}
use Rattle.json.specs.Token.{begin_array}
use Rattle.plain_json.proofs.Tokens.{array_begins}
use Rattle.plain_json.proofs.reader.PlainReader.begin_array.Goals as goal

pub returns : goal.returns
returns c =
    array_begins c.args.self.now c.in_ok-begin.field-0.now c.in_ok-rest.rest.now c.in_ok-begin.ensures c.in_ok-rest.ensures ∙ ap (λ ts. begin_array ∷ ts) (sym c.stand.ensures)
