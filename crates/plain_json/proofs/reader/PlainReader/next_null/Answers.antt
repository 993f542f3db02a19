use Rattle.std.proofs.Common.{◌∷◌, sym, ap, ◌∙◌}
use Rattle.json.specs.Token.{null}
use Rattle.plain_json.proofs.Tokens.{null_begins}
use Rattle.plain_json.proofs.reader.PlainReader.next_null.Goals as goal

pub returns : goal.returns
returns c =
    null_begins c.args.self.now c.in_ok-begin.field-0.now c.in_ok-rest.rest.now c.in_ok-begin.ensures c.in_ok-rest.ensures ∙ ap (λ ts. null ∷ ts) (sym c.stand.ensures)
