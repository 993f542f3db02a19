use Rattle.std.proofs.Common.{◌∷◌, sym, ap, ◌∙◌}
use Rattle.json.specs.Token.{boolean}
use Rattle.plain_json.proofs.Tokens.{truth_begins}
use Rattle.plain_json.proofs.reader.PlainReader.next_truth.Goals as goal

pub returns : goal.returns
returns c =
    truth_begins c.args.self.now c.in_ok-begin.field-0.now c.in_ok-truth.truth c.in_ok-truth.rest.now c.in_ok-begin.ensures c.in_ok-truth.ensures ∙ ap (λ ts. boolean c.in_ok-truth.truth ∷ ts) (sym c.stand.ensures)
