use Rattle.std.proofs.Common.{◌∷◌, sym, ap, ◌∙◌}
use Rattle.json.specs.Token.{end_object}
use Rattle.plain_json.proofs.Tokens.{object_ends}
use Rattle.plain_json.proofs.reader.PlainReader.take_end_object.Goals as goal

pub returns-clause-closed : goal.returns-clause-closed
returns-clause-closed c closed =
    let is = object_ends c.self.inside.place c.self.inside.rest.now c.after_spaces.result.now c.in-Some.rest.now c.after_spaces.ensures c.in-Some.ensures in
    sym c.self.view_is ∙ is ∙ ap (λ ts. end_object ∷ ts) (sym c.stand.ensures)
