use Rattle.std.proofs.Common.{Some, sym, ap, ◌∙◌}
use Rattle.json.specs.Json.{after_end_array}
use Rattle.plain_json.proofs.Tokens.{array_ends}
use Rattle.plain_json.proofs.reader.PlainReader.take_end_array.Goals as goal

pub returns-clause-closed : goal.returns-clause-closed
returns-clause-closed c closed =
    let is = array_ends c.self.inside.place c.self.inside.rest.now c.after_spaces.result.now c.in-Some.rest.now c.after_spaces.ensures c.in-Some.ensures in
    ap after_end_array (sym c.self.view_is ∙ is) ∙ ap Some (sym c.stand.ensures)
