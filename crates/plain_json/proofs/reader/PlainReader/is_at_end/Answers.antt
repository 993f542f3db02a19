use Rattle.std.proofs.Common.{sym, ◌∙◌}
use Rattle.plain_json.proofs.Tokens.{text_ends}
use Rattle.plain_json.proofs.reader.PlainReader.is_at_end.Goals as goal

pub returns-in-None : goal.returns-in-None
returns-in-None c end = sym c.self.view_is ∙ text_ends c.self.inside.place c.self.inside.rest.now c.after_spaces.result.now c.after_spaces.ensures c.in-None.ensures
