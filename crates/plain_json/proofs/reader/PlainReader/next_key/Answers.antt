use Rattle.std.proofs.Common.{◌≡◌, Some, sym, ap, ◌∙◌, rules}
use Rattle.json.specs.Json.{read_key}
use Rattle.plain_json.proofs.Tokens.{key_begins}
use Rattle.plain_json.proofs.reader.PlainReader.next_key.Goals as goal

pub returns : goal.returns
returns c =
    let old = c.take_end_object.new.self in
    let same : old ≡ c.args.self.now = search rules in
    let s = c.in_ok-key.key.now in
    let is = key_begins old c.in_ok-begin.field-0.now s c.in_ok-key.rest.now c.after_spaces.result.now c.in_ok-rest.rest.now c.in_ok-begin.ensures c.in_ok-key.ensures c.after_spaces.ensures c.in_ok-rest.ensures in
    ap read_key (sym same ∙ is) ∙ ap (λ ts. Some (Some s, ts)) (sym c.stand.ensures)
