use Rattle.std.proofs.Common.{sym, ap, ◌∙◌, subst}
use Rattle.plain_json.{specs.Plain.{BeginAt, tokens_at}, proofs.Tokens.{begins_behind}}
use Rattle.plain_json.proofs.reader.PlainReader.begin.Goals as goal

pub returns-in_ok-after_byte-in-AfterValue : goal.returns-in_ok-after_byte-in-AfterValue
returns-in_ok-after_byte-in-AfterValue c =
    let rest = c.self.inside.rest.now in
    let are = ap (λ p. tokens_at p rest) (sym c.in-AfterValue.is) ∙ c.self.view_is in
    let comma = c.in_ok-after_byte-in-AfterValue in
    subst (λ ts. BeginAt ts c.after_spaces.result.now) are
    (begins_behind rest c.after_spaces-bytes.result.now comma.field-0.now c.after_spaces.result.now c.after_spaces-bytes.ensures comma.ensures c.after_spaces.ensures)
