use Rattle.std.proofs.Common.{◌≡◌, ◌∷◌, sym, ap, ◌∙◌}
use Rattle.json.{specs.Token.{number}, specs.Lex.{token, lex, between}}
use Rattle.plain_json.proofs.Plain.{digits_before, digits_utf8}
use Rattle.plain_json.proofs.bytes.numeral.Goals as goal

pub from_utf8_unchecked-requires : goal.from_utf8_unchecked-requires
from_utf8_unchecked-requires c = digits_utf8 c.args.bytes.now c.in_ok-rest.field-0-0 c.in_ok-rest.rest.now c.in_ok-rest.ensures

pub returns : goal.returns
returns c =
    let r = c.in_ok-rest.rest.now in
    let h = c.in_ok-rest.ensures in
    let told : c.from_utf8_unchecked.result.now ≡ h.0 = c.from_utf8_unchecked.ensures ∙ digits_before c.args.bytes.now c.in_ok-rest.field-0-0 r h in
    h.4 ∙ ap (λ s. token (number s) ∷ lex between r) (sym told)
