use Rattle.std.{proofs.Common.{◌≡◌, ◌∷◌, take, drop, true, sym, ap, ◌∙◌}, specs.List.{list_all}}
use Rattle.json.{specs.Token.{string}, specs.Lex.{token, lex, between}}
use Rattle.plain_json.{specs.Plain.{is_plain}, proofs.Plain.{plain_utf8, string_at}}
use Rattle.plain_json.proofs.bytes.string.Goals as goal

pub from_utf8_unchecked-requires : goal.from_utf8_unchecked-requires
from_utf8_unchecked-requires c =
    let plain : list_all is_plain c.split_at.result.0.now ≡ true = ap (list_all is_plain) c.split_at.ensures.front ∙ c.plain_len.ensures.plain in
    plain_utf8 c.split_at.result.0.now plain

pub returns : goal.returns
returns c =
    let rest = c.in_ok-rest.rest.now in
    let r = c.in_ok-rest-2.rest.now in
    let len = c.plain_len.result in
    let closed : drop len rest ≡ 34 ∷ r = sym c.split_at.ensures.back ∙ c.in_ok-rest-2.ensures in
    let told : c.from_utf8_unchecked.result.now ≡ take len rest = c.from_utf8_unchecked.ensures ∙ c.split_at.ensures.front in
    string_at c.args.bytes.now rest len r c.in_ok-rest.ensures c.plain_len.ensures.plain closed ∙ ap (λ s. token (string s) ∷ lex between r) (sym told)
