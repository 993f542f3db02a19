use Rattle.std.proofs.Common.{◌∷◌, true, ap, ◌∙◌, rules}
use Rattle.json.specs.Lex.{lex, between}
use Rattle.plain_json.proofs.Plain.{false_at}
use Rattle.plain_json.proofs.bytes.falsehood.Goals as goal

pub returns : goal.returns
returns c =
    ap (lex between) (c.in_ok-rest.ensures ∙ ap (λ l. 102 ∷ l) (c.in_ok-rest-2.ensures ∙ ap (λ l. 97 ∷ l) (c.in_ok-rest-3.ensures ∙ ap (λ l. 108 ∷ l) (c.in_ok-rest-4.ensures ∙ ap (λ l. 115 ∷ l) (c.in_ok-rest-5.ensures))))) ∙ false_at c.in_ok-rest-5.rest.now (search rules)
