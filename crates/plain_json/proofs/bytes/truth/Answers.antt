use Rattle.std.proofs.Common.{◌∷◌, true, ap, ◌∙◌, rules}
use Rattle.json.specs.Lex.{lex, between}
use Rattle.plain_json.proofs.Plain.{true_at}
use Rattle.plain_json.proofs.bytes.truth.Goals as goal

pub returns : goal.returns
returns c =
    ap (lex between) (c.in_ok-rest.ensures ∙ ap (λ l. 116 ∷ l) (c.in_ok-rest-2.ensures ∙ ap (λ l. 114 ∷ l) (c.in_ok-rest-3.ensures ∙ ap (λ l. 117 ∷ l) (c.in_ok-rest-4.ensures)))) ∙ true_at c.in_ok-rest-4.rest.now (search rules)
