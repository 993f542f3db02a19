use Rattle.std.{proofs.Common.{◌≡◌, ◌++◌, ℕ, List, codes, string_bytes, sym, ◌∙◌, ap, subst}, specs.Prelude.{IfOk}}
use Rattle.json.{specs.Json.{Json, object}, specs.Value.{value_view, members_view}, proofs.Trees.{view-Object}}
use Rattle.reading_texts.specs.TroubleLines.{key_at, part_step}
use Rattle.reading_texts.proofs.twice.part_step.Goals as goal

pub returns-in-Object : goal.returns-in-Object
returns-in-Object c =
    let members = c.in-Object.members in
    let is : value_view c.args.value.now ≡ object (members_view members.items) = ap value_view c.in-Object.is ∙ view-Object members in
    let key : c.key_at-key.result.now ≡ key_at c.args.index (members_view members.items) =
    c.key_at-key.ensures ∙ ap (λ ms. key_at c.args.index (members_view ms)) c.as_slice.ensures.value in
    subst (λ (j : Json). IfOk c.format.result (λ step. string_bytes step ≡ part_step c.args.index j)) (sym is)
    (subst (λ (k : List ℕ). IfOk c.format.result (λ step. string_bytes step ≡ codes "/" ++ k)) key c.format.ensures.ok)
