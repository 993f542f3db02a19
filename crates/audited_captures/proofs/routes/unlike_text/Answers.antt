use Rattle.std.{proofs.Common.{rules, ◌≡◌, ◌++◌, List, ℕ, subst, string_bytes}, specs.Prelude.{IfOk, codes}}
use Rattle.audited_captures.proofs.routes.unlike_text.Goals as goal

pub returns : goal.returns
returns c =
    let name = c.args.name.now in
    let words = c.args.words.now in
    let line : List ℕ → List ℕ = λ range. name ++ (codes " routes differs " ++ (range ++ (codes " " ++ words))) in
    let is : IfOk c.format.result (λ text. string_bytes text ≡ line (string_bytes c.in_ok-range.range)) = search rules in
    subst (λ (range : List ℕ). IfOk c.format.result (λ text. string_bytes text ≡ line range)) c.in_ok-range.ensures is
