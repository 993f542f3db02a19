use Rattle.std.{proofs.Common.{rules, ◌≡◌, ◌++◌, List, ℕ, subst, string_bytes}, specs.Prelude.{IfOk, codes}}
use Rattle.audited_captures.proofs.identities.match_text.Goals as goal

pub returns : goal.returns
returns c =
    let line : List ℕ → List ℕ = λ span. c.args.name.now ++ (codes " pool match " ++ span) in
    let is : IfOk c.format.result (λ text. string_bytes text ≡ line (string_bytes c.in_ok-span.span)) = search rules in
    subst (λ (span : List ℕ). IfOk c.format.result (λ text. string_bytes text ≡ line span)) c.in_ok-span.ensures is
