use Rattle.std.{proofs.Common.{rules, ◌≡◌, ◌++◌, List, ℕ, subst, string_bytes}, specs.Prelude.{IfOk, codes}}
use Rattle.audited_captures.proofs.tids.match_text.Goals as goal

pub returns : goal.returns
returns c =
    let line : List ℕ → List ℕ = λ words. c.args.name.now ++ (codes " tid match " ++ words) in
    let is : IfOk c.format.result (λ text. string_bytes text ≡ line (string_bytes c.in_ok-planned.planned)) = search rules in
    subst (λ (words : List ℕ). IfOk c.format.result (λ text. string_bytes text ≡ line words)) c.in_ok-planned.ensures is
