use Rattle.std.{proofs.Common.{◌≡◌, ◌++◌, inr, rules}, specs.Prelude.{IfOk, string_bytes}, proofs.lemmas.Result.{IfOk-weaker}}
use Rattle.plan_differences.proofs.told.consequences_told.Goals as goal

pub returns-in_ok-other-in-Err : goal.returns-in_ok-other-in-Err
returns-in_ok-other-in-Err c =
    let line = string_bytes c.in_ok-line-in-Err.line in
    let other = string_bytes c.in_ok-other-in-Err.other in
    let whole : IfOk c.format.result (λ text. string_bytes text ≡ line ++ other) = search rules in
    IfOk-weaker c.format.result _ _ (λ text is. inr (inr (line, other, c.in_ok-line-in-Err.ensures, c.in_ok-other-in-Err.ensures, is))) whole
