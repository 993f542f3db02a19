use Rattle.std.{proofs.Common.{rules, ◌≡◌, ◌++◌, ◌∙◌, ℕ, false, List, subst, map}, specs.Prelude.{IfOk, codes}}
use Rattle.audited_captures.{specs.Failures.{failed_lines}, specs.Lines.{line_value}}
use Rattle.audited_captures.proofs.routes.failed_routes.Goals as goal

pub returns : goal.returns
returns c =
    let Tells : List ℕ → List ℕ → Type 0 = λ words failures. IfOk c.failed_lines.result (λ ls. map line_value ls.items ≡ failed_lines false words failures) in
    let words : c.deref.result.now ≡ c.args.name.now ++ codes " routes" = search rules in
    let failures = c.deref-2.ensures.value ∙ c.in_ok-failures.ensures in
    subst (λ (fs : List ℕ). Tells (c.args.name.now ++ codes " routes") fs) failures (subst (λ (ws : List ℕ). Tells ws c.deref-2.result.now) words c.failed_lines.ensures)
