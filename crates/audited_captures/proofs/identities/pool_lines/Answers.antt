use Rattle.std.{proofs.Common.{◌≡◌, ℕ, subst, map}, specs.Prelude.{IfOk}}
use Rattle.audited_captures.{specs.Answers.{answer_values}, specs.Lines.{line_value}, specs.Identities.{pool_lines, size_of}}
use Rattle.audited_captures.proofs.identities.pool_lines.Goals as goal

pub returns : goal.returns
returns c =
    let Tells : ℕ → ℕ → Type 0 =
    λ first size. IfOk c.span_lines.result (λ lines. map line_value lines.items ≡ pool_lines c.args.name.now first size (answer_values c.args.answers.now)) in
    subst (λ (first : ℕ). Tells first (size_of c.args.pool)) c.first_of.ensures (subst (λ (size : ℕ). Tells c.first_of.result size) c.size_of.ensures c.span_lines.ensures)
