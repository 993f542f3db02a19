use Rattle.std.{proofs.Common.{◌≡◌, ◌∷◌, [], ℕ, List, subst, map}, specs.Prelude.{IfOk}}
use Rattle.audited_captures.specs.Lines.{line_value, silence}
use Rattle.audited_captures.proofs.audits.quiet_lines.Goals as goal

pub returns : goal.returns
returns c = subst (λ (bytes : List ℕ). IfOk c.silence.result (λ all. map line_value all.items ≡ silence bytes ∷ [])) c.in_ok-text.ensures c.silence.ensures
