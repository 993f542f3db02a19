-- The line of what rules certificates out, by its words.
use Rattle.std.{proofs.Common.{◌≡◌, List, ℕ, Some, Result, Ok, Err, sym, ◌∙◌, ap}, specs.Prelude.{IfOk, option_map}}
use Rattle.plan_values.specs.declared.plan.Plan.{Plan}
use Rattle.net_rules.specs.declared.certify_error.CertifyError.{CertifyError}
use Rattle.plan_texts.specs.Lines.{as_line, obstacle_words, obstacle_text}

pub line_of_words : {A E : Type 0} (bytes : A → List ℕ) (plan : Plan) (obstacle : CertifyError) (words : List ℕ) (r : Result A E) → obstacle_words plan obstacle ≡ Some words
    → IfOk r (λ line. bytes line ≡ as_line words) → IfOk r (λ line. obstacle_text plan obstacle ≡ Some (bytes line))
line_of_words bytes plan obstacle words (Ok line) is made = ap (option_map as_line) is ∙ ap Some (sym made)
line_of_words bytes plan obstacle words (Err e) is made = tt
