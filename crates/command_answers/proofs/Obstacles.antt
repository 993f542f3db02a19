-- What rules certificates out.
use Rattle.std.proofs.Common.{◌≡◌, ◌≢◌, List, ℕ, Some, subst}
use Rattle.net_rules.specs.declared.certify_error.CertifyError.{CertifyError}
use Rattle.plan_values.specs.declared.plan.Plan.{Plan}
use Rattle.plan_texts.specs.Lines.{obstacle_text}
use Rattle.net_rules.specs.declared.certify_error.CertifyError.TheVariants as error

-- want of memory has no text
pub not_memory : (plan : Plan) (obstacle : CertifyError) (text : List ℕ) → obstacle_text plan obstacle ≡ Some text → obstacle ≢ error.OutOfMemory
not_memory plan obstacle text told is =
    let untold : obstacle_text plan error.OutOfMemory ≡ Some text = subst (λ o. obstacle_text plan o ≡ Some text) is told in
    cc
