-- A name stands for its first node.
use Rattle.std.proofs.Common.{◌≡◌, ◌<◌, ℕ, List, None, ap, ◌∙◌, arith}
use Rattle.net_tables.specs.Repositories.{terminus_of}
use Rattle.plan_values.specs.declared.plan.Plan.{Plan}
use Rattle.command_answers.specs.Naming.{IsFirstNamed, HasTerminusNamed}

-- there is one first node of a name
pub first_alone : (plan : Plan) (name : List ℕ) (m n : ℕ) → IsFirstNamed plan name m → IsFirstNamed plan name n → m ≡ n
first_alone plan name m n one other =
    let not_less : ¬ (m < n) = λ less. other.first m less one.named in
    let not_more : ¬ (n < m) = λ more. one.first n more other.named in
    omega (arith, not_less, not_more)

-- where the first node of the name has no terminus, there is none of that name
pub no_terminus : (plan : Plan) (name : List ℕ) (n : ℕ) → IsFirstNamed plan name n → terminus_of plan n ≡ None → ¬ HasTerminusNamed plan name
no_terminus plan name n first none (m, (same, there)) = there (ap (terminus_of plan) (first_alone plan name m n same first) ∙ none)
