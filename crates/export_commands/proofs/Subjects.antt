-- The node that an export names.
use Rattle.std.{proofs.Common.{◌≡◌, ◌≢◌, ◌<◌, ℕ, List, Some, subst, arith}, specs.Prelude.{All}}
use Rattle.plan_values.specs.declared.plan.Plan.{Plan}
use Rattle.net_rules.specs.Names.{name_of}
use Rattle.command_answers.specs.Naming.{IsFirstNamed}
use Rattle.command_questions.specs.declared.exports.Export.{Export}
use Rattle.export_commands.specs.Exporting.{HasBus, HasForm, IsNamedIn}
use Rattle.plan_exports.specs.declared.links.Link.{Link}

-- there is one first node of a name
first_alone : (plan : Plan) (name : List ℕ) (m n : ℕ) → IsFirstNamed plan name m → IsFirstNamed plan name n → m ≡ n
first_alone plan name m n one other =
    let not_less : ¬ (m < n) = λ less. other.first m less one.named in
    let not_more : ¬ (n < m) = λ more. one.first n more other.named in
    omega (arith, not_less, not_more)

module _ (export : Export) (links : List Link) (plan : Plan) where
  -- where no node has the name, the export names none
  pub none_named : ((n : ℕ) → name_of plan n ≢ Some export.node.now) → ¬ IsNamedIn export links plan
  none_named none (n, subject) = none n subject.named.named

  -- nor where the first node of the name lacks what the form is of
  pub none_formed : (n : ℕ) → IsFirstNamed plan export.node.now n → ¬ HasForm export.kind plan n → ¬ IsNamedIn export links plan
  none_formed n first none (m, subject) = none (subst (HasForm export.kind plan) (first_alone plan export.node.now m n subject.named first) subject.formed)

  -- nor where a link's bus is none of the plan's
  pub none_linked : ¬ All (λ (link : Link). HasBus plan link.bus.now) links → ¬ IsNamedIn export links plan
  none_linked none (n, subject) = none subject.linked
