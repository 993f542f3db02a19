use Rattle.std.{proofs.Common.{◌≡◌, ◌≢◌, ◌∙◌, ℕ, Some, ap, subst}, specs.Prelude.{MatchOption}}
use Rattle.plan_values.specs.declared.plan.Plan.{Plan}
use Rattle.net_rules.specs.Names.{name_of}
use Rattle.command_answers.specs.Naming.{IsFirstNamed}
use Rattle.plan_differences.proofs.OtherWays.{node_found, node_missing}
use Rattle.plan_differences.proofs.ways.same_node.Goals as goal

pub returns-in-Some : goal.returns-in-Some
returns-in-Some c =
    let n = c.args.node in
    let name = c.in-Some.name.now in
    let here : Some name ≡ name_of c.args.before.now.0 n = c.in-Some.ensures ∙ ap (λ (p : Plan). name_of p n) c.plan.ensures.plan in
    node_found c.args.before.now.0 c.args.after.now.0 n name c.first_named.result here
    (subst (λ (p : Plan). MatchOption c.first_named.result ((k : ℕ) → name_of p k ≢ Some name) (IsFirstNamed p name)) c.plan-in-Some.ensures.plan c.first_named.ensures)

pub returns-in-None : goal.returns-in-None
returns-in-None c = λ m. node_missing c.args.before.now.0 c.args.after.now.0 c.args.node m (c.in-None.ensures ∙ ap (λ (p : Plan). name_of p c.args.node) c.plan.ensures.plan)
