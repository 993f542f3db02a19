use Rattle.std.proofs.Common.{ℕ, ◌≤◌, ◌<◌, ◌⊎◌, inl, inr, length, refl, arith, below_more}
use Rattle.plan_values.{specs.declared.plan.Plan.{Plan}, specs.declared.nodes.Row.{Row}}
use Rattle.net_tables.{specs.Routing.{Holds, Covers}, specs.Ownership.{IsInPoolOf}, proofs.Elements.{holder_within}}
use Rattle.net_questions.{specs.Lint.{LeadsToNobody}, proofs.Within.{pool_within}}
use Rattle.net_questions.proofs.lints.rows.leads_to_nobody.Goals as goal

nobody : (plan : Plan) (row : Row) (count : ℕ) → length plan.nodes.items ≤ count
    → ((m : ℕ) → m < count → ¬ ((e : ℕ) × Covers row e × (Holds plan m e ⊎ IsInPoolOf plan m e))) → LeadsToNobody plan row
nobody plan row count end none e m covers = (
  λ holds. (let lt = holder_within plan m e holds in none m (omega (arith, lt)) (e, covers, inl holds)),
  λ pool. (let lt = pool_within plan m e pool in none m (omega (arith, lt)) (e, covers, inr pool)),
)

somebody : (plan : Plan) (row : Row) (m e : ℕ) → Covers row e → Holds plan m e ⊎ IsInPoolOf plan m e → ¬ LeadsToNobody plan row
somebody plan row m e covers (inl holds) nobody = (nobody e m covers).0 holds
somebody plan row m e covers (inr pool) nobody = (nobody e m covers).1 pool

pub returns-then-leads_to : goal.returns-then-leads_to
returns-then-leads_to c =
    let (e, covers, there) = c.leads_to.ensures.0 c.if-leads_to.true in
    (λ h. absurd (cc h), λ idle. absurd (somebody c.args.plan.now c.args.row.now c.loop-node.node e covers there idle))

pub loop-node-preserved : goal.loop-node-preserved
loop-node-preserved c = below_more _ _ c.loop-node.invariant (λ there. cc (c.leads_to.ensures.1 there, c.if-leads_to.false))

pub returns : goal.returns
returns c = (λ _. nobody c.args.plan.now c.args.row.now c.loop-node.node (omega arith) c.loop-node.invariant, λ _. refl)
