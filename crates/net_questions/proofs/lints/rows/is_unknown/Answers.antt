use Rattle.std.{proofs.Common.{◌≡◌, sym, ◌∙◌, subst, arith}, proofs.lemmas.Option.{same_Some}}
use Rattle.net_questions.specs.Lint.{NobodyHasRow}
use Rattle.net_tables.proofs.Elements.{holder_within}
use Rattle.net_questions.proofs.lints.rows.is_unknown.Goals as goal

pub returns-then-node-len : goal.returns-then-node-len
returns-then-node-len c =
    let e = c.eid_at.result.value in (
      λ h. (e, c.eid_at.ensures, c.nobody_has_row.ensures.0 h),
      λ so. (
          let same : so.0 ≡ e = same_Some so.0 e (sym so.1 ∙ c.eid_at.ensures) in
          c.nobody_has_row.ensures.1 (subst (λ k. NobodyHasRow c.args.plan.now k) same so.2)),
    )

pub returns-else-node-len : goal.returns-else-node-len
returns-else-node-len c = (λ h. absurd (cc h), λ so. absurd (let lt = holder_within c.args.plan.now c.args.node so.0 so.1 in omega (arith, lt)))
