use Rattle.std.{proofs.Common.{◌≡◌, ℕ, sym, ◌∙◌, subst, arith}, proofs.lemmas.Option.{same_Some}}
use Rattle.net_questions.specs.Lint.{ComesTo}
use Rattle.net_tables.proofs.Elements.{holder_within}
use Rattle.net_questions.proofs.lints.ways.has_way.Goals as goal

pub returns-then-to-len : goal.returns-then-to-len
returns-then-to-len c =
    let e = c.eid_at.result.value in (
      λ h. (e, c.eid_at.ensures, c.comes_to.ensures.0 h),
      λ (k, holds, way). (
          let same : k ≡ e = same_Some k e (sym holds ∙ c.eid_at.ensures) in
          c.comes_to.ensures.1 (subst (λ (d : ℕ). ComesTo c.args.plan.now d c.args.from c.args.to) same way)),
    )

pub returns-else-to-len : goal.returns-else-to-len
returns-else-to-len c = (λ h. absurd (cc h), λ (k, holds, way). absurd (let lt = holder_within c.args.plan.now c.args.to k holds in omega (arith, lt)))
