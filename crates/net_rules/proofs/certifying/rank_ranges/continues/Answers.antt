use Rattle.std.{proofs.Common.{sym, subst, ◌∙◌}, proofs.lemmas.Option.{same_Some}}
use Rattle.plan_values.specs.declared.certificate.RankRange.{RankRange}
use Rattle.net_rules.specs.RankRuns.{Precedes}
use Rattle.net_rules.proofs.certifying.rank_ranges.continues.Goals as goal

pub returns-in-Some : goal.returns-in-Some
returns-in-Some c =
    let P : RankRange → Type 0 = λ range. Precedes range c.args.eid.value c.args.rank in (
      λ so. (c.in-Some.last.now, sym c.in-Some.ensures.value, c.precedes.ensures.0 so),
      λ (last, is, precedes). c.precedes.ensures.1 (subst P (same_Some last c.in-Some.last.now (sym is ∙ sym c.in-Some.ensures.value)) precedes),
    )
