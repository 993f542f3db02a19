use Rattle.std.proofs.Common.{◌≡◌, List, sym, ◌∙◌, ap, subst, arith, rules, inl, inr}
use Rattle.plan_values.specs.declared.certificate.RankRange.{RankRange}
use Rattle.net_tables.{specs.Ranks.{ranges_of}, proofs.Elements.{in_push}}
use Rattle.net_rules.specs.RanksByEid.{AreRangesByNode}
use Rattle.net_rules.proofs.certified_ranks.CertifiedRanks.of.Goals as goal

pub loop-node-preserved : goal.loop-node-preserved
loop-node-preserved c =
    let cert = c.args.certificate.now in
    let old = c.loop-node.by_node.items in
    let made = c.of.result in
    let A : List (List RankRange) → Type 0 = AreRangesByNode cert in
    let is_made : made ≡ ranges_of cert c.loop-node.node = c.of.ensures ∙ c.ranges_at.ensures in
    record {
      long = search rules;
      ranges = subst A (sym c.in_ok-push.ensures.items) (λ n item is. elim (in_push old made n item is) [
        | inl before ↦ c.loop-node.invariant.ranges n item before
        | inr (at, same) ↦ (
            let here : n ≡ c.loop-node.node = omega (arith, at, c.loop-node.invariant.long) in
            sym same ∙ (is_made ∙ ap (λ k. ranges_of cert k) (sym here)))
      ]);
    }
