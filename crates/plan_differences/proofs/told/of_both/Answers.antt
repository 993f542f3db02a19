use Rattle.std.{proofs.Common.{◌≡◌, ◌++◌, ◌∙◌, ap, subst, rules}, specs.Prelude.{IfOk, string_bytes}, specs.List.{flat_map}, proofs.lemmas.Result.{IfOk-weaker}}
use Rattle.plan_values.{specs.declared.certificate.Certificate.{Certificate}, specs.declared.plan.Plan.{Plan}}
use Rattle.plan_differences.specs.{WayDifferences.{AreOtherWays}, WayLines.{way_text}}
use Rattle.plan_differences.proofs.told.of_both.Goals as goal

pub returns : goal.returns
returns c =
    let before = c.args.before.now in
    let ways = c.in_ok-other_ways.field-0.items in
    let lines = string_bytes c.in_ok-ways.ways in
    let need = string_bytes c.in_ok-need.need in
    let here : AreOtherWays before c.in_ok-new.new.0 ways =
    subst (λ (p : Plan × Certificate). AreOtherWays p.0 c.in_ok-new.new.0 ways) c.in_ok-old.ensures c.in_ok-other_ways.ensures in
    let are : AreOtherWays before c.args.after.now ways = subst (λ (p : Plan × Certificate). AreOtherWays before p.0 ways) c.in_ok-new.ensures here in
    let told : lines ≡ flat_map (way_text before) ways = search rules in
    let whole : IfOk c.format.result (λ text. string_bytes text ≡ lines ++ need) = search rules in
    IfOk-weaker c.format.result _ _ (λ text is. record {
      ways = ways;
      differ = are;
      found = c.in_ok-rollout.field-0;
      holds = c.in_ok-rollout.ensures;
      need = need;
      line = c.in_ok-need.ensures;
      written = is ∙ ap (λ front. front ++ need) told;
    }) whole
