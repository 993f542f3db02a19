use Rattle.std.{proofs.Common.{◌≡◌, ◌<◌, ◌+◌, ◌++◌, ◌∷◌, [], List, length, map, take, subst, sym, ap, ◌∙◌, arith, rules}, specs.Prelude.{◌↔◌, Contains}, proofs.lemmas.List.{take_all}}
use Rattle.plan_differences.{specs.declared.fact.Fact.{Fact}, specs.Differences.{AreOnlyIn}, specs.DifferenceLines.{fact_text}, specs.Facts.{FactValue, fact_value}, specs.Indexes.{listed, of_words}, proofs.Telling.{none_only, only_kept, only_more}, proofs.Indexes.{among_its_words, values_more}, proofs.difference.only_in.Goals.{then-not-is_said+in_ok-push, else-not-is_said}}
use Rattle.plan_differences.proofs.difference.only_in.Goals as goal

pub loop-fact-init : goal.loop-fact-init
loop-fact-init c =
    let none : c.new-only.result.items ≡ [] = search rules in
    subst (AreOnlyIn [] (map fact_value c.args.others.now)) (sym none) (none_only c.args.facts.now (map fact_value c.args.others.now))

pub loop-fact-preserved : goal.loop-fact-preserved
loop-fact-preserved c =
    let facts = c.args.facts.now in
    let those = map fact_value c.args.others.now in
    let k = c.loop-fact.fact-index in
    let only = c.loop-fact.only.items in
    let f = c.fact-item.result in
    let v = fact_value f in
    let within : k < length facts = omega arith in
    let more = values_more facts k f within c.fact-item.is in
    let words = c.deref.result.now in
    let own : words ≡ fact_text v = search rules in
    let here = listed c.in_ok-index.index words in
    let its : here ≡ of_words fact_text c.args.others.now (fact_text v) = c.in_ok-index.ensures words ∙ ap (of_words fact_text c.args.others.now) own in
    let so = subst (λ (xs : List Fact). Contains (map fact_value xs) v ↔ Contains those v) (sym its) (among_its_words fact_text c.args.others.now v) in
    elim c.if-not-is_said.branch [
      | then-not-is_said+in_ok-push w ↦ (
          let not : ¬ Contains (map fact_value here) v = search rules in
          let pushed : c.if-not-is_said.only.items ≡ only ++ f ∷ [] = search rules in
          subst (AreOnlyIn (map fact_value (take (k + 1) facts)) those) (sym pushed)
          (subst (λ (vs : List FactValue). AreOnlyIn vs those (only ++ f ∷ [])) (sym more) (only_more (map fact_value (take k facts)) those only f c.loop-fact.invariant (λ there. not (so.1 there)))))
      | else-not-is_said w ↦ (
          let is : Contains (map fact_value here) v = search rules in
          let kept : c.if-not-is_said.only.items ≡ only = search rules in
          subst (AreOnlyIn (map fact_value (take (k + 1) facts)) those) (sym kept)
          (subst (λ (vs : List FactValue). AreOnlyIn vs those only) (sym more) (only_kept (map fact_value (take k facts)) those only f c.loop-fact.invariant (so.0 is))))
    ]

pub returns : goal.returns
returns c =
    subst (λ (xs : List Fact). AreOnlyIn (map fact_value xs) (map fact_value c.args.others.now) c.loop-fact.only.items)
    (take_all c.loop-fact.fact-index c.args.facts.now (omega arith)) c.loop-fact.invariant
