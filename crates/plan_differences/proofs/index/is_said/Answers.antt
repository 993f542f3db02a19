use Rattle.std.{proofs.Common.{rules, ◌≡◌, List, [], map, subst, sym, ap, ◌∙◌}, specs.Prelude.{◌↔◌, Contains, IsTrue}, specs.Option.{option_copied, option_map_or}}
use Rattle.plan_differences.{specs.declared.fact.Fact.{Fact}, specs.Facts.{fact_value}, specs.Indexes.{listed}, proofs.Items.{contains_none}}
use Rattle.plan_differences.proofs.index.is_said.Goals as goal

pub returns-in-Some : goal.returns-in-Some
returns-in-Some c =
    let found : listed c.args.index.now c.args.words.now ≡ c.in-Some.facts.now.items = ap (λ o. option_map_or (λ p. p.items) o []) (sym c.get.ensures.value ∙ ap option_copied c.in-Some.is) in
    let same : c.deref.result.now ≡ c.in-Some.facts.now.items = search rules in
    subst (λ (xs : List Fact). IsTrue c.is_among.result ↔ Contains (map fact_value xs) (fact_value c.args.fact.now)) (same ∙ sym found) c.is_among.ensures

pub returns-in-None : goal.returns-in-None
returns-in-None c =
    let none : listed c.args.index.now c.args.words.now ≡ [] = ap (λ o. option_map_or (λ p. p.items) o []) (sym c.get.ensures.value ∙ ap option_copied c.in-None.is) in
    (λ so. cc so, λ there. absurd (contains_none (fact_value c.args.fact.now) (subst (λ (xs : List Fact). Contains (map fact_value xs) (fact_value c.args.fact.now)) none there)))
