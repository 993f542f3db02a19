use Rattle.std.{proofs.Common.{rules, ◌≡◌, [], sym, ap, ◌∙◌}, specs.Prelude.{IfOk}, specs.Option.{option_copied, option_map_or}, proofs.lemmas.Result.{IfOk-weaker}}
use Rattle.plan_differences.specs.Indexes.{listed}
use Rattle.plan_differences.proofs.index.listed.Goals as goal

pub returns-in-Some : goal.returns-in-Some
returns-in-Some c =
    let found : listed c.args.index.now c.args.words.now ≡ c.in-Some.facts.now.items = ap (λ o. option_map_or (λ p. p.items) o []) (sym c.get.ensures.value ∙ ap option_copied c.in-Some.is) in
    let same : IfOk c.to_vec.result (λ facts. facts.items ≡ c.in-Some.facts.now.items) = search rules in
    IfOk-weaker c.to_vec.result _ _ (λ facts is. is ∙ sym found) same

pub returns-in-None : goal.returns-in-None
returns-in-None c =
    let none : c.new.result.items ≡ [] = search rules in
    none ∙ sym (ap (λ o. option_map_or (λ p. p.items) o []) (sym c.get.ensures.value ∙ ap option_copied c.in-None.is))
