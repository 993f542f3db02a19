use Rattle.std.{proofs.Common.{◌≡◌, ◌≢◌, ◌<◌, List, length, map, subst, refl, arith, rules}, specs.Prelude.{Contains}, proofs.lemmas.List.{take_all}}
use Rattle.plan_differences.{specs.declared.fact.Fact.{Fact}, specs.Facts.{fact_value}, proofs.Indexes.{none_more}, proofs.Items.{contains_map, contains_none, contains_read}}
use Rattle.plan_differences.proofs.index.is_among.Goals as goal

pub loop-other-init : goal.loop-other-init
loop-other-init c = λ there. contains_none (fact_value c.args.fact.now) there

pub returns-then-is_same : goal.returns-then-is_same
returns-then-is_same c =
    let facts = c.args.facts.now in
    let k = c.loop-other.other-index in
    let f = c.other-item.result in
    let within : k < length facts = omega arith in
    let same : fact_value f ≡ fact_value c.args.fact.now = search rules in
    (λ so. subst (Contains (map fact_value facts)) same (contains_map fact_value facts f (contains_read facts k f within c.other-item.is)), λ there. refl)

pub loop-other-preserved : goal.loop-other-preserved
loop-other-preserved c =
    let facts = c.args.facts.now in
    let k = c.loop-other.other-index in
    let f = c.other-item.result in
    let within : k < length facts = omega arith in
    let other : fact_value f ≢ fact_value c.args.fact.now = search rules in
    none_more facts k f (fact_value c.args.fact.now) within c.other-item.is other c.loop-other.invariant

pub returns : goal.returns
returns c =
    let facts = c.args.facts.now in
    let none = subst (λ (xs : List Fact). ¬ Contains (map fact_value xs) (fact_value c.args.fact.now)) (take_all c.loop-other.other-index facts (omega arith)) c.loop-other.invariant in
    (λ so. cc so, λ there. absurd (none there))
