-- What is told of a change.
use Rattle.std.{proofs.Common.{◌≡◌, ◌≢◌, ◌<◌, ℕ, List, [], ◌∷◌, ◌++◌, length, map, subst, sym, ◌∙◌, arith}, specs.Prelude.{codes}, specs.List.{flat_map}}
use Rattle.plan_values.specs.declared.plan.Plan.{Plan}
use Rattle.plan_differences.{specs.declared.difference.Difference.{Difference}, specs.declared.fact.Fact.{Fact}, specs.Facts.{FactValue, fact_value, plan_facts}, specs.Differences.{AreDifferences}, specs.DifferenceLines.{difference_text}, specs.Changes.{AreChangesTold, AreConsequencesTold, AreFactsTold}}

pub none_told : (olds news : List FactValue) (told : List Difference) (text : List ℕ) → AreDifferences olds news told → length told ≡ 0
    → text ≡ codes "changed order of lists\n" → AreFactsTold olds news text
none_told olds news [] text are none is = ([], are, is)
none_told olds news (d ∷ ds) text are none is = absurd (omega (arith, none))

pub some_told : (olds news : List FactValue) (told : List Difference) (text : List ℕ) → AreDifferences olds news told → 0 < length told
    → text ≡ flat_map difference_text told → AreFactsTold olds news text
some_told olds news [] text are some is = absurd (omega (arith, some))
some_told olds news (d ∷ ds) text are some is = (d ∷ ds, are, is)

pub changes_so : (before after : Plan) (olds news : List Fact) (facts consequences text : List ℕ) → map fact_value olds ≡ plan_facts before → map fact_value news ≡ plan_facts after
    → map fact_value olds ≢ map fact_value news → AreFactsTold (map fact_value olds) (map fact_value news) facts → AreConsequencesTold before after consequences → text ≡ facts ++ consequences
    → (plan_facts before ≢ plan_facts after) × AreChangesTold before after text
changes_so before after olds news facts consequences text is are differ told rest whole = (
  λ same. differ (is ∙ (same ∙ sym are)),
  (facts, consequences, subst (λ (xs : List FactValue). AreFactsTold xs (plan_facts after) facts) is (subst (λ (ys : List FactValue). AreFactsTold (map fact_value olds) ys facts) are told), rest, whole),
)
