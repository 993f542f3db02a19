-- How the facts of two plans differ.
use Rattle.std.{specs.Prelude.{◌≡◌, ◌↔◌, List, [], ◌∷◌, All, Contains, map}, specs.List.{flat_map}}
use Rattle.plan_differences.{specs.declared.difference.Difference.{Difference}, specs.declared.difference.Difference.TheVariants.{Removed, Changed, Added}, specs.declared.difference.Side.{Side}, specs.declared.difference.Side.TheVariants.{Old, New}, specs.declared.fact.Fact.{Fact}, specs.DifferenceLines.{thing_text}, specs.Facts.{FactValue, fact_value}, specs.Indexes.{of_words}}

-- the fact is one of these, and isn't one of those
abbrev pub IsOnlyIn : (these those : List FactValue) → FactValue → Type 0
IsOnlyIn these those f = Contains these f × ¬ Contains those f

-- what is found are just the facts of these that aren't facts of those
abbrev pub AreOnlyIn : (these those : List FactValue) → List Fact → Type 0
AreOnlyIn these those found = (f : FactValue) → Contains (map fact_value found) f ↔ IsOnlyIn these those f

-- both facts are of one thing
abbrev pub AreOfOne : Fact → Fact → Type 0
AreOfOne f g = thing_text (fact_value f) ≡ thing_text (fact_value g)

-- What is told is so, where these facts are gone and those have come: a fact is gone and none has come of its thing, or
-- a fact has come and none of its thing is gone; or one is gone, and another one of its thing has come.
abbrev pub IsDifference : (gone come : List Fact) → Difference → Type 0
IsDifference gone come (Removed f) = Contains gone f × ((g : Fact) → Contains come g → ¬ AreOfOne g f)
IsDifference gone come (Changed f g) = Contains gone f × Contains come g × AreOfOne f g
IsDifference gone come (Added g) = Contains come g × ((f : Fact) → Contains gone f → ¬ AreOfOne f g)

-- Gone are just the facts that only the old plan says, and those have come that only the new one says. All that is told
-- of them is so, and where nothing is told, there are none.
pub record AreDifferences (olds news : List FactValue) (told : List Difference) : Type 0 where
  pub gone : List Fact
  pub come : List Fact
  pub are_gone : AreOnlyIn olds news gone
  pub have_come : AreOnlyIn news olds come
  pub each : All (IsDifference gone come) told
  pub none : told ≡ [] → (gone ≡ []) × (come ≡ [])

-- ---- parts of the work

-- those of the facts that are of the other one's thing
abbrev pub alike : List Fact → Fact → List Fact
alike facts f = of_words thing_text facts (thing_text (fact_value f))

-- what is told of a fact that one plan alone says, beside those of its thing that the other one alone says
abbrev pub of_fact : Side → Fact → List Fact → List Difference
of_fact Old f [] = Removed f ∷ []
of_fact Old f (g ∷ gs) = map (Changed f) (g ∷ gs)
of_fact New g [] = Added g ∷ []
of_fact New g (f ∷ fs) = []

-- what is told of all of them
abbrev pub told_of : Side → (facts others : List Fact) → List Difference
told_of side facts others = flat_map (λ f. of_fact side f (alike others f)) facts
