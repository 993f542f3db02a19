-- What is told of a change from one plan to another.
use Rattle.std.{specs.Prelude.{◌≡◌, ◌⊎◌, ℕ, List, [], ◌∷◌, ◌++◌, Some, codes}, specs.List.{flat_map}}
use Rattle.plan_values.specs.declared.plan.Plan.{Plan}
use Rattle.net_rules.specs.declared.certify_error.CertifyError.{CertifyError}
use Rattle.net_rollout.{specs.declared.change.Rollout.{Rollout}, specs.Steps.{HasCertificate, IsRollout}}
use Rattle.command_answers.specs.Certifying.{IsRuledOutBy}
use Rattle.plan_differences.{specs.declared.difference.Difference.{Difference}, specs.declared.ways.OtherWay.{OtherWay}, specs.Facts.{FactValue, plan_facts}, specs.Differences.{AreDifferences}, specs.DifferenceLines.{difference_text}, specs.WayDifferences.{AreOtherWays}, specs.WayLines.{need_text, way_text}}

-- a line for each difference; where there is none, and the facts aren't the same, they stand in another order
abbrev pub facts_text : List Difference → List ℕ
facts_text [] = codes "changed order of lists\n"
facts_text (d ∷ ds) = flat_map difference_text (d ∷ ds)

-- the text has the lines of differences, all of which are true
abbrev pub AreFactsTold : List FactValue → List FactValue → List ℕ → Type 0
AreFactsTold olds news text = (told : List Difference) × AreDifferences olds news told × (text ≡ facts_text told)

-- The text has the lines of the ways whose hops differ, and then the line of what a roll-out needs.
pub record AreWaysTold (before after : Plan) (text : List ℕ) : Type 0 where
  pub ways : List OtherWay
  pub differ : AreOtherWays before after ways
  pub found : Rollout
  pub holds : IsRollout before after found
  pub need : List ℕ
  pub line : need_text before found ≡ Some need
  pub written : text ≡ flat_map (way_text before) ways ++ need

-- the plan has no certificate, and the text says why, behind the words for the plan
abbrev pub IsRuledOut : Plan → List ℕ → List ℕ → Type 0
IsRuledOut plan whose text =
    (obstacle : CertifyError) × (line : List ℕ) × IsRuledOutBy plan obstacle line × (text ≡ whose ++ line)

-- so it does where the plan has no certificate, and nothing where it has one
abbrev pub IsReason : Plan → List ℕ → List ℕ → Type 0
IsReason plan whose text = (HasCertificate plan × (text ≡ [])) ⊎ IsRuledOut plan whose text

-- Where both plans have a certificate, the text tells of ways and a roll-out; otherwise it says of each that has none
-- why, of the old plan first.
abbrev pub AreConsequencesTold : Plan → Plan → List ℕ → Type 0
AreConsequencesTold before after text = (HasCertificate before × HasCertificate after × AreWaysTold before after text)
    ⊎ ((HasCertificate before × IsRuledOut after (codes "new: ") text)
    ⊎ ((old new : List ℕ) × IsRuledOut before (codes "old: ") old × IsReason after (codes "new: ") new
    × (text ≡ old ++ new)))

-- what differs, and what comes of it
abbrev pub AreChangesTold : Plan → Plan → List ℕ → Type 0
AreChangesTold before after text = (facts consequences : List ℕ)
    × AreFactsTold (plan_facts before) (plan_facts after) facts
    × AreConsequencesTold before after consequences × (text ≡ facts ++ consequences)
