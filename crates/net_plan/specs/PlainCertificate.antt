-- What is gathered of a certificate, a key after another.
use Rattle.std.specs.Prelude.{ℕ, codes, List, [], ◌∷◌, map, Option}
use Rattle.serde_json.specs.Data.{Data}
use Rattle.net_plan.{specs.CertificateText.{IsCertificateOf}, specs.Gathered.{Slot, slot}, specs.JsonWords.{IsNumberWithin, IsListOf}, specs.LevelParts.{IsLevelBy}, specs.PlaceParts.{ArePlacesBy}, specs.NameIndexes.{noted, IsIndexOf}, specs.RankParts.{AreRanksBy}, specs.declared.plain_certificate.CertificateParts.{CertificateParts}}
use Rattle.plan_values.{specs.CertificateValues.{CertificateValue, level_value, places_value, node_ranks_value}, specs.PlanValues.{PlanValue, node_names}}

abbrev pub certificate_slots : CertificateParts → List Slot
certificate_slots p =
    slot (codes "format") (IsNumberWithin 1 1) p.format
    ∷ slot (codes "levels") (λ d v. IsListOf (IsLevelBy (noted p.nodes.now)) d (map level_value v.items)) p.levels
    ∷ slot (codes "places") (λ d v. IsListOf (ArePlacesBy (noted p.nodes.now)) d (map places_value v.items)) p.places
    ∷ slot (codes "ranks") (λ d v. IsListOf (AreRanksBy (noted p.nodes.now)) d (map node_ranks_value v.items)) p.ranks
    ∷ []

-- a certificate of the nodes whose indices are found
abbrev pub IsCertificateBy : (List ℕ → Option ℕ) → Data → CertificateValue → Type 0
IsCertificateBy find d c = (plan : PlanValue) → IsIndexOf find (node_names plan.nodes) → IsCertificateOf plan d c
