-- What is gathered of ranks, a key after another.
use Rattle.std.specs.Prelude.{ℕ, codes, List, [], ◌∷◌, map, Option}
use Rattle.serde_json.specs.Data.{Data}
use Rattle.net_plan.{specs.CertificateText.{IsRangeOf, AreRanksOf}, specs.Gathered.{Slot, slot}, specs.JsonWords.{IsName, IsNumberWithin, IsListOf}, specs.NameIndexes.{IsIndexOf}, specs.PlanText.{IsByte}, specs.declared.rank_parts.RangeParts.{RangeParts}, specs.declared.rank_parts.RanksParts.{RanksParts}}
use Rattle.plan_values.specs.CertificateValues.{NodeRanksValue, range_value}

abbrev pub range_slots : RangeParts → List Slot
range_slots p =
    slot (codes "first") IsByte p.first ∷ slot (codes "rank") (IsNumberWithin 1 255) p.rank
    ∷ slot (codes "size") (IsNumberWithin 1 255) p.size ∷ []

abbrev pub ranks_slots : RanksParts → List Slot
ranks_slots p =
    slot (codes "node") (λ d name. IsName d name.now) p.node
    ∷ slot (codes "ranges") (λ d v. IsListOf IsRangeOf d (map range_value v.items)) p.ranges ∷ []

-- the ranks of a node whose index is found
abbrev pub AreRanksBy : (List ℕ → Option ℕ) → Data → NodeRanksValue → Type 0
AreRanksBy find d r = (names : List (List ℕ)) → IsIndexOf find names → AreRanksOf names d r
