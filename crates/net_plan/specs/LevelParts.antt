-- What is gathered of a level, a key after another.
use Rattle.std.specs.Prelude.{ℕ, codes, List, [], ◌∷◌, Option}
use Rattle.serde_json.specs.Data.{Data}
use Rattle.net_plan.{specs.CertificateText.{IsLevelOf}, specs.Gathered.{Slot, slot}, specs.JsonWords.{IsName, IsNumberWithin}, specs.NameIndexes.{IsIndexOf}, specs.declared.level_parts.LevelParts.{LevelParts}}
use Rattle.plan_values.specs.CertificateValues.{LevelValue}

abbrev pub level_slots : LevelParts → List Slot
level_slots p =
    slot (codes "level") (IsNumberWithin 1 63) p.level ∷ slot (codes "node") (λ d name. IsName d name.now) p.node ∷ []

-- the level of a node whose index is found
abbrev pub IsLevelBy : (List ℕ → Option ℕ) → Data → LevelValue → Type 0
IsLevelBy find d l = (names : List (List ℕ)) → IsIndexOf find names → IsLevelOf names d l
