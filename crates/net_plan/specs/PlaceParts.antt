-- What is gathered of the places of records, a key after another.
use Rattle.std.specs.Prelude.{ℕ, codes, List, [], ◌∷◌, map, Option}
use Rattle.serde_json.specs.Data.{Data}
use Rattle.net_plan.{specs.CertificateText.{ArePlacesOf}, specs.Gathered.{Slot, slot}, specs.JsonWords.{IsName, IsNumberWithin, IsListOf}, specs.NameIndexes.{IsIndexOf}, specs.declared.place_parts.PlacesParts.{PlacesParts}}
use Rattle.plan_values.specs.CertificateValues.{PlacesValue}

abbrev pub places_slots : PlacesParts → List Slot
places_slots p =
    slot (codes "node") (λ d name. IsName d name.now) p.node
    ∷ slot (codes "places") (λ d v. IsListOf (IsNumberWithin 0 4095) d (map (λ place. place.value) v.items)) p.places
    ∷ []

-- the places of the records of a node whose index is found
abbrev pub ArePlacesBy : (List ℕ → Option ℕ) → Data → PlacesValue → Type 0
ArePlacesBy find d p = (names : List (List ℕ)) → IsIndexOf find names → ArePlacesOf names d p
