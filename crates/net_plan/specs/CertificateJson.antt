-- The text of a certificate.
use Rattle.std.specs.Prelude.{ℕ, ◌++◌, codes, List, [], ◌∷◌, map, slice_index_or}
use Rattle.serde_json.{specs.Data.{Data, number, unsigned, string, array, object, no_members, member}, specs.View.{items_of}, specs.Written.{compact_text}}
use Rattle.plan_values.specs.CertificateValues.{LevelValue, PlacesValue, RangeValue, NodeRanksValue, CertificateValue}

abbrev pub list_data : {A : Type 0} → (A → Data) → List A → Data
list_data f xs = array (items_of (map f xs))

abbrev pub number_data : ℕ → Data
number_data n = number (unsigned n)

-- the name of the node at an index
abbrev pub name_data : List (List ℕ) → ℕ → Data
name_data nodes index = string (slice_index_or nodes index [])

abbrev pub level_data : List (List ℕ) → LevelValue → Data
level_data nodes l =
    object (member (codes "level") (number_data l.level) (member (codes "node") (name_data nodes l.node) no_members))

abbrev pub places_data : List (List ℕ) → PlacesValue → Data
places_data nodes p =
    object (member (codes "node") (name_data nodes p.node)
    (member (codes "places") (list_data number_data p.places) no_members))

abbrev pub range_data : RangeValue → Data
range_data r =
    object (member (codes "first") (number_data r.first) (member (codes "rank") (number_data r.rank)
    (member (codes "size") (number_data r.size) no_members)))

abbrev pub ranks_data : List (List ℕ) → NodeRanksValue → Data
ranks_data nodes r =
    object (member (codes "node") (name_data nodes r.node)
    (member (codes "ranges") (list_data range_data r.ranges) no_members))

-- a certificate of nodes with these names; the keys of each object are in the order of their letters
unfoldable pub certificate_data : List (List ℕ) → CertificateValue → Data
certificate_data nodes c =
    object (member (codes "format") (number_data 1) (member (codes "levels") (list_data (level_data nodes) c.levels)
    (member (codes "places") (list_data (places_data nodes) c.places)
    (member (codes "ranks") (list_data (ranks_data nodes) c.ranks) no_members))))

-- its text: no spaces, one line, and the line's end
abbrev pub certificate_text : List (List ℕ) → CertificateValue → List ℕ
certificate_text nodes c = compact_text (certificate_data nodes c) ++ 10 ∷ []
