-- Which certificate a JSON value is.
use Rattle.std.specs.Prelude.{ℕ, ◌≢◌, ◌+◌, ◌≤◌, codes, List, AllPairs}
use Rattle.serde_json.specs.Data.{Data}
use Rattle.net_plan.{specs.Keys.{certificate_keys, level_keys, places_keys, ranks_keys, range_keys}, specs.JsonWords.{HasKeys, At, IsListOf, IsNumber, IsNumberWithin, IsIndexOfName}, specs.PlanText.{IsByte}}
use Rattle.plan_values.{specs.CertificateValues.{LevelValue, PlacesValue, RangeValue, NodeRanksValue, CertificateValue, IsAscending}, specs.PlanValues.{PlanValue, node_names}}

-- the level of the first node of a name
pub record IsLevelOf (nodes : List (List ℕ)) (d : Data) (l : LevelValue) : Type 0 where
  pub keys : HasKeys level_keys d
  pub level : At (codes "level") (IsNumberWithin 1 63) d l.level
  pub node : At (codes "node") (IsIndexOfName nodes) d l.node

-- the places of the records of the first node of a name
pub record ArePlacesOf (nodes : List (List ℕ)) (d : Data) (p : PlacesValue) : Type 0 where
  pub keys : HasKeys places_keys d
  pub node : At (codes "node") (IsIndexOfName nodes) d p.node
  pub places : At (codes "places") (IsListOf (IsNumberWithin 0 4095)) d p.places

-- a run of endpoint IDs that ends at 255 or before
pub record IsRangeOf (d : Data) (r : RangeValue) : Type 0 where
  pub keys : HasKeys range_keys d
  pub first : At (codes "first") IsByte d r.first
  pub rank : At (codes "rank") (IsNumberWithin 1 255) d r.rank
  pub size : At (codes "size") (IsNumberWithin 1 255) d r.size
  pub within : r.first + r.size ≤ 256

-- the ranks of the first node of a name
pub record AreRanksOf (nodes : List (List ℕ)) (d : Data) (r : NodeRanksValue) : Type 0 where
  pub keys : HasKeys ranks_keys d
  pub node : At (codes "node") (IsIndexOfName nodes) d r.node
  pub ranges : At (codes "ranges") (IsListOf IsRangeOf) d r.ranges
  pub ascending : IsAscending r.ranges

-- a certificate of a plan: none of its lists has two entries of one node
pub record IsCertificateOf (plan : PlanValue) (d : Data) (c : CertificateValue) : Type 0 where
  pub keys : HasKeys certificate_keys d
  pub format : At (codes "format") IsNumber d 1
  pub levels : At (codes "levels") (IsListOf (IsLevelOf (node_names plan.nodes))) d c.levels
  pub places : At (codes "places") (IsListOf (ArePlacesOf (node_names plan.nodes))) d c.places
  pub ranks : At (codes "ranks") (IsListOf (AreRanksOf (node_names plan.nodes))) d c.ranks
  pub one_level : AllPairs (λ a b. a.node ≢ b.node) c.levels
  pub one_places : AllPairs (λ a b. a.node ≢ b.node) c.places
  pub one_ranks : AllPairs (λ a b. a.node ≢ b.node) c.ranks
