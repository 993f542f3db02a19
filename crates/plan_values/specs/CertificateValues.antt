-- A certificate as plain lists and numbers.
use Rattle.std.{specs.Prelude.{ℕ, ◌+◌, ◌≤◌, ◌&&◌, List, map, Bool, nat_lt, AllPairs}, specs.List.{list_all}}
use Rattle.plan_values.{specs.declared.certificate.Certificate.{Certificate}, specs.declared.certificate.NodeLevel.{NodeLevel}, specs.declared.certificate.NodePlaces.{NodePlaces}, specs.declared.certificate.NodeRanks.{NodeRanks}, specs.declared.certificate.RankRange.{RankRange}}

-- `node` is the index of the node in the plan's list
pub record LevelValue : Type 0 where
  pub level : ℕ
  pub node : ℕ

-- the places of a node's records along the next handles, in the order of the node's list
pub record PlacesValue : Type 0 where
  pub node : ℕ
  pub places : List ℕ

-- `size` endpoint IDs from the first on, all of one rank
pub record RangeValue : Type 0 where
  pub first : ℕ
  pub rank : ℕ
  pub size : ℕ

-- `node` is the index of the node in the plan's list
pub record NodeRanksValue : Type 0 where
  pub node : ℕ
  pub ranges : List RangeValue

pub record CertificateValue : Type 0 where
  pub levels : List LevelValue
  pub places : List PlacesValue
  pub ranks : List NodeRanksValue

abbrev pub level_value : NodeLevel → LevelValue
level_value l = record { level = l.level; node = l.node }

abbrev pub places_value : NodePlaces → PlacesValue
places_value p = record { node = p.node; places = map (λ place. place.value) p.places.items }

abbrev pub range_value : RankRange → RangeValue
range_value r = record { first = r.first.value; rank = r.rank; size = r.size }

abbrev pub node_ranks_value : NodeRanks → NodeRanksValue
node_ranks_value r = record { node = r.node; ranges = map range_value r.ranges.items }

abbrev pub certificate_value : Certificate → CertificateValue
certificate_value c =
    record {
      levels = map level_value c.levels.items;
      places = map places_value c.places.items;
      ranks = map node_ranks_value c.ranks.items;
    }

-- each range ends before every later one begins
abbrev pub IsAscending : List RangeValue → Type 0
IsAscending rs = AllPairs (λ a b. a.first + a.size ≤ b.first) rs

-- all entries are of one of so many nodes
abbrev pub are_known : ℕ → CertificateValue → Bool
are_known nodes c =
    list_all (λ l. nat_lt l.node nodes) c.levels
    && (list_all (λ p. nat_lt p.node nodes) c.places && list_all (λ r. nat_lt r.node nodes) c.ranks)
