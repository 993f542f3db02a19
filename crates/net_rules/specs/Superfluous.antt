-- What a certificate gives that the plan has no use for.
use Rattle.std.specs.Prelude.{◌≡◌, ◌≢◌, ℕ, ◌<◌, ◌≤◌, List, length, None}
use Rattle.plan_values.{specs.declared.plan.Plan.{Plan}, specs.declared.certificate.Certificate.{Certificate}, specs.declared.certificate.RankRange.{RankRange}}
use Rattle.net_tables.{specs.Routing.{Holds}, specs.TwoPlans.{Tables, HasRowEver}, specs.Ranks.{rank, rank_in}, specs.Ownership.{owner_of, given_level}, specs.Repositories.{records_of, places_of}}

-- a node without an owner is given no level
unfoldable pub NeedsItsLevel : Plan → Certificate → ℕ → Type 0
NeedsItsLevel plan cert n = owner_of plan n ≡ None → given_level cert n ≡ 0

-- a node is given no more places than its terminus has records; none where it has no terminus, and so no records
unfoldable pub NeedsItsPlaces : Plan → Certificate → ℕ → Type 0
NeedsItsPlaces plan cert n = length (places_of cert n) ≤ length (records_of plan n)

-- a node of the plan is given no level and no places beyond its need
unfoldable pub NeedsWhatItIsGiven : Plan → Certificate → ℕ → Type 0
NeedsWhatItIsGiven plan cert n = n < length plan.nodes.items → NeedsItsLevel plan cert n × NeedsItsPlaces plan cert n

-- a node of the plan is given a rank for e only where it doesn't hold e and ever has a row for it
unfoldable pub NeedsItsRank : Tables → Certificate → ℕ → ℕ → Type 0
NeedsItsRank tables cert n e =
    n < length tables.plan.nodes.items → e ≤ 255 → rank cert n e ≢ 0 → ¬ Holds tables.plan n e × HasRowEver tables n e

-- and so where these ranges give n its rank
abbrev pub NeedsRankBy : Tables → ℕ → List RankRange → ℕ → Type 0
NeedsRankBy tables n ranges e = rank_in ranges e ≢ 0 → ¬ Holds tables.plan n e × HasRowEver tables n e
