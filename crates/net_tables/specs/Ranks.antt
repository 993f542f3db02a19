-- The certified ranks, and that they fall along the rows.
use Rattle.std.specs.Prelude.{ℕ, ◌+◌, ◌<◌, List, [], Bool, ◌&&◌, ◌==◌, option_map, unwrap_or, find, nat_lt, nat_le}
use Rattle.plan_values.{specs.declared.plan.Plan.{Plan}, specs.declared.nodes.Row.{Row}, specs.declared.certificate.RankRange.{RankRange}, specs.declared.certificate.NodeRanks.{NodeRanks}, specs.declared.certificate.Certificate.{Certificate}}
use Rattle.net_tables.specs.Routing.{Holds}

-- e lies in the range
abbrev pub is_in_range : RankRange → ℕ → Bool
is_in_range range e = nat_le range.first.value e && nat_lt e (range.first.value + range.size)

-- the rank that the ranges give e: that of the first that has it, 0 where none does
abbrev pub rank_in : List RankRange → ℕ → ℕ
rank_in ranges e = unwrap_or (option_map (λ range. range.rank) (find (λ range. is_in_range range e) ranges)) 0

-- the ranges that give n its ranks
abbrev pub ranges_of : Certificate → ℕ → List RankRange
ranges_of cert n =
    unwrap_or (option_map (λ given. given.ranges.items) (find (λ given. given.node == n) cert.ranks.items)) []

-- the rank that the list gives n and e, 0 where it gives none
abbrev pub rank_given : List NodeRanks → ℕ → ℕ → ℕ
rank_given ranks n e =
    unwrap_or (option_map (λ given. rank_in given.ranges.items e) (find (λ given. given.node == n) ranks)) 0

abbrev pub rank : Certificate → ℕ → ℕ → ℕ
rank cert n e = rank_given cert.ranks.items n e

-- n holds e, or the rank is less at the row's next node
unfoldable pub Falls : Plan → Certificate → ℕ → Row → ℕ → Type 0
Falls plan cert n row e = ¬ Holds plan n e → rank cert row.next e < rank cert n e
