-- The ranges that give ranks, in order, and by node.
use Rattle.std.specs.Prelude.{◌≡◌, ℕ, ◌+◌, List}
use Rattle.plan_values.{specs.declared.certificate.RankRange.{RankRange}, specs.declared.certificate.Certificate.{Certificate}}
use Rattle.net_tables.{specs.Routing.{OfItem}, specs.Ranks.{ranges_of}}
use Rattle.net_rules.specs.Following.{Follow}

-- the number after that of the range's last EID
abbrev pub range_past : RankRange → ℕ
range_past range = range.first.value + range.size

-- each range ends before any later one begins
abbrev pub RangesFollow : List RankRange → Type 0
RangesFollow ranges = Follow (λ range. range.first.value) range_past ranges

-- lists of ranges by the index of a node, each as the certificate gives it to that node
abbrev pub AreRangesByNode : Certificate → List (List RankRange) → Type 0
AreRangesByNode cert lists = (n : ℕ) → OfItem lists n (λ ranges. ranges ≡ ranges_of cert n)
