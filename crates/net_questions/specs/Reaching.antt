-- Who reaches whom along rows, and by how many moves.
use Rattle.std.{specs.Prelude.{◌≡◌, ℕ, ◌<◌, ◌≤◌, ◌==◌, List, [], ◌∷◌, length, slice_get, Option, Some, MatchOption, option_and_then, if◌then◌else◌}, specs.List.{flat_map, range_with_len}}
use Rattle.plan_values.{specs.declared.plan.Plan.{Plan}, specs.declared.certificate.Certificate.{Certificate}}
use Rattle.net_tables.{specs.Routing.{Holds, HasRow, MovesTo}, specs.Ranks.{rank}}
use Rattle.net_rules.{specs.Circles.{HasNoCircle}, specs.Moves.{Leads}}
use Rattle.net_questions.{specs.declared.hops.HopsTo.{HopsTo}, specs.declared.pair.Pair.{Pair}}

-- so many moves along rows lead what is for e from n to a holder of e
abbrev pub Reaches : Plan → ℕ → ℕ → ℕ → Type 0
Reaches plan e n moves = (m : ℕ) × Leads (MovesTo plan e) n moves m × Holds plan m e

-- following rows from n for e ends at a node that neither holds e nor has a row for it
abbrev pub IsStranded : Plan → ℕ → ℕ → Type 0
IsStranded plan e n = (moves m : ℕ) × Leads (MovesTo plan e) n moves m × ¬ Holds plan m e × ¬ HasRow plan m e

-- so many moves lead from n to a holder of e; none where following rows ends elsewhere
abbrev pub IsReach : Plan → ℕ → ℕ → Option ℕ → Type 0
IsReach plan e n hops = MatchOption hops (IsStranded plan e n) (Reaches plan e n)

-- following rows never leads back to a node
abbrev pub NeverCircles : Plan → Type 0
NeverCircles plan = (e : ℕ) → HasNoCircle (MovesTo plan e)

-- a list has so many numbers of moves for e, one from each node
abbrev pub AreHopsTo : Plan → ℕ → ℕ → List (Option ℕ) → Type 0
AreHopsTo plan e count hops =
    (length hops ≡ count) × ((n : ℕ) (found : Option ℕ) → slice_get hops n ≡ Some found → IsReach plan e n found)

-- for each of the first nodes, as many as are said, the numbers of moves from each node to its EID
abbrev pub AreHopsToEach : Plan → ℕ → List HopsTo → Type 0
AreHopsToEach plan count table = (length table ≡ count)
    × ((to e : ℕ) (one : HopsTo) → slice_get table to ≡ Some one → Holds plan to e
    → AreHopsTo plan e (length plan.nodes.items) one.from_each.items)

-- the number of moves that the table has from a node to another
abbrev pub hops_in : List HopsTo → ℕ → ℕ → Option ℕ
hops_in table from to =
    option_and_then (λ one. option_and_then (λ hops. hops) (slice_get one.from_each.items from)) (slice_get table to)

-- two nodes with the numbers of moves there and back, none of one node with itself
abbrev pub pair_between : (ℕ → ℕ → Option ℕ) → ℕ → ℕ → List Pair
pair_between hops a b = if a == b then [] else record { from = a; to = b; there = hops a b; back = hops b a } ∷ []

-- a node with each other of so many
abbrev pub pairs_from : ℕ → (ℕ → ℕ → Option ℕ) → ℕ → List Pair
pairs_from count hops a = flat_map (pair_between hops a) (range_with_len 0 count)

-- Each two different nodes, in plan order, with the numbers of moves there and back, none where there is no way;
-- no number is over the certified rank.
pub record ArePairs (plan : Plan) (cert : Certificate) (pairs : List Pair) : Type 0 where
  pub hops : ℕ → ℕ → Option ℕ
  pub exact : (a b e : ℕ) → a < length plan.nodes.items → Holds plan b e → IsReach plan e a (hops a b)
  pub within : (a b e moves : ℕ) → a < length plan.nodes.items → Holds plan b e → hops a b ≡ Some moves
      → moves ≤ rank cert a e
  pub listed : pairs ≡ flat_map (pairs_from (length plan.nodes.items) hops) (range_with_len 0 (length plan.nodes.items))
