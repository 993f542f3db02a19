-- The keys of each object.
use Rattle.std.specs.Prelude.{ℕ, List, [], ◌∷◌, codes}
use Rattle.net_plan.{specs.declared.plan_format.PlanFormat.{PlanFormat}, specs.declared.plan_format.PlanFormat.TheVariants.{One, Two}}

-- a plan of format 2 says its transmission unit
abbrev pub plan_keys : PlanFormat → List (List ℕ)
plan_keys One = codes "format" ∷ codes "buses" ∷ codes "nodes" ∷ []
plan_keys Two = codes "format" ∷ codes "unit" ∷ codes "buses" ∷ codes "nodes" ∷ []

abbrev pub bus_keys : List (List ℕ)
bus_keys = codes "name" ∷ codes "binding" ∷ codes "media" ∷ []

abbrev pub port_keys : List (List ℕ)
port_keys = codes "bus" ∷ codes "address" ∷ []

abbrev pub row_keys : List (List ℕ)
row_keys = codes "first" ∷ codes "size" ∷ codes "port" ∷ codes "next" ∷ []

abbrev pub node_keys : List (List ℕ)
node_keys =
    codes "name" ∷ codes "kind" ∷ codes "eid" ∷ codes "owner" ∷ codes "pool" ∷ codes "ports" ∷ codes "rows"
    ∷ codes "terminus" ∷ []

abbrev pub pool_keys : List (List ℕ)
pool_keys = codes "first" ∷ codes "size" ∷ []

abbrev pub terminus_keys : List (List ℕ)
terminus_keys = codes "tid" ∷ codes "records" ∷ []

abbrev pub record_keys : List (List ℕ)
record_keys = codes "handle" ∷ codes "next" ∷ codes "bytes" ∷ []

abbrev pub certificate_keys : List (List ℕ)
certificate_keys = codes "format" ∷ codes "levels" ∷ codes "places" ∷ codes "ranks" ∷ []

abbrev pub level_keys : List (List ℕ)
level_keys = codes "level" ∷ codes "node" ∷ []

abbrev pub places_keys : List (List ℕ)
places_keys = codes "node" ∷ codes "places" ∷ []

abbrev pub ranks_keys : List (List ℕ)
ranks_keys = codes "node" ∷ codes "ranges" ∷ []

abbrev pub range_keys : List (List ℕ)
range_keys = codes "first" ∷ codes "rank" ∷ codes "size" ∷ []

abbrev pub events_keys : List (List ℕ)
events_keys = codes "format" ∷ codes "events" ∷ []

abbrev pub put_keys : List (List ℕ)
put_keys = codes "do" ∷ codes "node" ∷ codes "bytes" ∷ []

abbrev pub move_keys : List (List ℕ)
move_keys = codes "do" ∷ codes "flight" ∷ codes "keep" ∷ []

abbrev pub lose_keys : List (List ℕ)
lose_keys = codes "do" ∷ codes "flight" ∷ []

abbrev pub expire_keys : List (List ℕ)
expire_keys = codes "do" ∷ codes "node" ∷ codes "source" ∷ codes "tag" ∷ codes "owner" ∷ []

abbrev pub answer_keys : List (List ℕ)
answer_keys = codes "do" ∷ codes "node" ∷ []

abbrev pub switch_keys : List (List ℕ)
switch_keys = codes "do" ∷ codes "node" ∷ []

abbrev pub walk_keys : List (List ℕ)
walk_keys = codes "do" ∷ codes "node" ∷ codes "eid" ∷ codes "tag" ∷ codes "count" ∷ []

abbrev pub ask_keys : List (List ℕ)
ask_keys = codes "do" ∷ codes "walker" ∷ []

abbrev pub collected_keys : List (List ℕ)
collected_keys = codes "do" ∷ codes "walker" ∷ []
