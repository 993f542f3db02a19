-- The path of indices along which a JSON pointer leads in a tree.
use Rattle.std.{specs.Prelude.{ℕ, suc, List, [], ◌∷◌, cond, Option, Some, None, option_map, option_and_then}, specs.Option.{option_or}, specs.Str.{bytes_eq}}
use Rattle.json.specs.Json.{Json, null, boolean, number, string, array, object, Members, no_members, member}
use Rattle.net_plan.specs.Finding.{Step, key, index}
use Rattle.net_pointers.specs.Doubles.{part_after}

-- the index of the last member with a key
abbrev pub last_index : List ℕ → Members → Option ℕ
last_index k no_members = None
last_index k (member l j ms) = option_or (option_map suc (last_index k ms)) (cond (bytes_eq l k) (Some 0) None)

-- the index of the part to which a step leads: of a key that stands twice, that of the last member
abbrev pub index_after : Step → Json → Option ℕ
index_after (key k) null = None
index_after (key k) (boolean b) = None
index_after (key k) (number s) = None
index_after (key k) (string s) = None
index_after (key k) (array js) = None
index_after (key k) (object ms) = last_index k ms
index_after (index i) null = None
index_after (index i) (boolean b) = None
index_after (index i) (number s) = None
index_after (index i) (string s) = None
index_after (index i) (array js) = Some i
index_after (index i) (object ms) = None

-- the indices of the parts through which a pointer leads
abbrev pub path_of : List Step → Json → Option (List ℕ)
path_of [] j = Some []
path_of (s ∷ ss) j =
    option_and_then (λ i. option_and_then (λ e. option_map (λ is. i ∷ is) (path_of ss e)) (part_after i j))
    (index_after s j)
