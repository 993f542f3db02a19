-- Names and keys that stand twice.
use Rattle.std.specs.Prelude.{◌≡◌, ◌≢◌, ◌<◌, ◌⊎◌, ⊤, true, ℕ, zero, suc, List, [], ◌∷◌, length, take, get_or, AllPairs, Option, Some, None, option_and_then}
use Rattle.json.{specs.Json.{Json, null, boolean, number, string, array, object, Items, no_items, item, Members, no_members, member}, specs.Strict.{keys}}
use Rattle.net_plan.specs.Names.{names_differ}
use Rattle.net_pointers.{specs.declared.doubled.DoubledKey.{DoubledKey}, specs.declared.doubled.TwoIndices.{TwoIndices}}

-- the first name that stands twice in a list, and where it does
pub record IsFirstDoubled (names : List (List ℕ)) (p : TwoIndices) : Type 0 where
  pub ascends : p.first < p.second
  pub within : p.second < length names
  pub same : get_or names p.first [] ≡ get_or names p.second []
  pub before : AllPairs (λ a b. a ≢ b) (take p.second names)

abbrev pub item_at : ℕ → Items → Option Json
item_at i no_items = None
item_at zero (item j js) = Some j
item_at (suc i) (item j js) = item_at i js

abbrev pub member_at : ℕ → Members → Option Json
member_at i no_members = None
member_at zero (member k j ms) = Some j
member_at (suc i) (member k j ms) = member_at i ms

-- the item of a list, or what stands at a member of an object, at an index from 0
abbrev pub part_after : ℕ → Json → Option Json
part_after i null = None
part_after i (boolean b) = None
part_after i (number n) = None
part_after i (string s) = None
part_after i (array js) = item_at i js
part_after i (object ms) = member_at i ms

-- the part of a tree that a path of such indices leads to
abbrev pub part_at : List ℕ → Json → Option Json
part_at [] j = Some j
part_at (i ∷ is) j = option_and_then (part_at is) (part_after i j)

-- the path leads to an object, and its first doubled key is that of these two members
abbrev pub HasDoubledKey : Json → DoubledKey → Type 0
HasDoubledKey j k = (ms : Members) × (part_at k.path.items j ≡ Some (object ms)) × IsFirstDoubled (keys ms) k.members

-- the first path comes before the second, depth first: it leads to a whole that has the other's part, or to a part that
-- stands before
abbrev pub IsBefore : List ℕ → List ℕ → Type 0
IsBefore [] [] = ⊥
IsBefore [] (k ∷ ks) = ⊤
IsBefore (i ∷ is) [] = ⊥
IsBefore (i ∷ is) (k ∷ ks) = (i < k) ⊎ ((i ≡ k) × IsBefore is ks)

-- no object to which a path leads that comes before this one has a key twice
abbrev pub NoneBefore : Json → List ℕ → Type 0
NoneBefore j path =
    (q : List ℕ) (ms : Members) → IsBefore q path → part_at q j ≡ Some (object ms) → names_differ (keys ms) ≡ true

-- an object has a key twice, and none before it, depth first
abbrev pub IsFirstDoubledKey : Json → DoubledKey → Type 0
IsFirstDoubledKey j k = HasDoubledKey j k × NoneBefore j k.path.items
