-- Which text says which wishes.
use Rattle.std.{specs.Prelude.{◌≡◌, ◌⊎◌, ℕ, ◌<◌, ◌+◌, List, [], ◌∷◌, ◌++◌, Option, Some, None, slice_get, codes, ⊤}, specs.Str.Lines.{lines}}
use Rattle.plan_values.specs.declared.plan.Plan.{Plan}
use Rattle.net_rules.specs.Names.{name_of}
use Rattle.net_reached.{specs.declared.wish.Wish.{Wish}, specs.declared.wish.Wish.TheVariants.{Nothing, Reaches, ReachesAll, Avoids}, specs.declared.reading.WishError.{WishError}, specs.declared.reading.WishError.TheVariants.{Unread, OutOfMemory}}

-- n is a node of this name
abbrev pub IsNamed : Plan → ℕ → List ℕ → Type 0
IsNamed plan n name = name_of plan n ≡ Some name

-- a line that begins with # or is empty wants nothing
abbrev pub IsRemark : List ℕ → Type 0
IsRemark line = (line ≡ []) ⊎ ((rest : List ℕ) × (line ≡ 35 ∷ rest))

-- a wish of a node stands behind the node's name
abbrev pub SaysBehind : Plan → List ℕ → Wish → Type 0
SaysBehind plan rest (Nothing text) = ⊥
SaysBehind plan rest (Reaches from to) = (name : List ℕ) × IsNamed plan to name × (rest ≡ codes " " ++ name)
SaysBehind plan rest (ReachesAll from) = rest ≡ codes " -> *"
SaysBehind plan rest (Avoids from to) = (name : List ℕ) × IsNamed plan to name × (rest ≡ codes " -/> " ++ name)

-- a line begins with the node's name, and the wish stands behind it
abbrev pub SaysOf : Plan → List ℕ → ℕ → Wish → Type 0
SaysOf plan line from wish =
    (name rest : List ℕ) × IsNamed plan from name × (line ≡ name ++ rest) × SaysBehind plan rest wish

-- the line says the wish
abbrev pub Says : Plan → List ℕ → Wish → Type 0
Says plan line (Nothing text) = (text.now ≡ line) × IsRemark line
Says plan line (Reaches from to) = SaysOf plan line from (Reaches from to)
Says plan line (ReachesAll from) = SaysOf plan line from (ReachesAll from)
Says plan line (Avoids from to) = SaysOf plan line from (Avoids from to)

-- it says no wish
abbrev pub SaysNothing : Plan → List ℕ → Type 0
SaysNothing plan line = (wish : Wish) → ¬ Says plan line wish

-- each line says the wish at its place
abbrev pub SayEach : Plan → List (List ℕ) → List Wish → Type 0
SayEach plan [] [] = ⊤
SayEach plan (line ∷ lines) [] = ⊥
SayEach plan [] (wish ∷ wishes) = ⊥
SayEach plan (line ∷ lines) (wish ∷ wishes) = Says plan line wish × SayEach plan lines wishes

-- the text has a line for each of the wishes, in their order
abbrev pub AreWishesOf : Plan → List ℕ → List Wish → Type 0
AreWishesOf plan text wishes = SayEach plan (lines text) wishes

-- the line at the index is the first one that says no wish
pub record IsFirstUnread (plan : Plan) (text : List ℕ) (index : ℕ) : Type 0 where
  pub line : List ℕ
  pub there : slice_get (lines text) index ≡ Some line
  pub unread : SaysNothing plan line
  pub first : (j : ℕ) (earlier : List ℕ) → j < index → slice_get (lines text) j ≡ Some earlier
      → (wish : Wish) × Says plan earlier wish

-- the error tells the first line that says no wish
abbrev pub IsWhyUnread : Plan → List ℕ → WishError → Type 0
IsWhyUnread plan text (Unread bad) = (index : ℕ) × (bad.line ≡ index + 1) × IsFirstUnread plan text index
IsWhyUnread plan text OutOfMemory = ⊤

-- the node of which a wish speaks
abbrev pub from_of : Wish → Option ℕ
from_of (Nothing text) = None
from_of (Reaches from to) = Some from
from_of (ReachesAll from) = Some from
from_of (Avoids from to) = Some from
