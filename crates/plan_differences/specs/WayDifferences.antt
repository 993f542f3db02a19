-- Which ways between nodes a change of plans opens, closes or makes longer or shorter.
use Rattle.std.specs.Prelude.{◌≡◌, ◌≢◌, ◌⊎◌, ℕ, ◌<◌, List, [], ◌∷◌, Option, Some, None, All, Contains, MatchOption, length}
use Rattle.plan_values.specs.declared.plan.Plan.{Plan}
use Rattle.net_rules.specs.Names.{name_of}
use Rattle.net_reached.specs.Wishes.{ComesTo, ReachesNode}
use Rattle.command_answers.specs.Naming.{IsFirstNamed}
use Rattle.plan_differences.specs.declared.ways.OtherWay.{OtherWay}

-- node n of the old plan has the name of node m of the new one, the first of that name
abbrev pub IsOneNode : Plan → Plan → ℕ → ℕ → Type 0
IsOneNode before after n m = (name : List ℕ) × (name_of before n ≡ Some name) × IsFirstNamed after name m

-- packets of a reach b after so many hops, or never
abbrev pub IsHops : Plan → ℕ → ℕ → Option ℕ → Type 0
IsHops plan a b hops = MatchOption hops (¬ ReachesNode plan a b) (ComesTo plan a b)

-- Both nodes stand in both plans, and the hops from the one to the other are told as they are in each. They differ.
pub record IsOtherWay (before after : Plan) (way : OtherWay) : Type 0 where
  pub from : ℕ
  pub to : ℕ
  pub one : IsOneNode before after way.from from
  pub other : IsOneNode before after way.to to
  pub old_hops : IsHops before way.from way.to way.before
  pub new_hops : IsHops after from to way.after
  pub differ : way.before ≢ way.after

-- both nodes stand in both plans, and packets of a reach b after as many hops in each, or never
pub record IsSameWay (before after : Plan) (a b : ℕ) : Type 0 where
  pub from : ℕ
  pub to : ℕ
  pub one : IsOneNode before after a from
  pub other : IsOneNode before after b to
  pub hops : Option ℕ
  pub old_hops : IsHops before a b hops
  pub new_hops : IsHops after from to hops

-- the new plan has no node of the name of the old plan's
abbrev pub IsGone : Plan → Plan → ℕ → Type 0
IsGone before after n = (m : ℕ) → ¬ IsOneNode before after n m

-- a node is gone, or the way is the same
abbrev pub IsNoOther : Plan → Plan → ℕ → ℕ → Type 0
IsNoOther before after a b = IsGone before after a ⊎ (IsGone before after b ⊎ IsSameWay before after a b)

-- one of the ways leads from a to b
abbrev pub IsToldOf : List OtherWay → ℕ → ℕ → Type 0
IsToldOf ways a b = (way : OtherWay) × Contains ways way × (way.from ≡ a) × (way.to ≡ b)

-- the way from a to b is told, or it is no other one
abbrev pub IsSettled : Plan → Plan → List OtherWay → ℕ → ℕ → Type 0
IsSettled before after ways a b = IsToldOf ways a b ⊎ IsNoOther before after a b

-- each way that is told is one whose hops differ, and of these pairs of nodes each has such a way told, or no other one
pub record AreWaysOf (before after : Plan) (Is : ℕ → ℕ → Type 0) (ways : List OtherWay) : Type 0 where
  pub each : All (IsOtherWay before after) ways
  pub all : (a b : ℕ) → Is a b → IsSettled before after ways a b

-- the same of all pairs of nodes of the old plan
abbrev pub AreOtherWays : Plan → Plan → List OtherWay → Type 0
AreOtherWays before after ways =
    AreWaysOf before after (λ a b. (a < length before.nodes.items) × (b < length before.nodes.items)) ways

-- ---- parts of the work

-- from one node to the nodes before the index
abbrev pub AreWaysFrom : Plan → Plan → ℕ → ℕ → List OtherWay → Type 0
AreWaysFrom before after from count ways = AreWaysOf before after (λ a b. (a ≡ from) × (b < count)) ways

-- from the nodes before the index
abbrev pub AreWaysBefore : Plan → Plan → ℕ → List OtherWay → Type 0
AreWaysBefore before after count ways =
    AreWaysOf before after (λ a b. (a < count) × (b < length before.nodes.items)) ways

-- the way is another one from a to b
abbrev pub IsOtherBetween : Plan → Plan → ℕ → ℕ → OtherWay → Type 0
IsOtherBetween before after a b way = IsOtherWay before after way × (way.from ≡ a) × (way.to ≡ b)

-- a list of the way, if one is found
abbrev pub found_way : Option OtherWay → List OtherWay
found_way None = []
found_way (Some way) = way ∷ []
