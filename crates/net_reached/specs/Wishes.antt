-- What wishes say of a plan.
use Rattle.std.specs.Prelude.{◌≡◌, ◌⊎◌, ℕ, ◌<◌, List, [], ◌∷◌, ◌++◌, length, ⊤}
use Rattle.plan_values.specs.declared.plan.Plan.{Plan}
use Rattle.net_tables.specs.Routing.{Holds}
use Rattle.net_questions.specs.Ways.{ArrivesAfter}
use Rattle.net_reached.{specs.declared.wish.Wish.{Wish}, specs.declared.wish.Wish.TheVariants.{Nothing, Reaches, ReachesAll, Avoids}}

-- a packet for b's endpoint ID that is put in at a arrives, after so many hops
abbrev pub ComesTo : Plan → ℕ → ℕ → ℕ → Type 0
ComesTo plan a b moves = (e : ℕ) × Holds plan b e × ArrivesAfter plan e a moves

-- packets that are put in at a reach b
abbrev pub ReachesNode : Plan → ℕ → ℕ → Type 0
ReachesNode plan a b = (moves : ℕ) × ComesTo plan a b moves

-- packets that are put in at a reach each of the first nodes, as many as are said
abbrev pub ReachesFirst : Plan → ℕ → ℕ → Type 0
ReachesFirst plan a count = (b : ℕ) → b < count → ReachesNode plan a b

-- what a wish says is so
abbrev pub IsMet : Plan → Wish → Type 0
IsMet plan (Nothing line) = ⊤
IsMet plan (Reaches from to) = ReachesNode plan from to
IsMet plan (ReachesAll from) = ReachesFirst plan from (length plan.nodes.items)
IsMet plan (Avoids from to) = ¬ ReachesNode plan from to

-- the new list is the old one, followed by the wish where it isn't so
abbrev pub AddsIfUnmet : Plan → Wish → List Wish → List Wish → Type 0
AddsIfUnmet plan wish old new = (IsMet plan wish × (new ≡ old)) ⊎ ((¬ IsMet plan wish) × (new ≡ old ++ wish ∷ []))

-- the unmet ones are those of the wishes, in their order, of which it is not so
abbrev pub AreUnmet : Plan → List Wish → List Wish → Type 0
AreUnmet plan [] unmet = unmet ≡ []
AreUnmet plan (wish ∷ wishes) unmet = (IsMet plan wish × AreUnmet plan wishes unmet)
    ⊎ ((rest : List Wish) × (¬ IsMet plan wish) × (unmet ≡ wish ∷ rest) × AreUnmet plan wishes rest)
