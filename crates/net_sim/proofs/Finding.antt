-- Elements of a list that is mapped, and the walkers of a network by number.
use Rattle.std.{proofs.Common.{◌≡◌, ◌⊎◌, ℕ, zero, suc, ◌+◌, ◌-◌, ◌<◌, List, length, map, Some, None, sym, ◌∙◌, ap, inl, inr, arith}, specs.Prelude.{slice_get, option_map}, proofs.lemmas.Option.{slice_get_cases, slice_get-map, slice_get_past, none-some, same_Some}}
use Rattle.plan_values.{specs.declared.plan.Plan.{Plan}, specs.declared.nodes.Node.{Node}}
use Rattle.net_tables.specs.Routing.{Holds}
use Rattle.net_runs.specs.Walkers.{WalkerValue, WalkedState}
use Rattle.net_sim.specs.WalkedStanding.{NetworkValue, StandsForWalked}

-- an element of a list that is mapped
pub mapped_there : {X Y : Type 0} (f : X → Y) (xs : List X) (i : ℕ) (y : Y) → slice_get (map f xs) i ≡ Some y → (x : X) × (slice_get xs i ≡ Some x) × (f x ≡ y)
mapped_there f xs i y is = elim (slice_get_cases xs i).1 [
  | inl there ↦ (there.0, there.2, same_Some (f there.0) y (sym (slice_get-map f xs i ∙ ap (option_map f) there.2) ∙ is))
  | inr past ↦ absurd (none-some y (sym (slice_get-map f xs i ∙ ap (option_map f) past.1) ∙ is))
]

module _ (v : NetworkValue) (w : WalkedState) (s : StandsForWalked v w) where
  -- a walker stands at the place before its number
  pub walker_place : (k : ℕ) (x : WalkerValue) → w.walker k ≡ Some x → (i : ℕ) × (k ≡ i + 1) × (slice_get v.walkers i ≡ Some x)
  walker_place zero x is = absurd (none-some x (sym s.none ∙ is))
  walker_place (suc i) x is =
      let next : suc i ≡ i + 1 = omega arith in
      (i, next, sym (s.walkers i) ∙ (ap w.walker (sym next) ∙ is))

  -- there is none of number 0, or of a number beyond the last
  pub no_walker : (number : ℕ) → (number ≡ 0) ⊎ (length v.walkers < number) → w.walker number ≡ None
  no_walker number (inl is) = ap w.walker is ∙ s.none
  no_walker number (inr past) =
      let next : number ≡ (number - 1) + 1 = omega (arith, past) in
      ap w.walker next ∙ (s.walkers (number - 1) ∙ slice_get_past v.walkers (number - 1) (omega (arith, past)))

-- a node of the plan holds an endpoint ID
pub held_by : (plan : Plan) (n : ℕ) → n < length plan.nodes.items → (e : ℕ) × Holds plan n e
held_by plan n within = elim (slice_get_cases plan.nodes.items n).1 [
  | inl there ↦ (there.0.eid.value, ap (option_map (λ (x : Node). x.eid.value)) there.2)
  | inr past ↦ absurd (omega (arith, within, past.0))
]
