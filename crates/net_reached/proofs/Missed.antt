-- Which of wishes are not met, with one more at their end.
use Rattle.std.{proofs.Common.{◌≡◌, ℕ, ◌+◌, ◌<◌, List, [], ◌∷◌, ◌++◌, length, get_or, take, inl, inr, refl, subst, sym, rules, All}, proofs.lemmas.List.{take_more}, proofs.lemmas.List.Elements.{All-nil, All-cons}}
use Rattle.plan_values.specs.declared.plan.Plan.{Plan}
use Rattle.net_reached.{specs.declared.wish.Wish.{Wish}, specs.Wishes.{IsMet, AreUnmet, AddsIfUnmet}}

pub one_met : (plan : Plan) (wishes unmet : List Wish) (wish : Wish) → AreUnmet plan wishes unmet → IsMet plan wish
    → AreUnmet plan (wishes ++ wish ∷ []) unmet
one_met plan [] unmet wish are met = inl (met, are)
one_met plan (w ∷ ws) unmet wish are met = elim are [
  | inl (here, left) ↦ inl (here, one_met plan ws unmet wish left met)
  | inr (rest, denied, made, left) ↦ inr (rest, denied, made, one_met plan ws rest wish left met)
]

pub one_unmet : (plan : Plan) (wishes unmet : List Wish) (wish : Wish) → AreUnmet plan wishes unmet → ¬ IsMet plan wish
    → AreUnmet plan (wishes ++ wish ∷ []) (unmet ++ wish ∷ [])
one_unmet plan [] unmet wish are missed = inr ([], missed, search rules, refl)
one_unmet plan (w ∷ ws) unmet wish are missed = elim are [
  | inl (here, left) ↦ inl (here, one_unmet plan ws unmet wish left missed)
  | inr (rest, denied, made, left) ↦ inr (rest ++ wish ∷ [], denied, search rules, one_unmet plan ws rest wish left missed)
]

pub all_met : (plan : Plan) (wishes unmet : List Wish) → AreUnmet plan wishes unmet → unmet ≡ [] → All (IsMet plan) wishes
all_met plan [] unmet are none = All-nil (IsMet plan)
all_met plan (w ∷ ws) unmet are none = elim are [
  | inl (here, left) ↦ All-cons (IsMet plan) w ws here (all_met plan ws unmet left none)
  | inr (rest, denied, made, left) ↦ absurd (cc (none, made))
]

pub one_more : (plan : Plan) (wishes old new : List Wish) (k : ℕ) (d : Wish) → k < length wishes → AreUnmet plan (take k wishes) old
    → AddsIfUnmet plan (get_or wishes k d) old new → AreUnmet plan (take (k + 1) wishes) new
one_more plan wishes old new k d within are added =
    let wish = get_or wishes k d in
    subst (λ ws. AreUnmet plan ws new) (sym (take_more wishes k d within)) (elim added [
      | inl (met, same) ↦ subst (λ ns. AreUnmet plan (take k wishes ++ wish ∷ []) ns) (sym same) (one_met plan (take k wishes) old wish are met)
      | inr (not, same) ↦ subst (λ ns. AreUnmet plan (take k wishes ++ wish ∷ []) ns) (sym same) (one_unmet plan (take k wishes) old wish are not)
    ])
