use Rattle.std.proofs.Common.{◌≡◌, ℕ, List, Ok, map, true, refl, sym, subst, ap, ◌∙◌, vec_len}
use Rattle.json.specs.Json.{object}
use Rattle.net_plan.{specs.Names.{index_among}, specs.NameIndexes.{find_in}, specs.PlanReading.{plan}, specs.PlanText.{IsPlanOf}, specs.SingleKeys.{single}, specs.Skeleton.{cut_value, found_value, with_parts}, specs.Trees.{view, data_of}, proofs.BusNames.{node_names_of}, proofs.Gathered.{if_some}, proofs.PlanLaw.{plan_tells}, proofs.StandIns.{all_filled, plan_full, plan_plain}}
use Rattle.plan_values.{specs.Placed.{are_placed}, specs.PlanValues.{plan_value, bus_value, node_value, node_names, name_bytes}}
use Rattle.net_plan.proofs.skeleton.plain_plan.Goals as goal

pub returns : goal.returns
returns c =
    let s = c.in_ok-skeleton.skeleton in
    let shape = c.in_ok-skeleton.ensures in
    let ms = shape.0 in
    let ls = shape.1 in
    let lean = c.in-Ok.plan in
    let vs = map node_value lean.nodes.items in
    let cs = map cut_value s.parts.items in
    let read : plan (view s.value) ≡ Ok (plan_value lean) = c.in-Ok.ensures in
    let is = subst (λ j. IsPlanOf (data_of j) (plan_value lean)) shape.3 (plan_tells.sound (view s.value) (plan_value lean) read refl) in
    let once : single (object ls) ≡ true = ap single (sym shape.3) ∙ sym c.has_single_keys.ensures ∙ c.if-not-has_single_keys.false in
    let plain = plan_plain cs ms ls shape.4 (shape.5, once) in
    let index = c.in-Ok-of.index in
    let find : (q : List ℕ) → find_in index q ≡ index_among (node_names vs) q = λ q. c.in-Ok-of.ensures.found q ∙ ap (λ ns. index_among ns q) (ap (map (λ n. name_bytes n.name)) c.as_slice.ensures.value ∙ node_names_of lean.nodes.items) in
    let same_find : find_in index ≡ index_among (node_names vs) = λ i q. find q i in
    let filled : map node_value c.in_ok-with_parts.field-0.items ≡ all_filled vs cs = c.in_ok-with_parts.ensures ∙ ap (with_parts vs) (c.in_ok-parts.ensures ∙ ap (λ f. map (found_value f) cs) same_find) in
    if_some c.of-2.result (λ p same.
    let unit = sym same.0 in
    let buses = ap (λ v. map bus_value v.items) (sym same.1) in
    let nodes = sym filled ∙ ap (λ v. map node_value v.items) (sym same.2) in
    let placed : are_placed (vec_len p.buses) (all_filled vs cs) ≡ true = subst (λ ns. are_placed (vec_len p.buses) ns ≡ true) (sym nodes) p.placed in
    let full = plan_full (plan_value lean) (vec_len p.buses) cs ms ls shape.4 placed is in (
      object ms,
      shape.2,
      plain,
      subst (λ u. IsPlanOf (data_of (object ms)) (record { unit = u; buses = map bus_value p.buses.items; nodes = map node_value p.nodes.items })) unit
          (subst (λ bs. IsPlanOf (data_of (object ms)) (record { unit = lean.unit; buses = bs; nodes = map node_value p.nodes.items })) buses
          (subst (λ ns. IsPlanOf (data_of (object ms)) (record { unit = lean.unit; buses = map bus_value lean.buses.items; nodes = ns })) nodes full)),
    )) c.of-2.ensures.whole
