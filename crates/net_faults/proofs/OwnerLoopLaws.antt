-- Loops of owners, listed node by node.
use Rattle.std.{proofs.Common.{◌≡◌, ℕ, ◌+◌, ◌<◌, ◌≤◌, ◌⊎◌, List, [], ◌∷◌, ◌++◌, length, map, Option, Some, None, refl, sym, ◌∙◌, ap, subst, arith, inl, inr, Vec, Global}, specs.Prelude.{slice_get, option_and_then}, proofs.lemmas.Bool.{cases_lt}, proofs.lemmas.Option.{slice_get_within}}
use Rattle.plan_values.{specs.declared.plan.Plan.{Plan}, specs.declared.nodes.Node.{Node}}
use Rattle.net_tables.{specs.Ownership.{IsOwnedBy}, proofs.Elements.{push_left, push_last}}
use Rattle.net_rules.{specs.Circles.{MovesBy}, specs.Faults.{LessByFirstDifference}, proofs.LevelLaws.{one_owner, owners_move}}
use Rattle.net_faults.{specs.declared.plan_fault.PlanFault.{PlanFault}, specs.declared.plan_fault.PlanFault.TheVariants.{Obstacle}, specs.Circles.{IsAmong, IsCircle, IsNotLeast}, specs.PlanFaults.{nodes_of, key_of, IsOwnerLoopTold, AreOwnerLoops, AreOwnerLoopsBefore}, proofs.CircleLaws.{circle_same, not_least_same, all_listed}, proofs.ListLaws.{less_trans_one, ascend_more, each_more, first_is}}
use Rattle.net_rules.specs.declared.certify_error.CertifyError.TheVariants as error

-- owners as they are collected
module _ (plan : Plan) (owners : List (Option ℕ)) (are : owners ≡ map (λ (node : Node). node.owner) plan.nodes.items) where
  owned : (n m : ℕ) → MovesBy owners n m → IsOwnedBy plan n m
  owned n m move =
      let P : List (Option ℕ) → Type 0 = λ table. MovesBy table n m in
      let by : MovesBy (map (λ (node : Node). node.owner) plan.nodes.items) n m = subst P are move in
      sym (owners_move plan n) ∙ by

  owns : (n m : ℕ) → IsOwnedBy plan n m → MovesBy owners n m
  owns n m is =
      let P : List (Option ℕ) → Type 0 = λ table. MovesBy table n m in
      let by : MovesBy (map (λ (node : Node). node.owner) plan.nodes.items) n m = owners_move plan n ∙ is in
      subst P (sym are) by

  pub owner_circle : (first : ℕ) (places : List ℕ) → IsCircle (MovesBy owners) first places → IsCircle (IsOwnedBy plan) first places
  owner_circle first places = circle_same (MovesBy owners) (IsOwnedBy plan) owned first places

  pub owner_not_least : (first : ℕ) → IsNotLeast (MovesBy owners) first → IsNotLeast (IsOwnedBy plan) first
  owner_not_least first = not_least_same (MovesBy owners) (IsOwnedBy plan) owned owns first

Listed : Plan → List PlanFault → ℕ → Type 0
Listed plan found m = (i : ℕ) × (f : PlanFault) × (slice_get found i ≡ Some f) × IsCircle (IsOwnedBy plan) m (nodes_of f)

pub no_owner_loops : (plan : Plan) → AreOwnerLoopsBefore plan 0 []
no_owner_loops plan = record {
  sound = λ i f is. absurd (cc is);
  before = λ i f is. absurd (cc is);
  all = λ m lt. absurd (omega (arith, lt));
  in_order = λ i j f g lt here there. absurd (cc here);
}

pub owner_loop_skipped : (plan : Plan) (n : ℕ) (found : List PlanFault) → AreOwnerLoopsBefore plan n found → IsNotLeast (IsOwnedBy plan) n → AreOwnerLoopsBefore plan (n + 1) found
owner_loop_skipped plan n found are not = record {
  sound = are.sound;
  before = λ i f is. less_trans_one (key_of f) n (are.before i f is);
  all = λ m lt. elim (cases_lt m n) [
    | inl less ↦ are.all m less
    | inr here ↦ (let same : n ≡ m = omega (arith, here, lt) in inl (subst (λ k. IsNotLeast (IsOwnedBy plan) k) same not))
  ];
  in_order = are.in_order;
}

module _ (plan : Plan) (n : ℕ) (found : List PlanFault) (nodes : Vec ℕ Global) (are : AreOwnerLoopsBefore plan n found) (is : IsCircle (IsOwnedBy plan) n nodes.items) where
  abbrev new : PlanFault
  new = Obstacle (error.OwnerLoop nodes) 0

  key : key_of new ≡ n ∷ []
  key = ap (λ k. k ∷ []) (first_is nodes.items n is.loop.starts)

  pub owner_loop_pushed : AreOwnerLoopsBefore plan (n + 1) (found ++ Obstacle (error.OwnerLoop nodes) 0 ∷ [])
  owner_loop_pushed = record {
    sound = each_more (IsOwnerLoopTold plan) found new are.sound (n, is, refl);
    before = each_more (λ f. LessByFirstDifference (key_of f) ((n + 1) ∷ [])) found new (λ i f at. less_trans_one (key_of f) n (are.before i f at))
        (subst (λ k. LessByFirstDifference k ((n + 1) ∷ [])) (sym key) (inl (omega arith)));
    all = λ m lt. elim (cases_lt m n) [
      | inl less ↦ elim (are.all m less) [
        | inl not ↦ inl not
        | inr (i, f, at, circle) ↦ inr (i, f, push_left found new i f at, circle)
      ]
      | inr here ↦ (
          let same : n ≡ m = omega (arith, here, lt) in
          inr (length found, new, push_last found new, subst (λ k. IsCircle (IsOwnedBy plan) k nodes.items) same is))
    ];
    in_order = ascend_more found new are.in_order (λ i f at. subst (λ k. LessByFirstDifference (key_of f) k) (sym key) (are.before i f at));
  }

-- only nodes of the plan have owners
owned_within : (plan : Plan) (n m : ℕ) → IsOwnedBy plan n m → n < length plan.nodes.items
owned_within plan n m owned = by (slice_get plan.nodes.items n) refl owned
  where
    by : (o : Option Node) → slice_get plan.nodes.items n ≡ o → option_and_then (λ (node : Node). node.owner) o ≡ Some m → n < length plan.nodes.items
    by None at is = absurd (cc is)
    by (Some node) at is = slice_get_within plan.nodes.items n node at

pub all_owner_loops : (plan : Plan) (n : ℕ) (found : List PlanFault) → length plan.nodes.items ≤ n → AreOwnerLoopsBefore plan n found → AreOwnerLoops plan found
all_owner_loops plan n found enough are = record {
  sound = are.sound;
  all = λ m circle.
      let within = owned_within plan m circle.1.0 circle.1.1 in
      let there = all_listed (IsOwnedBy plan) (one_owner plan) Told n each m (omega (arith, within, enough)) circle in
      (there.2.0, there.2.1, there.2.2, subst (λ places. IsAmong places m) (sym there.2.3) there.4);
  in_order = are.in_order;
}
  where
    Told : ℕ → List ℕ → Type 0
    Told k places = (i : ℕ) × (f : PlanFault) × (slice_get found i ≡ Some f) × (nodes_of f ≡ places)

    each : (k : ℕ) → k < n → IsNotLeast (IsOwnedBy plan) k ⊎ ((places : List ℕ) × Told k places × IsCircle (IsOwnedBy plan) k places)
    each k lt = elim (are.all k lt) [ inl not ↦ inl not | inr (i, f, at, circle) ↦ inr (nodes_of f, (i, f, at, refl), circle) ]
