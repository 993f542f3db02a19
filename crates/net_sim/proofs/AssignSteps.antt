-- Beginnings of an assignment grow by one node at a time.
use Rattle.std.{proofs.Common.{◌≡◌, ◌≢◌, ◌⊎◌, inl, inr, ℕ, ◌+◌, ◌<◌, ◌≤◌, List, [], ◌∷◌, ◌++◌, length, get_or, Option, Some, None, option_map, unwrap_or, find, refl, sym, ap, ◌∙◌, subst, arith}, specs.Prelude.{◌==◌, Contains}, specs.Option.{option_and_then}, proofs.lemmas.List.{flat_map_more}, proofs.lemmas.Option.{slice_get_past}, proofs.lemmas.List.Elements.{Contains-get_or, Contains-append_left, Contains-push, Contains-push_cases}, proofs.lemmas.List.Quantifiers.{all_pairs_push}}
use Rattle.plan_values.{specs.declared.plan.Plan.{Plan}, specs.declared.certificate.Certificate.{Certificate}, specs.declared.certificate.NodeLevel.{NodeLevel}, specs.declared.nodes.Node.{Node}}
use Rattle.net_tables.{specs.Routing.{node_at}, specs.Ownership.{owner_of, IsOwnedBy, given_level, level}}
use Rattle.net_rules.{specs.Owners.{IsBelowItsOwner}, specs.declared.rule.Rule.TheVariants.{C07}, specs.Rules.{Accepts}}
use Rattle.net_sim.{specs.Assignments.{AssignmentValue, shared_bus, requests_by, requests_of, requests_to, IsOwned, IsAskedBefore, AsksInOrder, IsAssignmentOf}, specs.AssignmentSteps.{IsAskedUpTo, HasAskedUpTo}}

-- nothing is asked of nobody
pub asks_none : (plan : Plan) (cert : Certificate) (P : ℕ → Type 0) → ((n : ℕ) → ¬ P n) → AsksInOrder plan cert P []
asks_none plan cert P nobody = record {
  nodes = [];
  each = λ n. (λ h. let h1 = h.1 in absurd (omega arith), λ h. absurd (nobody n h));
  ordered = λ i j d a b. absurd (omega arith);
  requests = refl;
}

-- those who are asked may be said in other words
pub asks_same : (plan : Plan) (cert : Certificate) (P Q : ℕ → Type 0) (list : List AssignmentValue) → ((n : ℕ) → P n → Q n) → ((n : ℕ) → Q n → P n)
    → AsksInOrder plan cert P list → AsksInOrder plan cert Q list
asks_same plan cert P Q list to from asked = record {
  nodes = asked.nodes;
  each = λ n. (λ h. to n ((asked.each n).0 h), λ h. (asked.each n).1 (from n h));
  ordered = asked.ordered;
  requests = asked.requests;
}

-- one more node is asked, after all others
pub asks_more : (plan : Plan) (cert : Certificate) (P Q : ℕ → Type 0) (list more : List AssignmentValue) (k : ℕ)
    → AsksInOrder plan cert P list → more ≡ list ++ requests_to plan k → ((n : ℕ) → P n → IsAskedBefore plan cert n k)
    → ((n : ℕ) → P n → Q n) → Q k → ((n : ℕ) → Q n → P n ⊎ (k ≡ n)) → AsksInOrder plan cert Q more
asks_more plan cert P Q list more k asked grown after keeps here from = record {
  nodes = asked.nodes ++ k ∷ [];
  each = λ n. (
    λ h. elim (Contains-push_cases asked.nodes k n h) [ inl old ↦ keeps n ((asked.each n).0 old) | inr new ↦ subst Q new here ],
    λ h. elim (from n h) [
      | inl old ↦ Contains-append_left asked.nodes (k ∷ []) n ((asked.each n).1 old)
      | inr new ↦ subst (λ (m : ℕ). Contains (asked.nodes ++ k ∷ []) m) new (Contains-push asked.nodes k)
    ],
  );
  ordered = all_pairs_push (IsAskedBefore plan cert) asked.nodes k asked.ordered
      (λ i d h. after (get_or asked.nodes i d) ((asked.each (get_or asked.nodes i d)).0 (Contains-get_or asked.nodes i d h)));
  requests = grown ∙ ap (λ (l : List AssignmentValue). l ++ requests_to plan k) asked.requests ∙ flat_map_more (requests_to plan) [] asked.nodes k;
}

-- what a node is asked over its owner's bus, if there is one
pub asked_by : (plan : Plan) (n : ℕ) (node : Node) (bus : Option ℕ) → node_at plan n ≡ Some node → bus ≡ option_and_then (shared_bus plan node) node.owner
    → requests_to plan n ≡ requests_by n node bus
asked_by plan n node bus stands is = ap (requests_of plan n) stands ∙ ap (requests_by n node) (sym is)

-- a node without owner has level 0
owned_of : (plan : Plan) (cert : Certificate) (n : ℕ) (owner : Option ℕ) → owner_of plan n ≡ owner → 0 < level plan cert n → IsOwned plan n
unfolding IsOwned
owned_of plan cert n None is above = let z : level plan cert n ≡ 0 = ap (λ (o : Option ℕ). unwrap_or (option_map (λ (_ : ℕ). given_level cert n) o) 0) is in absurd (omega arith)
owned_of plan cert n (Some owner) is above = (owner, is)

-- the last place that is reached, or an earlier one
last_or_earlier : (k n : ℕ) → n < k + 1 → (n < k) ⊎ (k ≡ n)
last_or_earlier k n h = grind arith

-- a node of the level is asked
pub asked_here : (plan : Plan) (cert : Certificate) (reached k : ℕ) (list more : List AssignmentValue) → 0 < reached → level plan cert k ≡ reached
    → more ≡ list ++ requests_to plan k → HasAskedUpTo plan cert reached k list → HasAskedUpTo plan cert reached (k + 1) more
unfolding IsAskedUpTo IsAskedBefore
asked_here plan cert reached k list more above here grown asked =
    let owned = owned_of plan cert k (owner_of plan k) refl (omega arith) in
    asks_more plan cert (IsAskedUpTo plan cert reached k) (IsAskedUpTo plan cert reached (k + 1)) list more k asked grown
    (λ n h. elim h.1 [ inl lower ↦ inl (omega arith) | inr same ↦ inr (same.0 ∙ sym here, same.1) ])
    (λ n h. (h.0, elim h.1 [ inl lower ↦ inl lower | inr same ↦ let s = same.1 in inr (same.0, omega arith) ]))
    (owned, inr (here, omega arith))
    (λ n h. elim h.1 [
      | inl lower ↦ inl (h.0, inl lower)
      | inr same ↦ elim (last_or_earlier k n same.1) [ inl earlier ↦ inl (h.0, inr (same.0, earlier)) | inr last ↦ inr last ]
    ])

-- a node of another level is not
pub passed_here : (plan : Plan) (cert : Certificate) (reached k : ℕ) (list : List AssignmentValue) → level plan cert k ≢ reached
    → HasAskedUpTo plan cert reached k list → HasAskedUpTo plan cert reached (k + 1) list
unfolding IsAskedUpTo
passed_here plan cert reached k list other asked =
    asks_same plan cert (IsAskedUpTo plan cert reached k) (IsAskedUpTo plan cert reached (k + 1)) list
    (λ n h. (h.0, elim h.1 [ inl lower ↦ inl lower | inr same ↦ let s = same.1 in inr (same.0, omega arith) ]))
    (λ n h. (
      h.0,
      elim h.1 [
        | inl lower ↦ inl lower
        | inr same ↦ elim (last_or_earlier k n same.1) [
          | inl earlier ↦ inr (same.0, earlier)
          | inr last ↦ absurd (other (ap (level plan cert) last ∙ same.0))
        ]
      ],
    ))
    asked

nat_split : (m n : ℕ) → (m < n) ⊎ (n ≤ m)
nat_split m n = grind arith

-- an owned node is one of the plan's
within_plan : (plan : Plan) (n owner : ℕ) → IsOwnedBy plan n owner → n < length plan.nodes.items
within_plan plan n owner owned = by_cases (nat_split n (length plan.nodes.items))
  where
    by_cases : (n < length plan.nodes.items) ⊎ (length plan.nodes.items ≤ n) → n < length plan.nodes.items
    by_cases (inl within) = within
    by_cases (inr past) = let none : owner_of plan n ≡ None = ap (option_and_then (λ (m : Node). m.owner)) (slice_get_past plan.nodes.items n past) in cc

-- after the last place of a level comes the next level
pub next_level : (plan : Plan) (cert : Certificate) (reached : ℕ) (list : List AssignmentValue)
    → HasAskedUpTo plan cert reached (length plan.nodes.items) list → HasAskedUpTo plan cert (reached + 1) 0 list
unfolding IsAskedUpTo IsOwned
next_level plan cert reached list asked =
    asks_same plan cert (IsAskedUpTo plan cert reached (length plan.nodes.items)) (IsAskedUpTo plan cert (reached + 1) 0) list
    (λ n h. (h.0, elim h.1 [ inl lower ↦ inl (omega arith) | inr same ↦ let s = same.0 in inl (omega arith) ]))
    (λ n h. (h.0, elim h.1 [ inl lower ↦ by_level plan cert reached n (within_plan plan n h.0.0 h.0.1) lower | inr same ↦ let s = same.1 in absurd (omega arith) ]))
    asked
  where
    by_level : (plan : Plan) (cert : Certificate) (reached n : ℕ) → n < length plan.nodes.items → level plan cert n < reached + 1
        → (level plan cert n < reached) ⊎ ((level plan cert n ≡ reached) × (n < length plan.nodes.items))
    by_level plan cert reached n within lower =
        elim (last_or_earlier reached (level plan cert n) lower) [ inl earlier ↦ inl earlier | inr last ↦ inr (sym last, within) ]

-- an owned node has a level above 0
owned_level : (plan : Plan) (cert : Certificate) (n : ℕ) → Accepts plan cert → IsOwned plan n → 0 < level plan cert n
unfolding IsOwned IsBelowItsOwner
owned_level plan cert n accepts owned = let below = (accepts C07 n None None).1 owned.0 owned.1 in omega arith

-- no level is above 63
level_most : (plan : Plan) (cert : Certificate) (n : ℕ) → level plan cert n < 64
level_most plan cert n = by_owner cert n (owner_of plan n)
  where
    by_given : (given : Option NodeLevel) → unwrap_or (option_map (λ (g : NodeLevel). g.level) given) 0 < 64
    by_given None = omega arith
    by_given (Some g) = let w = g.within in omega arith

    by_owner : (cert : Certificate) (n : ℕ) (owner : Option ℕ) → unwrap_or (option_map (λ (_ : ℕ). given_level cert n) owner) 0 < 64
    by_owner cert n None = omega arith
    by_owner cert n (Some owner) = by_given (find (λ (g : NodeLevel). g.node == n) cert.levels.items)

-- before level 1 none is asked
pub none_yet : (plan : Plan) (cert : Certificate) (list : List AssignmentValue) → list ≡ [] → Accepts plan cert → HasAskedUpTo plan cert 1 0 list
unfolding IsAskedUpTo
none_yet plan cert list empty accepts =
    subst (λ (l : List AssignmentValue). HasAskedUpTo plan cert 1 0 l) (sym empty) (asks_none plan cert (IsAskedUpTo plan cert 1 0)
    (λ n h. let above = owned_level plan cert n accepts h.0 in elim h.1 [ inl lower ↦ omega arith | inr same ↦ let s = same.1 in omega arith ]))

-- after level 63 all are asked
pub all_asked : (plan : Plan) (cert : Certificate) (reached : ℕ) (list : List AssignmentValue) → 64 ≤ reached → HasAskedUpTo plan cert reached 0 list
    → IsAssignmentOf plan cert list
unfolding IsAskedUpTo
all_asked plan cert reached list most asked =
    asks_same plan cert (IsAskedUpTo plan cert reached 0) (IsOwned plan) list (λ n h. h.0)
    (λ n h. (h, let below = level_most plan cert n in inl (omega arith))) asked
