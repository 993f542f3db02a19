-- A plan and a certificate have one assignment at most.
use Rattle.std.{proofs.Common.{◌≡◌, ◌⊎◌, inl, inr, ℕ, zero, suc, List, [], ◌∷◌, refl, sym, ap, ◌∙◌, subst, arith}, specs.Prelude.{AllPairs, Contains}, specs.List.{flat_map}}
use Rattle.plan_values.{specs.declared.plan.Plan.{Plan}, specs.declared.certificate.Certificate.{Certificate}}
use Rattle.net_sim.specs.Assignments.{AssignmentValue, requests_to, IsAskedBefore, IsAssignmentOf}

pub first : (n : ℕ) (ns : List ℕ) → Contains (n ∷ ns) n
first n ns = (0, omega arith, refl)

pub in_tail : (n : ℕ) (ns : List ℕ) (k : ℕ) → Contains ns k → Contains (n ∷ ns) k
in_tail n ns k (i, within, is) = (suc i, omega arith, is)

pub head_or_tail : (n : ℕ) (ns : List ℕ) (k : ℕ) → Contains (n ∷ ns) k → (n ≡ k) ⊎ Contains ns k
head_or_tail n ns k (zero, within, is) = inl is
head_or_tail n ns k (suc i, within, is) = inr (i, omega arith, is)

module _ (plan : Plan) (cert : Certificate) where
  not_both : (m n : ℕ) → IsAskedBefore plan cert m n → IsAskedBefore plan cert n m → ⊥
  unfolding IsAskedBefore
  not_both m n (inl lower) (inl back) = omega arith
  not_both m n (inl lower) (inr back) = let b = back.0 in omega arith
  not_both m n (inr before) (inl back) = let b = before.0 in omega arith
  not_both m n (inr before) (inr back) = let a = before.1 in let b = back.1 in omega arith

  -- a list in order: the first comes before all others, and these are in order
  abbrev InOrder : List ℕ → Type 0
  InOrder [] = Unit {0}
  InOrder (n ∷ ns) = ((k : ℕ) → Contains ns k → IsAskedBefore plan cert n k) × InOrder ns

  in_order : (nodes : List ℕ) → AllPairs (IsAskedBefore plan cert) nodes → InOrder nodes
  in_order [] ordered = tt
  in_order (n ∷ ns) ordered = (
    λ k has. subst (λ (m : ℕ). IsAskedBefore plan cert n m) has.2 (let w = has.1 in ordered 0 (suc has.0) k (omega arith) (omega arith)),
    in_order ns (λ i j d less within. ordered (suc i) (suc j) d (omega arith) (omega arith)),
  )

  none : (k : ℕ) → Contains [] k → ⊥
  none k has = let within = has.1 in omega arith

  same_head : (m : ℕ) (ms : List ℕ) (n : ℕ) (ns : List ℕ) → InOrder (m ∷ ms) → InOrder (n ∷ ns) → Contains (n ∷ ns) m → Contains (m ∷ ms) n → m ≡ n
  same_head m ms n ns ordered others here there =
      elim (head_or_tail n ns m here) [
        | inl same ↦ sym same
        | inr later ↦ elim (head_or_tail m ms n there) [ inl same ↦ same | inr after ↦ absurd (not_both m n (ordered.0 n after) (others.0 m later)) ]
      ]

  -- a member of one tail is one of the other
  tail_of : (m : ℕ) (ms : List ℕ) (n : ℕ) (ns : List ℕ) → InOrder (m ∷ ms) → m ≡ n → ((k : ℕ) → Contains (m ∷ ms) k → Contains (n ∷ ns) k)
      → (k : ℕ) → Contains ms k → Contains ns k
  tail_of m ms n ns ordered same over k has =
      elim (head_or_tail n ns k (over k (in_tail m ms k has))) [
        | inl is ↦ absurd (let b : IsAskedBefore plan cert m m = subst (λ (j : ℕ). IsAskedBefore plan cert m j) (sym (same ∙ is)) (ordered.0 k has) in not_both m m b b)
        | inr later ↦ later
      ]

  same_nodes : (ms ns : List ℕ) → InOrder ms → InOrder ns → ((k : ℕ) → Contains ms k → Contains ns k) → ((k : ℕ) → Contains ns k → Contains ms k) → ms ≡ ns
  same_nodes [] [] ordered others over back = refl
  same_nodes [] (n ∷ ns) ordered others over back = absurd (none n (back n (first n ns)))
  same_nodes (m ∷ ms) [] ordered others over back = absurd (none m (over m (first m ms)))
  same_nodes (m ∷ ms) (n ∷ ns) ordered others over back =
      let head = same_head m ms n ns ordered others (over m (first m ms)) (back n (first n ns)) in
      let tail = same_nodes ms ns ordered.1 others.1 (tail_of m ms n ns ordered head over) (tail_of n ns m ms others (sym head) back) in
      λ i. head i ∷ tail i

pub one_assignment : (plan : Plan) (cert : Certificate) (list other : List AssignmentValue) → IsAssignmentOf plan cert list → IsAssignmentOf plan cert other → list ≡ other
one_assignment plan cert list other asks others =
    let nodes = same_nodes plan cert asks.nodes others.nodes (in_order plan cert asks.nodes asks.ordered) (in_order plan cert others.nodes others.ordered)
    (λ k has. (others.each k).1 ((asks.each k).0 has)) (λ k has. (asks.each k).1 ((others.each k).0 has)) in
    asks.requests ∙ ap (flat_map (requests_to plan)) nodes ∙ sym others.requests
