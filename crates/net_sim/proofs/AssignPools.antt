-- An EID lies in a bridge's pool exactly where its holder is behind the bridge.
use Rattle.std.{proofs.Common.{◌≡◌, ◌⊎◌, inl, inr, ◌↔◌, ℕ, zero, suc, ◌<◌, Option, Some, None, refl, sym, ap, ◌∙◌, subst, arith}, proofs.lemmas.Bool.{cases_order}}
use Rattle.plan_values.{specs.declared.plan.Plan.{Plan}, specs.declared.certificate.Certificate.{Certificate}, specs.declared.nodes.Pool.{Pool}}
use Rattle.net_tables.{specs.Routing.{Holds, IsBridge}, specs.Ownership.{owner_of, IsOwnedBy, level, pool_of, IsInPoolOf}}
use Rattle.net_rules.{specs.Owners.{IsBelowItsOwner}, specs.Pools.{IsInOwnersPool, IsInNoPeersPool, IsInItsPool, IsLawfulPool, HasLawfulPool, LiesInOwnersPool, LiesApartFromEarlierPools}, specs.Rules.{Accepts}, specs.declared.rule.Rule.TheVariants.{C07, C08, C09}}
use Rattle.net_sim.specs.AssignmentRuns.{IsBehind, owned, further}

module _ (plan : Plan) (cert : Certificate) (accepts : Accepts plan cert) where
  lawful : (b : ℕ) (pool : Pool) → pool_of plan b ≡ Some pool → IsLawfulPool plan b pool
  unfolding HasLawfulPool
  lawful b pool has = (accepts C09 b None None).0 pool has

  -- a node with a pool is a bridge
  is_bridge : (b e : ℕ) → IsInPoolOf plan b e → IsBridge plan b
  unfolding IsInPoolOf IsLawfulPool
  is_bridge b e lies = (lawful b lies.0 lies.1).0

  -- what lies in a bridge's pool lies in its owner's
  in_owners : (b c e : ℕ) → IsOwnedBy plan b c → IsInPoolOf plan b e → IsInPoolOf plan c e
  unfolding IsInPoolOf IsLawfulPool LiesInOwnersPool
  in_owners b c e owns lies = (lawful b lies.0 lies.1).2 c owns e lies.2

  its_pool : (n e : ℕ) → Holds plan n e → IsInItsPool plan n e
  its_pool n e holds = (accepts C08 n None (Some e)).0 holds

  -- the holder's owner has it in its pool
  in_first : (n b e : ℕ) → Holds plan n e → IsOwnedBy plan n b → IsInPoolOf plan b e
  unfolding IsInItsPool IsInOwnersPool
  in_first n b e holds owns = (its_pool n e holds).0 b owns

  -- no bridge of the holder's owner has it in its pool
  not_peers : (n b e : ℕ) → Holds plan n e → owner_of plan b ≡ owner_of plan n → IsInPoolOf plan b e → ⊥
  unfolding IsInItsPool IsInNoPeersPool
  not_peers n b e holds peers lies = (its_pool n e holds).1 b (is_bridge b e lies) peers lies

  later_apart : (m n e : ℕ) → m < n → owner_of plan m ≡ owner_of plan n → IsInPoolOf plan m e → IsInPoolOf plan n e → ⊥
  unfolding IsInPoolOf IsLawfulPool LiesApartFromEarlierPools
  later_apart m n e earlier peers here there = (lawful n there.0 there.1).3 m earlier peers e there.2 here

  -- two bridges of one owner with a common EID are one
  one_pool : (m n e : ℕ) → owner_of plan m ≡ owner_of plan n → IsInPoolOf plan m e → IsInPoolOf plan n e → m ≡ n
  one_pool m n e peers here there =
      elim (cases_order m n) [
        | inl same ↦ same
        | inr (inl earlier) ↦ absurd (later_apart m n e earlier peers here there)
        | inr (inr later) ↦ absurd (later_apart n m e later (sym peers) there here)
      ]

  -- an owner above has it in its pool
  behind_in_pool : (n b e : ℕ) → IsInPoolOf plan n e → IsBehind plan n b → IsInPoolOf plan b e
  behind_in_pool n b e lies (owned owns) = in_owners n b e owns lies
  behind_in_pool n b e lies (further m owns behind) = behind_in_pool m b e (in_owners n m e owns lies) behind

  pub held_behind : (n b e : ℕ) → Holds plan n e → IsBehind plan n b → IsInPoolOf plan b e
  held_behind n b e holds (owned owns) = in_first n b e holds owns
  held_behind n b e holds (further m owns behind) = behind_in_pool m b e (in_first n m e holds owns) behind

  -- who is behind c is behind a node that c owns, or is one
  record Child (n c : ℕ) : Type 0 where
    pub child : ℕ
    pub owns : IsOwnedBy plan child c
    pub leads : (n ≡ child) ⊎ IsBehind plan n child

  child_of : (n c : ℕ) → IsBehind plan n c → Child n c
  child_of n c (owned owns) = record { child = n; owns = owns; leads = inl refl }
  child_of n c (further m owns behind) =
      let rest = child_of m c behind in
      record { child = rest.child; owns = rest.owns; leads = inr (elim rest.leads [ inl is ↦ owned (owns ∙ ap Some is) | inr more ↦ further m owns more ]) }

  below : (n b : ℕ) → IsOwnedBy plan n b → level plan cert b < level plan cert n
  unfolding IsBelowItsOwner
  below n b owns = (accepts C07 n None None).1 b owns

  -- above each owned node stands a node without owner
  record Root (n : ℕ) : Type 0 where
    pub root : ℕ
    pub free : owner_of plan root ≡ None
    pub leads : (n ≡ root) ⊎ IsBehind plan n root

  root_of : (fuel n : ℕ) → level plan cert n < fuel → (owner : Option ℕ) → owner_of plan n ≡ owner → Root n
  root_of zero n few owner is = absurd (omega arith)
  root_of (suc fuel) n few None is = record { root = n; free = is; leads = inl refl }
  root_of (suc fuel) n few (Some b) is =
      let low = below n b is in
      let above = root_of fuel b (omega arith) (owner_of plan b) refl in
      record { root = above.root; free = above.free; leads = inr (elim above.leads [ inl same ↦ owned (is ∙ ap Some same) | inr more ↦ further b is more ]) }

  -- a node whose pool has the EID, and whose owner is that of a node that the holder is behind or is, is that node
  peer_is : (n b child e : ℕ) → Holds plan n e → IsInPoolOf plan b e → owner_of plan b ≡ owner_of plan child → (n ≡ child) ⊎ IsBehind plan n child → IsBehind plan n b
  peer_is n b child e holds lies peers (inl same) = absurd (not_peers n b e holds (peers ∙ ap (owner_of plan) (sym same)) lies)
  peer_is n b child e holds lies peers (inr behind) =
      subst (λ (k : ℕ). IsBehind plan n k) (sym (one_pool b child e peers lies (held_behind n child e holds behind))) behind

  in_pool_behind : (fuel n b e : ℕ) → level plan cert b < fuel → (owner : Option ℕ) → owner_of plan b ≡ owner → Holds plan n e → IsInPoolOf plan b e → IsBehind plan n b
  in_pool_behind zero n b e few owner is holds lies = absurd (omega arith)
  in_pool_behind (suc fuel) n b e few None is holds lies =
      let top = root_of (suc (level plan cert n)) n (omega arith) (owner_of plan n) refl in
      peer_is n b top.root e holds lies (is ∙ sym top.free) top.leads
  in_pool_behind (suc fuel) n b e few (Some c) is holds lies =
      let low = below b c is in
      let above = in_pool_behind fuel n c e (omega arith) (owner_of plan c) refl holds (in_owners b c e is lies) in
      let next = child_of n c above in
      peer_is n b next.child e holds lies (is ∙ sym next.owns) next.leads

  pub pool_behind : (n b e : ℕ) → Holds plan n e → IsInPoolOf plan b e ↔ IsBehind plan n b
  pool_behind n b e holds =
      (in_pool_behind (suc (level plan cert b)) n b e (omega arith) (owner_of plan b) refl holds, held_behind n b e holds)
