-- Where nothing is listed nothing rules certificates out, and where something is no certificate is accepted.
use Rattle.std.{proofs.Common.{◌≡◌, ◌≢◌, ◌⊎◌, ℕ, zero, suc, List, [], ◌∷◌, get_or, map, Option, Some, None, Bool, true, cond, refl, sym, ap, subst, arith, inl, inr}, specs.Prelude.{slice_get, filter, Contains, option_map}, proofs.lemmas.Option.{slice_get_within}, proofs.lemmas.Bool.{eq-eqb}}
use Rattle.plan_values.{specs.declared.plan.Plan.{Plan}, specs.declared.certificate.Certificate.{Certificate}}
use Rattle.net_tables.{specs.Routing.{MovesTo}, specs.Ownership.{IsOwnedBy}, specs.Repositories.{records_of, places_of}, specs.Ranks.{rank}}
use Rattle.net_rules.{specs.declared.rule.Rule.{Rule}, specs.declared.rule.Rule.TheVariants.{C01, C02, C03, C04, C05, C06, C07, C08, C09, C10, C11, C12, C13, C14, C15, C16}, specs.declared.certify_error.CertifyError.{CertifyError}, specs.declared.fault_run.EidSpan.{EidSpan}, specs.declared.fault_run.FaultRun.{FaultRun}, specs.Certificates.{NamesObstacle}, specs.Circles.{IsOnCircle}, specs.FaultLists.{AreFaults, IsAmong}, specs.Faults.{FaultSite, site_of}, specs.Rules.{Accepts}, proofs.Circling.{no_circle_down}, proofs.LevelLaws.{falling_no_circle}, proofs.ChainLaws.{bad_chain_breaks_places}, proofs.Ends.{move_falls}}
use Rattle.net_faults.{specs.declared.plan_fault.PlanFault.{PlanFault}, specs.declared.plan_fault.PlanFault.TheVariants.{Broken, Obstacle}, specs.PlanFaults.{ArePlanFaults, IsOwnerLoopTold, IsLoopTold, IsChainTold, broken_in, is_of_turn, turn_of}, proofs.CircleLaws.{circle_circles}, proofs.NextLaws.{circle_of_moves, circle_of_goings}, proofs.ListLaws.{empty_list, both_empty}}
use Rattle.net_rules.specs.declared.certify_error.CertifyError.TheVariants as error

-- ---- where a certificate is accepted nothing is listed

module _ (plan : Plan) (cert : Certificate) (accepted : Accepts plan cert) where
  no_owner_circle : (n : ℕ) → ¬ IsOnCircle (IsOwnedBy plan) n
  no_owner_circle = falling_no_circle plan cert (λ n. (accepted C07 n None None).1)

  no_moving_circle : (e n : ℕ) → ¬ IsOnCircle (MovesTo plan e) n
  no_moving_circle e = no_circle_down (MovesTo plan e) (λ k. rank cert k e) (λ k m move. move_falls plan cert e k m accepted move)

  no_owner_loop : (f : PlanFault) → ¬ IsOwnerLoopTold plan f
  no_owner_loop (Broken run) told = told
  no_owner_loop (Obstacle error.OutOfMemory more) told = told
  no_owner_loop (Obstacle (error.Fault fault) more) told = told
  no_owner_loop (Obstacle (error.OwnerLoop nodes) more) (first, is, none) = no_owner_circle first (circle_circles (IsOwnedBy plan) first nodes.items is)
  no_owner_loop (Obstacle (error.Loop eid nodes) more) told = told
  no_owner_loop (Obstacle (error.BadChain node kind entry) more) told = told

  no_loop : (f : PlanFault) → ¬ IsLoopTold plan f
  no_loop (Broken run) told = told
  no_loop (Obstacle error.OutOfMemory more) told = told
  no_loop (Obstacle (error.Fault fault) more) told = told
  no_loop (Obstacle (error.OwnerLoop nodes) more) told = told
  no_loop (Obstacle (error.Loop eid nodes) more) (first, eids, round, least, many) =
      let is = (round.exact eid.value).0 (0, least) in
      no_moving_circle eid.value first (circle_of_goings plan eid.value first (circle_circles _ first nodes.items is))
  no_loop (Obstacle (error.BadChain node kind entry) more) told = told

  no_chain : (f : PlanFault) → ¬ IsChainTold plan f
  no_chain (Broken run) told = told
  no_chain (Obstacle error.OutOfMemory more) told = told
  no_chain (Obstacle (error.Fault fault) more) told = told
  no_chain (Obstacle (error.OwnerLoop nodes) more) told = told
  no_chain (Obstacle (error.Loop eid nodes) more) told = told
  no_chain (Obstacle (error.BadChain node kind entry) more) (bad, none) =
      bad_chain_breaks_places (records_of plan node) kind entry (λ j r is. (accepted C12 node (Some j) None).0 r is) bad (places_of cert node) (λ j r is. (accepted C14 node (Some j) None).1 r is)

  -- each run has a site, at which its rule is not met
  among_first : (eids : Option EidSpan) → IsAmong eids (option_map (λ (e : EidSpan). e.first.value) eids)
  among_first None = tt
  among_first (Some eids) = (omega arith, eids.ordered)

  abbrev site_in : FaultRun → FaultSite
  site_in run = record { rule = run.rule; node = run.node; entry = run.entry; eid = option_map (λ (eids : EidSpan). eids.first.value) run.eids }

  no_run : (runs : List FaultRun) → AreFaults plan None runs → runs ≡ []
  no_run runs are = empty_list runs (λ i run is.
      let one = get_or runs i run in
      let p = site_in one in
      are.sound.broken i run (slice_get_within runs i run is) p (refl, refl, refl, among_first one.eids) (accepted p.rule p.node p.entry p.eid).0)

  pub none_listed : (found : List PlanFault) → ArePlanFaults plan found → found ≡ []
  none_listed found are =
      let runs = no_run are.runs are.are_runs in
      let owners = empty_list are.owner_loops (λ i f is. no_owner_loop f (are.are_owner_loops.sound i f is)) in
      let loops = empty_list are.loops (λ i f is. no_loop f (are.are_loops.sound i f is)) in
      let chains = empty_list are.chains (λ i f is. no_chain f (are.are_chains.sound i f is)) in
      cc (are.listed, runs, owners, loops, chains)

-- ---- where nothing is listed nothing rules certificates out

-- each rule has one of the turns
turn_is : (rule : Rule) → (turn_of rule ≡ 0) ⊎ ((turn_of rule ≡ 1) ⊎ ((turn_of rule ≡ 2) ⊎ (turn_of rule ≡ 3)))
turn_is C01 = inl refl
turn_is C02 = inl refl
turn_is C03 = inl refl
turn_is C04 = inl refl
turn_is C05 = inl refl
turn_is C06 = inl refl
turn_is C07 = inl refl
turn_is C08 = inr (inl refl)
turn_is C09 = inr (inl refl)
turn_is C10 = inr (inl refl)
turn_is C11 = inr (inr (inl refl))
turn_is C12 = inr (inr (inl refl))
turn_is C13 = inr (inr (inl refl))
turn_is C14 = inr (inr (inl refl))
turn_is C15 = inr (inr (inr refl))
turn_is C16 = inr (inr (inr refl))

-- a run of the turn stays
stays : (turn : ℕ) (run : FaultRun) (runs : List FaultRun) → turn_of run.rule ≡ turn → broken_in turn (run ∷ runs) ≢ []
stays turn run runs same none =
    let yes : is_of_turn turn run ≡ true = eq-eqb (turn_of run.rule) turn same in
    let P : Bool → Type 0 = λ b. map Broken (cond b (run ∷ filter (is_of_turn turn) runs) (filter (is_of_turn turn) runs)) ≡ [] in
    cc (subst P yes none)

-- so where those of each turn are none there are none
no_turn : (runs : List FaultRun) → broken_in 0 runs ≡ [] → broken_in 1 runs ≡ [] → broken_in 2 runs ≡ [] → broken_in 3 runs ≡ [] → runs ≡ []
no_turn [] a b c d = refl
no_turn (run ∷ runs) a b c d = absurd (elim (turn_is run.rule) [
  | inl is ↦ stays 0 run runs is a
  | inr later ↦ elim later [
    | inl is ↦ stays 1 run runs is b
    | inr later' ↦ elim later' [ inl is ↦ stays 2 run runs is c | inr is ↦ stays 3 run runs is d ]
  ]
])

module _ (plan : Plan) (are : ArePlanFaults plan []) where
  -- nothing of each kind is listed
  nothing : (are.runs ≡ []) × (are.owner_loops ≡ []) × (are.loops ≡ []) × (are.chains ≡ [])
  nothing =
      let a = both_empty (broken_in 0 are.runs) _ are.listed in
      let b = both_empty are.owner_loops _ a.1 in
      let c = both_empty (broken_in 1 are.runs) _ b.1 in
      let d = both_empty are.loops _ c.1 in
      let e = both_empty (broken_in 2 are.runs) _ d.1 in
      let f = both_empty are.chains (broken_in 3 are.runs) e.1 in
      (no_turn are.runs a.0 c.0 e.0 (sym f.1), b.0, d.0, f.0)

  pub nothing_in_the_way : (e : CertifyError) → NamesObstacle plan e → e ≡ error.OutOfMemory
  nothing_in_the_way error.OutOfMemory names = refl
  nothing_in_the_way (error.Fault fault) names = absurd (elim (are.are_runs.all (site_of fault)) [
    | inl met ↦ names.1.broken met
    | inr (run, has, is) ↦ (let none = subst (λ (rs : List FaultRun). Contains rs run) nothing.0 has in omega (arith, none.1))
  ])
  nothing_in_the_way (error.OwnerLoop nodes) names =
      let there = are.are_owner_loops.all names.2.0 names.2.1.0 in
      absurd (subst (λ fs. slice_get fs there.0 ≢ Some there.1) (sym nothing.1) (λ is. cc is) there.2)
  nothing_in_the_way (error.Loop eid nodes) names =
      let first = names.1.picked.0 in
      let there = are.are_loops.all eid.value first (circle_of_moves plan eid.value first (λ n r. names.0.plan_meets C05 (omega arith) n (Some r) None) names.1.picked.1.0) in
      absurd (subst (λ fs. slice_get fs there.0 ≢ Some there.1) (sym nothing.2) (λ is. cc is) there.3)
  nothing_in_the_way (error.BadChain node kind entry) names =
      let there = are.are_chains.all node kind entry names.1 in
      absurd (subst (λ fs. slice_get fs there.0 ≢ Some there.1) (sym nothing.3) (λ is. cc is) there.2)
