-- A plan that moves to itself has the certificate, or the obstacle, that it has alone.
use Rattle.std.proofs.Common.{◌≡◌, ◌≢◌, ℕ, ◌<◌, Option, Some, None, refl, arith, inl, inr}
use Rattle.net_rules.{specs.declared.rule.Rule.{Rule}, specs.declared.rule.Rule.TheVariants.{C01, C02, C03, C04, C05, C06, C07, C08, C09, C10, C11, C12, C13, C14, C15, C16}, specs.declared.certify_error.CertifyError.{CertifyError}, specs.declared.move_error.MoveError.{MoveError}, specs.declared.move_fault.MoveRule.{MoveRule}, specs.declared.move_fault.MoveRule.TheVariants.{OfPlan, M02, M03}, specs.declared.move_fault.MoveFault.{MoveFault}, specs.declared.move_obstacle.MoveObstacle.{MoveObstacle}, specs.Superfluous.{NeedsItsRank}, specs.Rules.{Accepts, Demands}, specs.Promises.{WayEnds}, specs.RoutingLoops.{IsRank}, specs.MoveRules.{Before, After, WayOnBefore, WayOnAfter, Given, DemandsBefore, AcceptsMove}, specs.MoveFaults.{MoveFaultSite, order_of_requirement, required_after}, specs.Certificates.{IsExact, NamesObstacle}, specs.MoveRanks.{MayMoveTo, WayEndsInBoth, IsMoveRank}, specs.MoveObstacles.{IsExactForMove, CanReach, IsSureFaultOf, NamesSureFault, NamesMoveObstacle}, proofs.Circling.{no_circle_down}, proofs.EidMoves.{rank_only}, proofs.Ends.{falls_by_rule}, proofs.MoveCertificates.{plan_rows_apart}, proofs.SameMoves.{Leads-same}}
use Rattle.plan_values.{specs.declared.plan.Plan.{Plan}, specs.declared.certificate.Certificate.{Certificate}}
use Rattle.net_tables.{specs.Routing.{MovesTo, eid_number}, specs.Rows.{RowsAreApart}, specs.Ranks.{rank}, specs.TwoPlans.{one_plan, moving}}
use Rattle.net_check.proofs.SelfMoves.{same_frame, same_node, moves_to_itself, after_of_before, way_on_itself}
use Rattle.net_rules.specs.declared.move_error.MoveError.TheVariants as error
use Rattle.net_rules.specs.declared.move_obstacle.MoveObstacle.TheVariants as obstacle

-- ---- ranks

module _ (plan : Plan) where
  may_from : (e n m : ℕ) → MovesTo plan e n m → MayMoveTo plan plan e n m
  may_from e n m move = inl move

  may_to : (e n m : ℕ) → MayMoveTo plan plan e n m → MovesTo plan e n m
  may_to e n m (inl move) = move
  may_to e n m (inr move) = move

  ends_from : (e n : ℕ) → WayEnds plan e n → WayEndsInBoth plan plan e n
  ends_from e n (inl holds) = inl holds
  ends_from e n (inr none) = inr (λ has. elim has [ inl row ↦ none row | inr row ↦ none row ])

  ends_to : (e n : ℕ) → WayEndsInBoth plan plan e n → WayEnds plan e n
  ends_to e n (inl holds) = inl holds
  ends_to e n (inr none) = inr (λ row. none (inl row))

  rank_to : (n e k : ℕ) → IsMoveRank plan plan n e k → IsRank plan n e k
  rank_to n e k is = (is.way.0, Leads-same (MayMoveTo plan plan e) (MovesTo plan e) (may_to e) n k is.way.0 is.way.1, ends_to e is.way.0 is.way.2)

  rank_from : RowsAreApart plan → (n e k : ℕ) → IsRank plan n e k → IsMoveRank plan plan n e k
  rank_from apart n e k is = record {
    way = (is.0, Leads-same (MovesTo plan e) (MayMoveTo plan plan e) (may_from e) n k is.0 is.1, ends_from e is.0 is.2);
    longest = λ l m way ends.
        (let other : IsRank plan n e l = (m, Leads-same (MayMoveTo plan plan e) (MovesTo plan e) (may_to e) n l m way, ends_to e m ends) in
        omega (arith, rank_only plan n e l k apart other is));
  }

  pub exact_alone : (cert : Certificate) → IsExactForMove plan plan cert → IsExact plan cert
  exact_alone cert exact = record {
    levels = exact.levels;
    places = exact.places;
    ranks = record {
      ranks = λ n e. rank_to n e (rank cert n e) (exact.ranks.ranks n e);
      longest = exact.ranks.longest;
      some = exact.ranks.some;
      within = exact.ranks.within;
      ascend = exact.ranks.ascend;
    };
  }

  pub exact_moving : RowsAreApart plan → (cert : Certificate) → IsExact plan cert → IsExactForMove plan plan cert
  exact_moving apart cert exact = record {
    levels = exact.levels;
    places = exact.places;
    ranks = record {
      ranks = λ n e. rank_from apart n e (rank cert n e) (exact.ranks.ranks n e);
      longest = exact.ranks.longest;
      some = exact.ranks.some;
      within = exact.ranks.within;
      ascend = exact.ranks.ascend;
    };
  }

-- ---- what is accepted

needed_alone : (plan : Plan) (cert : Certificate) (n e : ℕ) → NeedsItsRank (moving plan plan) cert n e → NeedsItsRank (one_plan plan) cert n e
unfolding NeedsItsRank
needed_alone plan cert n e needs within byte some = (let h = needs within byte some in (h.0, elim h.1 [ inl row ↦ row | inr row ↦ row ]))

module _ (plan : Plan) (cert : Certificate) (accepted : AcceptsMove plan plan cert) where
  pub accepted_alone : (rule : Rule) (n : ℕ) (entry eid : Option ℕ) → Demands plan cert rule n entry eid
  accepted_alone C01 n entry eid = accepted (Before C01) n entry eid
  accepted_alone C02 n entry eid = accepted (Before C02) n entry eid
  accepted_alone C03 n entry eid = accepted (Before C03) n entry eid
  accepted_alone C04 n entry eid = accepted (Before C04) n entry eid
  accepted_alone C05 n entry eid = accepted (Before C05) n entry eid
  accepted_alone C06 n entry eid = accepted (Before C06) n entry eid
  accepted_alone C07 n entry eid = accepted (Before C07) n entry eid
  accepted_alone C08 n entry eid = accepted (Before C08) n entry eid
  accepted_alone C09 n entry eid = accepted (Before C09) n entry eid
  accepted_alone C10 n entry eid = accepted (Before C10) n entry eid
  accepted_alone C11 n entry eid = accepted (Before C11) n entry eid
  accepted_alone C12 n entry eid = accepted (Before C12) n entry eid
  accepted_alone C13 n entry eid = accepted (Before C13) n entry eid
  accepted_alone C14 n entry eid = accepted (Before C14) n entry eid
  accepted_alone C15 n entry eid = accepted (Before C15) n entry eid
  accepted_alone C16 n None None = (tt, accepted Given n None None)
  accepted_alone C16 n None (Some e) = (tt, needed_alone plan cert n e (accepted Given n None (Some e)))
  accepted_alone C16 n (Some i) eid = (tt, tt)

pub moves_alone : (plan : Plan) (cert : Certificate) → AcceptsMove plan plan cert × IsExactForMove plan plan cert → Accepts plan cert × IsExact plan cert
moves_alone plan cert (accepted, exact) = (accepted_alone plan cert accepted, exact_alone plan cert exact)

pub alone_moves : (plan : Plan) (cert : Certificate) → Accepts plan cert × IsExact plan cert → AcceptsMove plan plan cert × IsExactForMove plan plan cert
alone_moves plan cert (accepted, exact) = (moves_to_itself plan cert accepted, exact_moving plan (plan_rows_apart plan cert accepted) cert exact)

-- ---- what is in the way

module _ (plan : Plan) where
  -- a certificate that meets all before a site past the rules of the plan before meets these
  meets_olds : (site : MoveFaultSite) → 2 < order_of_requirement site.requirement → (reached : CanReach plan plan site) → (rule : Rule) (n : ℕ) (entry eid : Option ℕ) → DemandsBefore plan reached.0 rule n entry eid
  meets_olds site late reached rule n entry eid = reached.1 (record { requirement = Before rule; node = n; entry = entry; eid = eid }) (inl late)

  no_new : (fault : MoveFault) (rule : MoveRule) → IsSureFaultOf plan plan (required_after rule) fault → ⊥
  no_new fault (OfPlan rule) sure =
      (let site : MoveFaultSite = record { requirement = After rule; node = fault.node; entry = fault.entry; eid = eid_number fault.eid } in
      sure.broken sure.reached.0 (after_of_before plan sure.reached.0 rule fault.node fault.entry (eid_number fault.eid) (meets_olds site (omega arith) sure.reached rule fault.node fault.entry (eid_number fault.eid))))
  no_new fault M02 sure =
      (let site : MoveFaultSite = record { requirement = WayOnAfter; node = fault.node; entry = fault.entry; eid = eid_number fault.eid } in
      sure.broken sure.reached.0 (way_on_itself plan sure.reached.0 fault.node fault.entry (eid_number fault.eid) (meets_olds site (omega arith) sure.reached C11 fault.node fault.entry (eid_number fault.eid))))
  no_new fault M03 sure = sure

  no_fault : (e : MoveError) → NamesSureFault plan plan e → ⊥
  no_fault (error.Differ None) named = named (same_frame plan)
  no_fault (error.Differ (Some n)) named = named.1 (same_node plan n)
  no_fault (error.Old fault) named =
      (let sure = named.1 in
      let site : MoveFaultSite = record { requirement = WayOnBefore; node = fault.node; entry = fault.entry; eid = eid_number fault.eid } in
      sure.broken sure.reached.0 (way_on_itself plan sure.reached.0 fault.node fault.entry (eid_number fault.eid) (meets_olds site (omega arith) sure.reached C11 fault.node fault.entry (eid_number fault.eid))))
  no_fault (error.New fault) named = no_new fault fault.rule named
  no_fault (error.Both fault) named = named
  no_fault error.OutOfMemory named = named

  pub obstacle_alone : (o : MoveObstacle) → NamesMoveObstacle plan plan o → o ≢ obstacle.OutOfMemory → (e : CertifyError) × (o ≡ obstacle.Old e) × NamesObstacle plan e
  obstacle_alone obstacle.OutOfMemory named some = absurd (some refl)
  obstacle_alone (obstacle.Old e) named some = (e, refl, named.2)
  obstacle_alone (obstacle.Fault e) named some = absurd (no_fault e named)
  obstacle_alone (obstacle.Loop loop) named some =
      (let site : MoveFaultSite = record { requirement = After C10; node = 0; entry = None; eid = None } in
      let cert = named.0.0 in
      let e = loop.eid.value in
      absurd (no_circle_down (MayMoveTo plan plan e) (λ n. rank cert n e)
      (λ n m move. falls_by_rule plan cert (λ n entry eid. meets_olds site (omega arith) named.0 C10 n entry eid) e n m (may_to plan e n m move)) named.1.picked.first named.1.picked.least.0))
