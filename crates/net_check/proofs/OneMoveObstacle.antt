-- Of a move one cause at most is the first why there is no certificate.
use Rattle.std.{proofs.Common.{add-one, ◌≡◌, ◌≢◌, ℕ, zero, suc, ◌+◌, ◌-◌, ◌<◌, ◌≤◌, List, [], ◌∷◌, length, get_or, true, false, Option, Some, None, refl, sym, ap, ◌∙◌, subst, arith, inl, inr}, specs.Prelude.{slice_get, Vec}, proofs.lemmas.Bool.{cases_order, and_from, le-leb, lt-ltb, eq-eqb, ne_eqb}, proofs.lemmas.List.{same_lists}, proofs.lemmas.Option.{same_Some, slice_get-get_or, slice_get_within}}
use Rattle.mctp_transport.specs.declared.address.Eid.{Eid}
use Rattle.plan_values.{specs.declared.plan.Plan.{Plan}, specs.declared.nodes.Row.{Row}, specs.declared.certificate.RankRange.{RankRange}, specs.declared.certificate.Certificate.{Certificate}}
use Rattle.net_tables.{specs.Routing.{MovesTo, Covers, rows_of, eid_number}, specs.Rows.{RowsAreApart, NamesNeighbor}, specs.Ranks.{is_in_range, rank, Falls}, proofs.Elements.{element}}
use Rattle.net_rules.{specs.declared.rule.Rule.{Rule}, specs.declared.rule.Rule.TheVariants.{C05, C06, C10}, specs.declared.certify_error.CertifyError.{CertifyError}, specs.declared.move_fault.MoveRule.{MoveRule}, specs.declared.move_fault.MoveRule.TheVariants.{OfPlan, M02, M03}, specs.declared.move_fault.MoveFault.{MoveFault}, specs.declared.move_error.MoveError.{MoveError}, specs.declared.mixed_loop.MixedLoop.{MixedLoop}, specs.declared.mixed_loop.Side.{Side}, specs.declared.mixed_loop.Side.TheVariants.{Old, New}, specs.Moves.{Leads}, specs.MixedLoops.{EitherOf, MovesOn, IsMixedLoop}, specs.Faults.{order_of}, specs.MoveRules.{Requirement, SameFrame, SameNode, Before, After, WayOnBefore, WayOnAfter, DemandsBefore, DemandsAfter}, specs.MoveFaults.{MoveFaultSite, order_of_requirement, required_after, move_site}, specs.MoveRanks.{MayMoveTo, IsFirstMixedLoop}, specs.Certificates.{NamesObstacle}, specs.MoveObstacles.{DifferInRowsAlone, CanReach, IsSureFault, IsSureFaultOf, NamesSureFault}, proofs.Circling.{no_circle_down}, proofs.EidMoves.{moves_only}, proofs.Ends.{falls_by_rule}, proofs.Obstacles.{ruled_out_before}, proofs.RuleOrder.{one_order}}
use Rattle.net_check.{specs.OneObstacle.{IsSameMoveObstacle, HasOneMoveObstacle}, proofs.OneFault.{one_sure_site}, proofs.OneObstacle.{one_on_circle, one_eid, one_eid_number, one_obstacle}}
use Rattle.net_rules.specs.declared.certify_error.CertifyError.TheVariants as alone
use Rattle.net_rules.specs.declared.move_error.MoveError.TheVariants as error
use Rattle.net_rules.specs.declared.move_obstacle.MoveObstacle.TheVariants as obstacle

-- ---- mixed loops, where at most one move by each relation leaves an index

module _ (ByOld ByNew : ℕ → ℕ → Type 0) (only_old : (n p q : ℕ) → ByOld n p → ByOld n q → p ≡ q) (only_new : (n p q : ℕ) → ByNew n p → ByNew n q → p ≡ q) where
  either : (side : Side) (n m : ℕ) → MovesOn side ByOld ByNew n m → EitherOf ByOld ByNew n m
  either Old n m move = inl move
  either New n m move = inr move

  only_on : (side : Side) (n p q : ℕ) → MovesOn side ByOld ByNew n p → MovesOn side ByOld ByNew n q → p ≡ q
  only_on Old n p q one other = only_old n p q one other
  only_on New n p q one other = only_new n p q one other

  -- from each of its places the loop leads back to its start
  leads_back : (nodes : List ℕ) (sides : List Side) (loop : IsMixedLoop ByOld ByNew nodes sides) (left i n : ℕ) → i + left ≡ length sides → slice_get nodes i ≡ Some n → Leads (EitherOf ByOld ByNew) n left loop.first
  leads_back nodes sides loop zero i n far is = same_Some n loop.first (sym is ∙ (ap (λ k. slice_get nodes k) (omega (arith, far)) ∙ loop.closed))
  leads_back nodes sides loop (suc left) i n far is =
      let next = element nodes (i + 1) (omega (arith, far, loop.long)) in
      let side = element sides i (omega (arith, far)) in
      (next.0, either side.0 n next.0 (loop.joined i n next.0 side.0 is next.1 side.1), leads_back nodes sides loop left (i + 1) next.0 (omega (arith, far)) next.1)

  no_shorter : (nodes others : List ℕ) (sides ways : List Side) → (loop : IsMixedLoop ByOld ByNew nodes sides) (other : IsMixedLoop ByOld ByNew others ways) → loop.first ≡ other.first → length sides ≤ length ways
  no_shorter nodes others sides ways loop other starts = by (length ways) refl
    where
      by : (count : ℕ) → length ways ≡ count → length sides ≤ length ways
      by zero none = absurd (omega (arith, none, other.some))
      by (suc k) many =
          let back = leads_back others ways other (suc k) 0 other.first (omega (arith, many)) other.starts in
          let R : ℕ → Type 0 = λ n. Leads (EitherOf ByOld ByNew) n (suc k) n in
          omega (arith, many, loop.shortest k (subst R (sym starts) back))

  module _ (nodes others : List ℕ) (sides ways : List Side) (loop : IsMixedLoop ByOld ByNew nodes sides) (other : IsMixedLoop ByOld ByNew others ways) where
    one_start : loop.first ≡ other.first
    one_start = one_on_circle (EitherOf ByOld ByNew) loop.first other.first loop.least other.least

    as_long : length sides ≡ length ways
    as_long = omega (arith, no_shorter nodes others sides ways loop other one_start, no_shorter others nodes ways sides other loop (sym one_start))

    -- a move by the old relation that leads back in as few leaves no move by the new one
    no_new : (i n m : ℕ) → slice_get nodes i ≡ Some n → slice_get nodes (i + 1) ≡ Some m → slice_get sides i ≡ Some Old → slice_get others i ≡ Some n → slice_get ways i ≡ Some New → ⊥
    no_new i n m here next is there is' =
        let within = slice_get_within sides i Old is in
        let back = leads_back nodes sides loop (length sides - (i + 1)) (i + 1) m (omega (arith, within)) next in
        let L : ℕ → Type 0 = λ left. Leads (EitherOf ByOld ByNew) m left other.first in
        let F : ℕ → Type 0 = λ first. Leads (EitherOf ByOld ByNew) m (length sides - (i + 1)) first in
        other.old_first i n m there is' (loop.joined i n m Old here next is) (subst L (ap (λ k. k - (i + 1)) as_long) (subst F one_start back))

  one_side : (nodes others : List ℕ) (sides ways : List Side) (loop : IsMixedLoop ByOld ByNew nodes sides) (other : IsMixedLoop ByOld ByNew others ways) (i n : ℕ) → slice_get nodes i ≡ Some n → slice_get others i ≡ Some n
      → (side way : Side) → slice_get sides i ≡ Some side → slice_get ways i ≡ Some way → side ≡ way
  one_side nodes others sides ways loop other i n here there Old Old is is' = refl
  one_side nodes others sides ways loop other i n here there New New is is' = refl
  one_side nodes others sides ways loop other i n here there Old New is is' =
      let next = element nodes (i + 1) (omega (arith, slice_get_within sides i Old is, loop.long)) in
      absurd (no_new nodes others sides ways loop other i n next.0 here next.1 is there is')
  one_side nodes others sides ways loop other i n here there New Old is is' =
      let next = element others (i + 1) (omega (arith, slice_get_within ways i Old is', other.long)) in
      absurd (no_new others nodes ways sides other loop i n next.0 there next.1 is' here is)

  module _ (nodes others : List ℕ) (sides ways : List Side) (loop : IsMixedLoop ByOld ByNew nodes sides) (other : IsMixedLoop ByOld ByNew others ways) where
    one_node : (i n m : ℕ) → slice_get nodes i ≡ Some n → slice_get others i ≡ Some m → n ≡ m
    one_node zero n m is is' = same_Some n m (sym is ∙ (loop.starts ∙ (ap Some (one_start nodes others sides ways loop other) ∙ (sym other.starts ∙ is'))))
    one_node (suc i) n m is is' =
        let within = slice_get_within nodes (suc i) n is in
        let long = as_long nodes others sides ways loop other in
        let x = element nodes i (omega (arith, within)) in
        let y = element others i (omega (arith, slice_get_within others (suc i) m is')) in
        let same = one_node i x.0 y.0 x.1 y.1 in
        let there : slice_get others i ≡ Some x.0 = y.1 ∙ ap Some (sym same) in
        let side = element sides i (omega (arith, within, loop.long)) in
        let way = element ways i (omega (arith, within, loop.long, long)) in
        let sides_are = one_side nodes others sides ways loop other i x.0 x.1 there side.0 way.0 side.1 way.1 in
        let next : slice_get nodes (i + 1) ≡ Some n = rw add-one is in
        let next' : slice_get others (i + 1) ≡ Some m = rw add-one is' in
        only_on side.0 x.0 n m (loop.joined i x.0 n side.0 x.1 next side.1) (other.joined i x.0 m side.0 there next' (way.1 ∙ ap Some (sym sides_are)))

    pub one_mixed_loop : (nodes ≡ others) × (sides ≡ ways)
    one_mixed_loop =
        let long = as_long nodes others sides ways loop other in
        let many : length nodes ≡ length others = omega (arith, loop.long, other.long, long) in (
          same_lists nodes others many (λ k d less. one_node k (get_or nodes k d) (get_or others k d) (slice_get-get_or nodes k d less) (slice_get-get_or others k d (omega (arith, less, many)))),
          same_lists sides ways long (λ k d less.
              let x = element nodes k (omega (arith, less, loop.long)) in
              let y = element others k (omega (arith, less, long, other.long)) in
              let there : slice_get others k ≡ Some x.0 = y.1 ∙ ap Some (sym (one_node k x.0 y.0 x.1 y.1)) in
              one_side nodes others sides ways loop other k x.0 x.1 there (get_or sides k d) (get_or ways k d) (slice_get-get_or sides k d less) (slice_get-get_or ways k d (omega (arith, less, long)))),
        )

-- ---- a certificate by which the rank falls along one row

-- a list of one item, in the place of another
abbrev single : {X Y H : Type 0} → Vec X H → Y → Vec Y H
single v y = record { ptr = v.ptr; len = 1; cap = 1; alloc = v.alloc; items = y ∷ []; ok = (refl, omega arith); small = omega arith }

module _ (n : ℕ) (eid : Eid) (cert : Certificate) where
  abbrev range_there : RankRange
  range_there = record {
    first = eid;
    rank = 1;
    size = 1;
    ranked = omega arith;
    some = omega arith;
    rank_within = omega arith;
    size_within = omega arith;
    within = omega (arith, eid.in_range);
  }

  -- it gives n the rank 1 for the endpoint ID, and no other rank
  abbrev ranked_there : Certificate
  ranked_there = record { levels = cert.levels; places = cert.places; ranks = single cert.ranks (record { node = n; ranges = single cert.ranks range_there }) }

  in_range_there : is_in_range range_there eid.value ≡ true
  in_range_there = and_from _ _ (le-leb eid.value eid.value (omega arith)) (lt-ltb eid.value (eid.value + 1) (omega arith))

  rank_there : rank ranked_there n eid.value ≡ 1
  rank_there = rw (eq-eqb n n refl, in_range_there) refl

  no_rank : (m : ℕ) → m ≢ n → rank ranked_there m eid.value ≡ 0
  no_rank m other = rw (ne_eqb n m (λ same. other (sym same))) refl

-- ---- what some certificate meets

module _ (before after : Plan) where
  -- before a late site all rules of the plan before are asked
  olds : (site : MoveFaultSite) → 2 < order_of_requirement site.requirement → (reached : CanReach before after site) → (rule : Rule) (n : ℕ) (entry eid : Option ℕ) → DemandsBefore before reached.0 rule n entry eid
  olds site late reached rule n entry eid = reached.1 (record { requirement = Before rule; node = n; entry = entry; eid = eid }) (inl late)

  no_old : (e : CertifyError) → e ≢ alone.OutOfMemory → NamesObstacle before e → (site : MoveFaultSite) → 2 < order_of_requirement site.requirement → ¬ CanReach before after site
  no_old e some named site late reached = ruled_out_before before e some named reached.0 (olds site late reached)

  frames : (site : MoveFaultSite) → 2 < order_of_requirement site.requirement → CanReach before after site → DifferInRowsAlone before after
  frames site late reached = (
    reached.1 (record { requirement = SameFrame; node = 0; entry = None; eid = None }) (inl (omega (arith, late))),
    λ n. reached.1 (record { requirement = SameNode; node = n; entry = None; eid = None }) (inl (omega (arith, late))),
  )

  -- where ranks fall along the rows of both plans, nothing goes round
  no_loop : (loop : MixedLoop) → IsFirstMixedLoop before after loop → (site : MoveFaultSite) → 2 < order_of_requirement site.requirement → (reached : CanReach before after site)
      → ((n : ℕ) (entry eid : Option ℕ) → DemandsAfter after reached.0 C10 n entry eid) → ⊥
  no_loop loop named site late reached falls =
      let cert = reached.0 in
      let e = loop.eid.value in
      no_circle_down (MayMoveTo before after e) (λ n. rank cert n e) (fall cert e (λ n entry eid. olds site late reached C10 n entry eid) falls) named.picked.first named.picked.least.0
    where
      fall : (cert : Certificate) (e : ℕ) → ((n : ℕ) (entry eid : Option ℕ) → DemandsBefore before cert C10 n entry eid) → ((n : ℕ) (entry eid : Option ℕ) → DemandsAfter after cert C10 n entry eid)
          → (n m : ℕ) → MayMoveTo before after e n m → rank cert m e < rank cert n e
      fall cert e old new n m (inl move) = falls_by_rule before cert old e n m move
      fall cert e old new n m (inr move) = falls_by_rule after cert new e n m move

  -- no place of C10 rules all certificates out
  no_sure_ranks : (fault : MoveFault) → ¬ IsSureFault before after (move_site (After C10) fault)
  unfolding Falls NamesNeighbor
  no_sure_ranks fault sure = by fault.entry fault.eid sure
    where
      by : (entry : Option ℕ) (eid : Option Eid) → ¬ IsSureFault before after (record { requirement = After C10; node = fault.node; entry = entry; eid = eid_number eid })
      by None eid sure = sure.broken sure.reached.0 (tt, tt)
      by (Some r) None sure = sure.broken sure.reached.0 (tt, tt)
      by (Some r) (Some eid) sure = sure.broken (ranked_there fault.node eid sure.reached.0) (tt, falls)
        where
          falls : (row : Row) → slice_get (rows_of after fault.node) r ≡ Some row → Covers row eid.value → Falls after (ranked_there fault.node eid sure.reached.0) fault.node row eid.value
          falls row is covers away =
              let neighbor = (sure.reached.1 (record { requirement = After C06; node = fault.node; entry = Some r; eid = None }) (inr (refl, inl (omega arith)))).0 row is in
              let here = rank_there fault.node eid sure.reached.0 in
              let there = no_rank fault.node eid sure.reached.0 row.next neighbor.0 in
              omega (arith, here, there)

  -- ---- what the errors name

  -- a fault of the new plan is of one requirement
  record IsNewAt (fault : MoveFault) : Type 0 where
    requirement : Requirement
    asked : required_after fault.rule ≡ Some requirement
    late : 2 < order_of_requirement requirement
    other : requirement ≢ WayOnBefore
    sure : IsSureFault before after (move_site requirement fault)

  new_at : (fault : MoveFault) (rule : MoveRule) → fault.rule ≡ rule → IsSureFaultOf before after (required_after rule) fault → IsNewAt fault
  new_at fault (OfPlan rule) is sure = record { requirement = After rule; asked = ap required_after is; late = omega arith; other = λ same. cc; sure = sure }
  new_at fault M02 is sure = record { requirement = WayOnAfter; asked = ap required_after is; late = omega arith; other = λ same. cc; sure = sure }
  new_at fault M03 is sure = absurd sure

  one_rule : (one other : MoveRule) (requirement : Requirement) → required_after one ≡ Some requirement → required_after other ≡ Some requirement → one ≡ other
  one_rule (OfPlan one) (OfPlan other) requirement is is' = (let same : After one ≡ After other = same_Some (After one) (After other) (is ∙ sym is') in cc)
  one_rule (OfPlan one) M02 requirement is is' = (let same : After one ≡ WayOnAfter = same_Some (After one) WayOnAfter (is ∙ sym is') in cc)
  one_rule M02 (OfPlan other) requirement is is' = (let same : WayOnAfter ≡ After other = same_Some WayOnAfter (After other) (is ∙ sym is') in cc)
  one_rule M02 M02 requirement is is' = refl
  one_rule M03 other requirement is is' = cc
  one_rule one M03 requirement is is' = cc

  one_fault : (p q : MoveFault) (requirement : Requirement) → p.rule ≡ q.rule → move_site requirement p ≡ move_site requirement q → p ≡ q
  one_fault p q requirement rules same = λ i. record {
    rule = rules i;
    node = (same i).node;
    entry = (same i).entry;
    eid = one_eid_number p.eid q.eid (λ j. (same j).eid) i;
  }

  no_difference : (n : Option ℕ) → NamesSureFault before after (error.Differ n) → ¬ DifferInRowsAlone before after
  no_difference None named same = named same.0
  no_difference (Some n) named same = named.1 (same.1 n)

  one_sure_fault : (e f : MoveError) → NamesSureFault before after e → NamesSureFault before after f → e ≡ f
  one_sure_fault (error.Differ None) (error.Differ None) named named' = refl
  one_sure_fault (error.Differ None) (error.Differ (Some m)) named named' = absurd (named named'.0)
  one_sure_fault (error.Differ (Some n)) (error.Differ None) named named' = absurd (named' named.0)
  one_sure_fault (error.Differ (Some n)) (error.Differ (Some m)) named named' = elim (cases_order n m) [
    | inl same ↦ ap (λ k. error.Differ (Some k)) same
    | inr (inl less) ↦ absurd (named.1 (named'.2 n less))
    | inr (inr more) ↦ absurd (named'.1 (named.2 m more))
  ]
  one_sure_fault (error.Differ n) (error.Old q) named named' = absurd (no_difference n named (frames (move_site WayOnBefore q) (omega arith) named'.1.reached))
  one_sure_fault (error.Differ n) (error.New q) named named' = (let new = new_at q q.rule refl named' in absurd (no_difference n named (frames (move_site new.requirement q) new.late new.sure.reached)))
  one_sure_fault (error.Old p) (error.Differ m) named named' = absurd (no_difference m named' (frames (move_site WayOnBefore p) (omega arith) named.1.reached))
  one_sure_fault (error.Old p) (error.Old q) named named' =
      ap error.Old (one_fault p q WayOnBefore (named.0 ∙ sym named'.0) (one_sure_site before after (move_site WayOnBefore p) (move_site WayOnBefore q) named.1 named'.1))
  one_sure_fault (error.Old p) (error.New q) named named' =
      let new = new_at q q.rule refl named' in
      absurd (new.other (sym (ap (λ (site : MoveFaultSite). site.requirement) (one_sure_site before after (move_site WayOnBefore p) (move_site new.requirement q) named.1 new.sure))))
  one_sure_fault (error.New p) (error.Differ m) named named' = (let new = new_at p p.rule refl named in absurd (no_difference m named' (frames (move_site new.requirement p) new.late new.sure.reached)))
  one_sure_fault (error.New p) (error.Old q) named named' =
      let new = new_at p p.rule refl named in
      absurd (new.other (ap (λ (site : MoveFaultSite). site.requirement) (one_sure_site before after (move_site new.requirement p) (move_site WayOnBefore q) new.sure named'.1)))
  one_sure_fault (error.New p) (error.New q) named named' =
      let new = new_at p p.rule refl named in
      let other = new_at q q.rule refl named' in
      let same = one_sure_site before after (move_site new.requirement p) (move_site other.requirement q) new.sure other.sure in
      let requirements : new.requirement ≡ other.requirement = ap (λ (site : MoveFaultSite). site.requirement) same in
      let S : Requirement → Type 0 = λ r. move_site r p ≡ move_site other.requirement q in
      ap error.New (one_fault p q other.requirement (one_rule p.rule q.rule other.requirement (new.asked ∙ ap Some requirements) other.asked) (subst S requirements same))
  one_sure_fault (error.Both p) f named named' = absurd named
  one_sure_fault error.OutOfMemory f named named' = absurd named
  one_sure_fault e (error.Both q) named named' = absurd named'
  one_sure_fault e error.OutOfMemory named named' = absurd named'

  -- the place from which on ranks are asked for along the rows of the plan after
  abbrev ranks_asked : MoveFaultSite
  ranks_asked = record { requirement = After C10; node = 0; entry = None; eid = None }

  no_fault_beside : (e : MoveError) (loop : MixedLoop) → NamesSureFault before after e → CanReach before after ranks_asked → ¬ IsFirstMixedLoop before after loop
  no_fault_beside (error.Differ n) loop named reached is = no_difference n named (frames ranks_asked (omega arith) reached)
  no_fault_beside (error.Old fault) loop named reached is =
      no_loop loop is (move_site WayOnBefore fault) (omega arith) named.1.reached
      (λ n entry eid. named.1.reached.1 (record { requirement = After C10; node = n; entry = entry; eid = eid }) (inl (omega arith)))
  no_fault_beside (error.New fault) loop named reached is = by fault.rule named
    where
      by : (rule : MoveRule) → IsSureFaultOf before after (required_after rule) fault → ⊥
      by M02 sure =
          no_loop loop is (move_site WayOnAfter fault) (omega arith) sure.reached
          (λ n entry eid. sure.reached.1 (record { requirement = After C10; node = n; entry = entry; eid = eid }) (inl (omega arith)))
      by M03 sure = sure
      by (OfPlan rule) sure = elim (cases_order (order_of rule) (order_of C10)) [
        | inl same ↦ (let S : Rule → Type 0 = λ r. IsSureFault before after (move_site (After r) fault) in no_sure_ranks fault (subst S (one_order rule C10 same) sure))
        | inr (inl less) ↦ sure.broken reached.0 (reached.1 (move_site (After rule) fault) (inr (refl, inl less)))
        | inr (inr more) ↦
            no_loop loop is (move_site (After rule) fault) (omega arith) sure.reached
            (λ n entry eid. sure.reached.1 (record { requirement = After C10; node = n; entry = entry; eid = eid }) (inr (refl, inl more)))
      ]
  no_fault_beside (error.Both fault) loop named reached is = named
  no_fault_beside error.OutOfMemory loop named reached is = named

  no_old_beside : (e : CertifyError) (f : MoveError) → DifferInRowsAlone before after → e ≢ alone.OutOfMemory → NamesObstacle before e → ¬ NamesSureFault before after f
  no_old_beside e (error.Differ n) same some named named' = no_difference n named' same
  no_old_beside e (error.Old fault) same some named named' = no_old e some named (move_site WayOnBefore fault) (omega arith) named'.1.reached
  no_old_beside e (error.New fault) same some named named' = (let new = new_at fault fault.rule refl named' in no_old e some named (move_site new.requirement fault) new.late new.sure.reached)
  no_old_beside e (error.Both fault) same some named named' = named'
  no_old_beside e error.OutOfMemory same some named named' = named'

  old_apart : CanReach before after ranks_asked → RowsAreApart before
  old_apart reached n r = (reached.1 (record { requirement = Before C05; node = n; entry = Some r; eid = None }) (inl (omega arith))).0

  new_apart : CanReach before after ranks_asked → RowsAreApart after
  new_apart reached n r = (reached.1 (record { requirement = After C05; node = n; entry = Some r; eid = None }) (inr (refl, inl (omega arith)))).0

  one_loop_named : (loop other : MixedLoop) → CanReach before after ranks_asked → IsFirstMixedLoop before after loop → IsFirstMixedLoop before after other → IsSameMoveObstacle (obstacle.Loop loop) (obstacle.Loop other)
  one_loop_named loop other reached is is' =
      let numbers : loop.eid.value ≡ other.eid.value = elim (cases_order loop.eid.value other.eid.value) [
        | inl same ↦ same
        | inr (inl less) ↦ absurd (is'.least loop.eid.value less is.picked.first is.picked.least.0)
        | inr (inr more) ↦ absurd (is.least other.eid.value more is'.picked.first is'.picked.least.0)
      ] in
      let e = loop.eid.value in
      let L : ℕ → Type 0 = λ d. IsMixedLoop (MovesTo before d) (MovesTo after d) other.nodes.items other.sides.items in
      let lists = one_mixed_loop (MovesTo before e) (MovesTo after e) (moves_only before e (old_apart reached)) (moves_only after e (new_apart reached)) loop.nodes.items other.nodes.items loop.sides.items other.sides.items is.picked (subst L (sym numbers) is'.picked) in
      (one_eid loop.eid other.eid numbers, lists.0, lists.1)

  pub one_move_obstacle : HasOneMoveObstacle before after
  one_move_obstacle (obstacle.Old e) (obstacle.Old f) named named' some some' = one_obstacle before e f named.2 named'.2 named.1 named'.1
  one_move_obstacle (obstacle.Old e) (obstacle.Fault f) named named' some some' = absurd (no_old_beside e f named.0 named.1 named.2 named')
  one_move_obstacle (obstacle.Old e) (obstacle.Loop loop) named named' some some' = absurd (no_old e named.1 named.2 ranks_asked (omega arith) named'.0)
  one_move_obstacle (obstacle.Fault e) (obstacle.Old f) named named' some some' = absurd (no_old_beside f e named'.0 named'.1 named'.2 named)
  one_move_obstacle (obstacle.Fault e) (obstacle.Fault f) named named' some some' = one_sure_fault e f named named'
  one_move_obstacle (obstacle.Fault e) (obstacle.Loop loop) named named' some some' = absurd (no_fault_beside e loop named named'.0 named'.1)
  one_move_obstacle (obstacle.Loop loop) (obstacle.Old f) named named' some some' = absurd (no_old f named'.1 named'.2 ranks_asked (omega arith) named.0)
  one_move_obstacle (obstacle.Loop loop) (obstacle.Fault f) named named' some some' = absurd (no_fault_beside f loop named' named.0 named.1)
  one_move_obstacle (obstacle.Loop loop) (obstacle.Loop other) named named' some some' = one_loop_named loop other named.0 named.1 named'.1
  one_move_obstacle obstacle.OutOfMemory p named named' some some' = absurd (some refl)
  one_move_obstacle o obstacle.OutOfMemory named named' some some' = absurd (some' refl)
