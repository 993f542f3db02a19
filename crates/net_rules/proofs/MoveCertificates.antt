-- The certificate of a move: what it meets, and what rules each certificate out.
use Rattle.std.{proofs.Common.{◌≡◌, ◌≢◌, ℕ, ◌<◌, length, Option, Some, None, refl, sym, ap, subst, arith, inl, inr, [], ◌∷◌, zero, suc}, specs.Prelude.{slice_get}, proofs.lemmas.Bool.{cases_eq}}
use Rattle.net_rules.{specs.declared.rule.Rule.{Rule}, specs.declared.rule.Rule.TheVariants.{C01, C02, C03, C04, C05, C06, C07, C08, C09, C10, C11, C12, C13, C14, C15, C16}, specs.declared.fault.Fault.{Fault}, specs.declared.move_fault.MoveRule.{MoveRule}, specs.declared.move_fault.MoveRule.TheVariants.{OfPlan, M02, M03}, specs.declared.move_fault.MoveFault.{MoveFault}, specs.declared.move_error.MoveError.{MoveError}, specs.declared.certify_error.CertifyError.{CertifyError}, specs.declared.move_obstacle.MoveObstacle.{MoveObstacle}, specs.Superfluous.{NeedsItsRank}, specs.Rules.{AtRowEid, Accepts}, specs.Faults.{order_of, order_of_number, LessByFirstDifference}, specs.PlanFaults.{PlanMeetsAll}, specs.MoveSearch.{IsFirstByRules}, specs.MoveRules.{Requirement, SameFrame, SameNode, Before, After, WayOnBefore, WayOnAfter, Given, DemandsBefore, DemandsAfter, MoveDemands, AcceptsMove}, specs.MoveFaults.{MoveFaultSite, MoveComesBefore, IsMoveMet, IsFirstFaultOf, NamesFirstMoveFault, order_of_requirement, order_of_its_rule, required_before, required_after, required_of_both}, specs.Certificates.{AreExactLevels, AreExactPlaces, AreRanksOf, IsExact}, specs.MoveRanks.{MayMoveTo, IsMoveRank}, specs.MoveObstacles.{IsExactForMove, DifferInRowsAlone, RowsMeetBefore, IsSureFaultOf, NamesDifference, NamesSureFault, NamesMoveObstacle, RulesOutMoveCertificates, NamesMixedLoop, obstacle_of_error, obstacle_of_old}, proofs.Circling.{no_circle_down}, proofs.RuleOrder.{one_order}, proofs.Ends.{falls_by_rule}, proofs.ExactCertificates.{demands_met, needs_given}, proofs.MoveOrder.{MeetsBelow, frames_hold, old_holds, new_breaks, nothing_before}, proofs.MoveRankLaws.{move_rank_falls}, proofs.Obstacles.{before_of, ruled_out_before}, proofs.SameHolders.{hold_the_same}}
use Rattle.plan_values.{specs.declared.plan.Plan.{Plan}, specs.declared.nodes.Row.{Row}, specs.declared.certificate.Certificate.{Certificate}}
use Rattle.net_tables.{specs.Routing.{Holds, Covers, rows_of, eid_number}, specs.TwoPlans.{moving, HasRowEver}, specs.Ranks.{rank, Falls}, specs.Rows.{RowsAreApart, RowsAreInRange}}
use Rattle.net_rules.specs.declared.move_error.MoveError.TheVariants as error
use Rattle.net_rules.specs.declared.certify_error.CertifyError.TheVariants as alone
use Rattle.net_rules.specs.declared.move_obstacle.MoveObstacle.TheVariants as obstacle

-- what is demanded of rows is demanded whatever the certificate, but for ranks
after_whatever : (plan : Plan) (cert other : Certificate) (rule : Rule) (n : ℕ) (entry eid : Option ℕ) → rule ≢ C10 → DemandsAfter plan cert rule n entry eid → DemandsAfter plan other rule n entry eid
after_whatever plan cert other C01 n entry eid differ met = tt
after_whatever plan cert other C02 n entry eid differ met = tt
after_whatever plan cert other C03 n entry eid differ met = tt
after_whatever plan cert other C04 n entry eid differ met = met
after_whatever plan cert other C05 n entry eid differ met = met
after_whatever plan cert other C06 n entry eid differ met = met
after_whatever plan cert other C07 n entry eid differ met = tt
after_whatever plan cert other C08 n entry eid differ met = tt
after_whatever plan cert other C09 n entry eid differ met = tt
after_whatever plan cert other C10 n entry eid differ met = absurd (differ refl)
after_whatever plan cert other C11 n entry eid differ met = met
after_whatever plan cert other C12 n entry eid differ met = tt
after_whatever plan cert other C13 n entry eid differ met = tt
after_whatever plan cert other C14 n entry eid differ met = tt
after_whatever plan cert other C15 n entry eid differ met = tt
after_whatever plan cert other C16 n entry eid differ met = tt

at_row_eid : (plan : Plan) (n : ℕ) (P : Row → ℕ → Type 0) → ((r e : ℕ) (row : Row) → slice_get (rows_of plan n) r ≡ Some row → Covers row e → P row e) → (entry eid : Option ℕ) → AtRowEid plan n P entry eid
at_row_eid plan n P each None eid = tt
at_row_eid plan n P each (Some r) None = tt
at_row_eid plan n P each (Some r) (Some e) = λ row is covers. each r e row is covers

pub plan_meets : (plan : Plan) (cert : Certificate) → Accepts plan cert → PlanMeetsAll plan
plan_meets plan cert accepted rule n entry eid = (accepted rule n entry eid).0

pub rows_lie_apart : (after : Plan) (made : Certificate) → RowsMeetBefore after made (order_of C10) → RowsAreApart after
rows_lie_apart after made rows n r = (rows C05 n (Some r) None (omega arith)).0

pub rows_lie_in_range : (after : Plan) (made : Certificate) → RowsMeetBefore after made (order_of C10) → RowsAreInRange after
rows_lie_in_range after made rows n r = (rows C04 n (Some r) None (omega arith)).0

pub plan_rows_apart : (plan : Plan) (cert : Certificate) → Accepts plan cert → RowsAreApart plan
plan_rows_apart plan cert accepted n r = (accepted C05 n (Some r) None).0

pub plan_rows_in_range : (plan : Plan) (cert : Certificate) → Accepts plan cert → RowsAreInRange plan
plan_rows_in_range plan cert accepted n r = (accepted C04 n (Some r) None).0

order_of_rule : MoveRule → ℕ
order_of_rule (OfPlan rule) = order_of rule
order_of_rule M02 = 0
order_of_rule M03 = 0

-- what becomes an obstacle of a move
pub old_is : (e : CertifyError) → e ≢ alone.OutOfMemory → obstacle_of_old e ≡ obstacle.Old e
old_is (alone.Fault fault) some = refl
old_is (alone.OwnerLoop nodes) some = refl
old_is (alone.Loop eid nodes) some = refl
old_is (alone.BadChain node kind entry) some = refl
old_is alone.OutOfMemory some = absurd (some refl)

pub fault_is : (e : MoveError) → e ≢ error.OutOfMemory → obstacle_of_error e ≡ obstacle.Fault e
fault_is (error.Differ n) some = refl
fault_is (error.Old fault) some = refl
fault_is (error.New fault) some = refl
fault_is (error.Both fault) some = refl
fault_is error.OutOfMemory some = absurd (some refl)

pub difference_named : (before after : Plan) (e : MoveError) → NamesDifference before after e → NamesMoveObstacle before after (obstacle_of_error e)
difference_named before after (error.Differ n) differs = differs
difference_named before after (error.Old fault) differs = absurd differs
difference_named before after (error.New fault) differs = absurd differs
difference_named before after (error.Both fault) differs = absurd differs
difference_named before after error.OutOfMemory differs = absurd differs

-- levels and places of the old plan, and ranks of the move
pub with_ranks : (before after : Plan) (old made : Certificate) → IsExact before old → made.levels ≡ old.levels → made.places ≡ old.places
    → AreRanksOf (IsMoveRank before after) (length before.nodes.items) made.ranks.items → IsExactForMove before after made
with_ranks before after old made exact levels places ranks = record {
  levels = (let P : _ → Type 0 = λ given. AreExactLevels before given.items in subst P (sym levels) exact.levels);
  places = (let P : _ → Type 0 = λ given. AreExactPlaces before given.items in subst P (sym places) exact.places);
  ranks = ranks;
}

module _ (before after : Plan) where
  -- ---- faults that are there whatever the certificate

  sure_after : (cert : Certificate) (fault : MoveFault) (rule : MoveRule) → rule ≢ OfPlan C10 → IsFirstFaultOf before after cert (required_after rule) fault → IsSureFaultOf before after (required_after rule) fault
  sure_after cert fault (OfPlan rule) differ first = record {
    broken = λ other met. first.broken (after_whatever after other cert rule fault.node fault.entry (eid_number fault.eid) (λ same. differ (ap OfPlan same)) met);
    reached = (cert, first.first);
  }
  sure_after cert fault M02 differ first = record { broken = λ other met. first.broken met; reached = (cert, first.first) }
  sure_after cert fault M03 differ first = absurd first

  -- a certificate meets what none can fail to meet
  module _ (cert : Certificate) (frames : DifferInRowsAlone before after) (olds : (rule : Rule) (n : ℕ) (entry eid : Option ℕ) → DemandsBefore before cert rule n entry eid)
      (fall : (n : ℕ) (entry eid : Option ℕ) → DemandsAfter after cert C10 n entry eid) (needed : (n : ℕ) (entry eid : Option ℕ) → MoveDemands before after cert Given n entry eid) where
    sure_old : (fault : MoveFault) (rule : MoveRule) → fault.rule ≡ rule → IsFirstFaultOf before after cert (required_before rule) fault → NamesSureFault before after (error.Old fault)
    sure_old fault (OfPlan rule) same first = absurd (first.broken (olds rule fault.node fault.entry (eid_number fault.eid)))
    sure_old fault M02 same first = (same, record { broken = λ other met. first.broken met; reached = (cert, first.first) })
    sure_old fault M03 same first = absurd first

    sure_new : (fault : MoveFault) (rule : MoveRule) → IsFirstFaultOf before after cert (required_after rule) fault → IsSureFaultOf before after (required_after rule) fault
    unfolding order_of_rule
    sure_new fault M02 first = sure_after cert fault M02 (λ same. let clash : M02 ≡ OfPlan C10 = same in cc) first
    sure_new fault M03 first = absurd first
    sure_new fault (OfPlan rule) first = elim (cases_eq (order_of rule) (order_of C10)) [
      | inr other ↦ sure_after cert fault (OfPlan rule) (λ same. other (ap order_of_rule same)) first
      | inl here ↦ absurd (first.broken (
          let P : Rule → Type 0 = λ r. DemandsAfter after cert r fault.node fault.entry (eid_number fault.eid) in
          subst P (sym (one_order rule C10 here)) (fall fault.node fault.entry (eid_number fault.eid))))
    ]

    no_both : (fault : MoveFault) (rule : MoveRule) → IsFirstFaultOf before after cert (required_of_both rule) fault → ⊥
    no_both fault (OfPlan rule) first = first
    no_both fault M02 first = first
    no_both fault M03 first = first.broken (needed fault.node fault.entry (eid_number fault.eid))

    pub judged : (e : MoveError) → NamesFirstMoveFault before after cert e → NamesMoveObstacle before after (obstacle_of_error e)
    judged (error.Differ None) first = absurd (first.broken frames.0)
    judged (error.Differ (Some n)) first = absurd (first.broken (frames.1 n))
    judged (error.Old fault) first = sure_old fault fault.rule refl first
    judged (error.New fault) first = sure_new fault fault.rule first
    judged (error.Both fault) first = absurd (no_both fault fault.rule first)
    judged error.OutOfMemory first = tt

  -- ---- what the old plan's certificate meets

  module _ (frames : DifferInRowsAlone before after) (cert : Certificate) (accepted : Accepts before cert) where
    meets_before_rows : MeetsBelow before after cert 3
    meets_before_rows =
        old_holds before after cert (frames_hold before after cert frames)
        (λ rule n entry eid. before_of before cert rule n entry eid (λ differ. accepted rule n entry eid))

    -- the first fault of the new plan's rows, if it comes before ranks
    pub row_fault_named : (named : MoveFault) (fault : Fault) → named ≡ record { rule = OfPlan fault.rule; node = fault.node; entry = fault.entry; eid = fault.eid } → order_of fault.rule < order_of C10
        → IsFirstByRules (DemandsAfter after cert) (Some fault) → NamesMoveObstacle before after (obstacle.Fault (error.New named))
    unfolding order_of_rule
    row_fault_named named fault is early found =
        sure_after cert named named.rule (λ same. omega (arith, early, ap order_of_rule same, ap (λ (m : MoveFault). order_of_rule m.rule) is))
        (new_breaks before after cert named fault is meets_before_rows found)

    -- and otherwise what is asked before ranks is met
    met_before_ranks : RowsMeetBefore after cert (order_of C10) → (other : MoveFaultSite) → MoveComesBefore other (record { requirement = After C10; node = 0; entry = None; eid = None }) → IsMoveMet before after cert other
    met_before_ranks rows other earlier = elim earlier [
      | inl less ↦ meets_before_rows other.requirement less other.node other.entry other.eid
      | inr (same, rest) ↦ by other.requirement same other.node other.entry other.eid rest
    ]
      where
        by : (r : Requirement) → order_of_requirement r ≡ 3 → (n : ℕ) (entry eid : Option ℕ)
            → LessByFirstDifference (order_of_its_rule r ∷ n ∷ order_of_number entry ∷ order_of_number eid ∷ []) (order_of C10 ∷ 0 ∷ 0 ∷ 0 ∷ []) → MoveDemands before after cert r n entry eid
        by SameFrame same n entry eid rest = absurd (omega (arith, same))
        by SameNode same n entry eid rest = absurd (omega (arith, same))
        by (Before rule) same n entry eid rest = absurd (omega (arith, same))
        by (After rule) same n entry eid rest = elim rest [
          | inl less ↦ rows rule n entry eid less
          | inr (_, last) ↦ absurd (nothing_before n (order_of_number entry) (order_of_number eid) last)
        ]
        by WayOnBefore same n entry eid rest = absurd (omega (arith, same))
        by WayOnAfter same n entry eid rest = absurd (omega (arith, same))
        by Given same n entry eid rest = absurd (omega (arith, same))

    pub mixed_loop_named : (o : MoveObstacle) → RowsMeetBefore after cert (order_of C10) → NamesMixedLoop before after o → NamesMoveObstacle before after o
    mixed_loop_named obstacle.OutOfMemory rows named = named
    mixed_loop_named (obstacle.Old e) rows named = absurd named
    mixed_loop_named (obstacle.Fault e) rows named = absurd named
    mixed_loop_named (obstacle.Loop loop) rows named = ((cert, met_before_ranks rows), named)

    -- ---- what the move's certificate meets

    module _ (made : Certificate) (exact : IsExactForMove before after made) where
      falls_before : (n r e : ℕ) (row : Row) → slice_get (rows_of before n) r ≡ Some row → Covers row e → Falls before made n row e
      unfolding Falls
      falls_before n r e row is covers = λ away.
          move_rank_falls before after e n row.next (rank made n e) (rank made row.next e) (inl (away, (r, row, is, covers, refl))) (exact.ranks.ranks n e) (exact.ranks.ranks row.next e)

      falls_after : (n r e : ℕ) (row : Row) → slice_get (rows_of after n) r ≡ Some row → Covers row e → Falls after made n row e
      unfolding Falls
      falls_after n r e row is covers = λ away.
          move_rank_falls before after e n row.next (rank made n e) (rank made row.next e) (inr (away, (r, row, is, covers, refl))) (exact.ranks.ranks n e) (exact.ranks.ranks row.next e)

      needs_move_rank : (n e : ℕ) → NeedsItsRank (moving before after) made n e
      unfolding NeedsItsRank
      needs_move_rank n e within low some = by (rank made n e) refl (exact.ranks.ranks n e)
        where
          first_move : (p : ℕ) → MayMoveTo before after e n p → ¬ Holds before n e × HasRowEver (moving before after) n e
          first_move p (inl move) = (move.0, inl (p, move.1))
          first_move p (inr move) = (λ holds. move.0 ((hold_the_same before after frames.1 n e).0 holds), inr (p, move.1))

          by : (k : ℕ) → rank made n e ≡ k → IsMoveRank before after n e k → ¬ Holds before n e × HasRowEver (moving before after) n e
          by zero none is = absurd (some none)
          by (suc k) is its = (let way = its.way.1 in first_move way.0 way.1)

      pub old_met : (rule : Rule) (n : ℕ) (entry eid : Option ℕ) → DemandsBefore before made rule n entry eid
      old_met rule n entry eid = before_of before made rule n entry eid (λ differ.
          ((accepted rule n entry eid).0, demands_met before made exact.levels exact.places falls_before rule (λ same. absurd (differ same)) n entry eid))

      pub new_falls : (n : ℕ) (entry eid : Option ℕ) → DemandsAfter after made C10 n entry eid
      new_falls n entry eid = (tt, at_row_eid after n (Falls after made n) (falls_after n) entry eid)

      pub needed_met : (n : ℕ) (entry eid : Option ℕ) → MoveDemands before after made Given n entry eid
      needed_met n None None = needs_given before made exact.levels exact.places n
      needed_met n None (Some e) = needs_move_rank n e
      needed_met n (Some r) eid = tt

      pub fault_judged : (e : MoveError) → NamesFirstMoveFault before after made e → NamesMoveObstacle before after (obstacle_of_error e)
      fault_judged e first = judged made frames old_met new_falls needed_met e first

  -- ---- what is named leaves no certificate

  rules_out_fault : (e : MoveError) → NamesSureFault before after e → (cert : Certificate) → AcceptsMove before after cert → ⊥
  rules_out_fault (error.Differ None) named cert accepted = named (accepted SameFrame 0 None None)
  rules_out_fault (error.Differ (Some n)) named cert accepted = named.1 (accepted SameNode n None None)
  rules_out_fault (error.Old fault) named cert accepted = named.1.broken cert (accepted WayOnBefore fault.node fault.entry (eid_number fault.eid))
  rules_out_fault (error.New fault) named cert accepted = by fault.rule named
    where
      by : (rule : MoveRule) → IsSureFaultOf before after (required_after rule) fault → ⊥
      by (OfPlan rule) sure = sure.broken cert (accepted (After rule) fault.node fault.entry (eid_number fault.eid))
      by M02 sure = sure.broken cert (accepted WayOnAfter fault.node fault.entry (eid_number fault.eid))
      by M03 sure = sure
  rules_out_fault (error.Both fault) named cert accepted = named
  rules_out_fault error.OutOfMemory named cert accepted = named

  accepted_falls : (cert : Certificate) → AcceptsMove before after cert → (e n m : ℕ) → MayMoveTo before after e n m → rank cert m e < rank cert n e
  accepted_falls cert accepted e n m (inl move) = falls_by_rule before cert (accepted (Before C10)) e n m move
  accepted_falls cert accepted e n m (inr move) = falls_by_rule after cert (accepted (After C10)) e n m move

  pub ruled_out_move : (o : MoveObstacle) → NamesMoveObstacle before after o → RulesOutMoveCertificates before after o
  ruled_out_move obstacle.OutOfMemory named = λ some. absurd (some refl)
  ruled_out_move (obstacle.Old e) named = λ some cert accepted. ruled_out_before before e named.1 named.2 cert (λ rule n entry eid. accepted (Before rule) n entry eid)
  ruled_out_move (obstacle.Fault e) named = λ some cert accepted. rules_out_fault e named cert accepted
  ruled_out_move (obstacle.Loop loop) named = λ some cert accepted.
      (let e = loop.eid.value in
      no_circle_down (MayMoveTo before after e) (λ n. rank cert n e) (accepted_falls cert accepted e) named.1.picked.first named.1.picked.least.0)
