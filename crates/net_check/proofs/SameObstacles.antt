-- Why there is no certificate, and which one is exact, depends on the values of plans alone.
use Rattle.std.proofs.Common.{◌≡◌, ℕ, Option, Some, None, refl, sym, ap, arith, inl, inr}
use Rattle.plan_values.{specs.declared.plan.Plan.{Plan}, specs.declared.certificate.Certificate.{Certificate}, specs.PlanValues.{plan_value}}
use Rattle.net_tables.{specs.Routing.{MovesTo}, specs.Ownership.{IsOwnedBy, level_given}, specs.Repositories.{records_of, places_given}}
use Rattle.net_rules.{specs.declared.rule.Rule.TheVariants.{C07, C10}, specs.declared.certify_error.CertifyError.{CertifyError}, specs.declared.certifying.longest_ways.Longest.TheVariants.{Circled}, specs.declared.move_fault.MoveFault.{MoveFault}, specs.declared.move_error.MoveError.{MoveError}, specs.declared.move_obstacle.MoveObstacle.{MoveObstacle}, specs.Promises.{WayEnds}, specs.RoutingLoops.{IsRank}, specs.MoveRules.{Requirement, After, WayOnBefore}, specs.MoveFaults.{MoveFaultSite, required_after, move_site}, specs.MoveRanks.{MayMoveTo, WayEndsInBoth, IsMoveRank}, specs.Faults.{FaultSite, site_of}, specs.PlanFaults.{IsFirstPlanFault}, specs.Certificates.{IsExactBy, IsExact, CanBeMetBefore, NamesObstacle}, specs.MoveObstacles.{IsExactForMove, DifferInRowsAlone, CanReach, IsSureFault, IsSureFaultOf, NamesSureFault, NamesMoveObstacle}, proofs.SameMoves.{Leads-same, EndsAfter-same, HasNoCircle-same, IsLeastLoop-same, no_circle_either, IsLongestOrLoop-same}}
use Rattle.net_check.{specs.DependsOnValues.{DependsOnPlan, DependsOnPlans}, proofs.SameNodes.{many, records, held, owned, has_row, moved}, proofs.SameRecords.{are_places, have_places, bad_chain}, proofs.SameDemands.{plan_demands}, proofs.SameVerdicts.{same_frames, same_nodes, move_demands}}
use Rattle.net_rules.specs.declared.certify_error.CertifyError.TheVariants as alone
use Rattle.net_rules.specs.declared.move_error.MoveError.TheVariants as error
use Rattle.net_rules.specs.declared.move_obstacle.MoveObstacle.TheVariants as obstacle

-- ---- of one plan

module _ (plan other : Plan) (same : plan_value plan ≡ plan_value other) where
  can_alike : (order : ℕ) → CanBeMetBefore plan order → CanBeMetBefore other order
  can_alike order can = record {
    plan_meets = λ rule less n entry eid. plan_demands plan other same rule n entry eid (can.plan_meets rule less n entry eid);
    owners = λ less. HasNoCircle-same (IsOwnedBy plan) (IsOwnedBy other) (owned plan other same) (owned other plan (sym same)) (can.owners less);
    routes = λ less e. HasNoCircle-same (MovesTo plan e) (MovesTo other e) (moved plan other same e) (moved other plan (sym same) e) (can.routes less e);
    chains = λ less n. have_places (records_of plan n) (records_of other n) (records plan other same n) (can.chains less n);
  }

  plan_fault_alike : (site : FaultSite) → IsFirstPlanFault plan site → IsFirstPlanFault other site
  plan_fault_alike site fault = record {
    broken = λ met. fault.broken (plan_demands other plan (sym same) site.rule site.node site.entry site.eid met);
    first = λ before less. plan_demands plan other same before.rule before.node before.entry before.eid (fault.first before less);
  }

  pub obstacle_by : (e : CertifyError) → NamesObstacle plan e → NamesObstacle other e
  obstacle_by alone.OutOfMemory named = named
  obstacle_by (alone.Fault fault) (can, first) = (can_alike _ can, plan_fault_alike (site_of fault) first)
  obstacle_by (alone.OwnerLoop nodes) (can, meets, loop) = (
    can_alike _ can,
    λ n entry eid. plan_demands plan other same C07 n entry eid (meets n entry eid),
    IsLeastLoop-same (IsOwnedBy plan) (IsOwnedBy other) (owned plan other same) (owned other plan (sym same)) nodes.items loop,
  )
  obstacle_by (alone.Loop eid nodes) (can, loop) = (
    can_alike _ can,
    record {
      least = λ d less. HasNoCircle-same (MovesTo plan d) (MovesTo other d) (moved plan other same d) (moved other plan (sym same) d) (loop.least d less);
      picked = IsLeastLoop-same (MovesTo plan eid.value) (MovesTo other eid.value) (moved plan other same eid.value) (moved other plan (sym same) eid.value) nodes.items loop.picked;
    },
  )
  obstacle_by (alone.BadChain node kind entry) (can, bad, earlier) = (
    can_alike _ can,
    bad_chain (records_of plan node) (records_of other node) (records plan other same node) kind entry bad,
    λ n less. have_places (records_of plan n) (records_of other n) (records plan other same n) (earlier n less),
  )

  -- ---- certificates

  way_ends : (e n : ℕ) → WayEnds plan e n → WayEnds other e n
  way_ends e n (inl holds) = inl (held plan other same n e holds)
  way_ends e n (inr none) = inr (λ row. none (has_row other plan (sym same) n e row))

  rank_alike : (n e k : ℕ) → IsRank plan n e k → IsRank other n e k
  rank_alike n e k (m, way, ends) = (m, Leads-same (MovesTo plan e) (MovesTo other e) (moved plan other same e) n k m way, way_ends e m ends)

  -- with other numbers for ranks
  pub exact_by : (IsRankOf Other : ℕ → ℕ → ℕ → Type 0) → ((n e k : ℕ) → IsRankOf n e k → Other n e k) → (cert : Certificate) → IsExactBy plan IsRankOf cert → IsExactBy other Other cert
  exact_by IsRankOf Other to cert exact = record {
    levels = record {
      levels = λ n. EndsAfter-same (IsOwnedBy plan) (IsOwnedBy other) (owned plan other same) (owned other plan (sym same)) n (level_given cert.levels.items n) (exact.levels.levels n);
      some = exact.levels.some;
      within = λ i one is. omega (arith, exact.levels.within i one is, many plan other same);
      ascend = exact.levels.ascend;
    };
    places = record {
      places = λ n. are_places (records_of plan n) (records_of other n) (records plan other same n) (places_given cert.places.items n) (exact.places.places n);
      some = exact.places.some;
      within = λ i one is. omega (arith, exact.places.within i one is, many plan other same);
      ascend = exact.places.ascend;
    };
    ranks = record {
      ranks = λ n e. to n e _ (exact.ranks.ranks n e);
      longest = exact.ranks.longest;
      some = exact.ranks.some;
      within = λ i one is. omega (arith, exact.ranks.within i one is, many plan other same);
      ascend = exact.ranks.ascend;
    };
  }

pub obstacle_alike : (e : CertifyError) → DependsOnPlan (λ plan. NamesObstacle plan e)
obstacle_alike e plan other same named = obstacle_by plan other same e named

pub exact_alike : (cert : Certificate) → DependsOnPlan (λ plan. IsExact plan cert)
exact_alike cert plan other same exact = exact_by plan other same (IsRank plan) (IsRank other) (rank_alike plan other same) cert exact

-- ---- of a move

module _ (before before' after after' : Plan) (old : plan_value before ≡ plan_value before') (new : plan_value after ≡ plan_value after') where
  may_move : (e n m : ℕ) → MayMoveTo before after e n m → MayMoveTo before' after' e n m
  may_move e n m (inl move) = inl (moved before before' old e n m move)
  may_move e n m (inr move) = inr (moved after after' new e n m move)

  way_ends_in_both : (e n : ℕ) → WayEndsInBoth before after e n → WayEndsInBoth before' after' e n
  way_ends_in_both e n (inl holds) = inl (held before before' old n e holds)
  way_ends_in_both e n (inr none) = inr (λ has. elim has [
    | inl row ↦ none (inl (has_row before' before (sym old) n e row))
    | inr row ↦ none (inr (has_row after' after (sym new) n e row))
  ])

  reach_alike : (site : MoveFaultSite) → CanReach before after site → CanReach before' after' site
  reach_alike site (cert, met) =
      (cert, λ other less. move_demands before before' after after' old new cert cert refl other.requirement other.node other.entry other.eid (met other less))

  frames_alike : DifferInRowsAlone before after → DifferInRowsAlone before' after'
  frames_alike (frame, each) = (same_frames before before' after after' old new frame, λ n. same_nodes before before' after after' old new n (each n))

module _ (before before' after after' : Plan) (old : plan_value before ≡ plan_value before') (new : plan_value after ≡ plan_value after') where
  move_rank_alike : (n e k : ℕ) → IsMoveRank before after n e k → IsMoveRank before' after' n e k
  move_rank_alike n e k is = record {
    way = (
      is.way.0,
      Leads-same (MayMoveTo before after e) (MayMoveTo before' after' e) (may_move before before' after after' old new e) n k is.way.0 is.way.1,
      way_ends_in_both before before' after after' old new e is.way.0 is.way.2,
    );
    longest = λ l m way ends.
        is.longest l m (Leads-same (MayMoveTo before' after' e) (MayMoveTo before after e) (may_move before' before after' after (sym old) (sym new) e) n l m way)
        (way_ends_in_both before' before after' after (sym old) (sym new) e m ends);
  }

  sure_alike : (site : MoveFaultSite) → IsSureFault before after site → IsSureFault before' after' site
  sure_alike site sure = record {
    broken = λ cert met. sure.broken cert (move_demands before' before after' after (sym old) (sym new) cert cert refl site.requirement site.node site.entry site.eid met);
    reached = reach_alike before before' after after' old new site sure.reached;
  }

  sure_of_alike : (requirement : Option Requirement) (fault : MoveFault) → IsSureFaultOf before after requirement fault → IsSureFaultOf before' after' requirement fault
  sure_of_alike None fault sure = sure
  sure_of_alike (Some requirement) fault sure = sure_alike (move_site requirement fault) sure

  named_alike : (e : MoveError) → NamesSureFault before after e → NamesSureFault before' after' e
  named_alike (error.Differ None) named = λ frame. named (same_frames before' before after' after (sym old) (sym new) frame)
  named_alike (error.Differ (Some n)) (frame, differs, earlier) = (
    same_frames before before' after after' old new frame,
    λ node. differs (same_nodes before' before after' after (sym old) (sym new) n node),
    λ m less. same_nodes before before' after after' old new m (earlier m less),
  )
  named_alike (error.Old fault) (rule, sure) = (rule, sure_alike (move_site WayOnBefore fault) sure)
  named_alike (error.New fault) named = sure_of_alike (required_after fault.rule) fault named
  named_alike (error.Both fault) named = named
  named_alike error.OutOfMemory named = named

  pub move_obstacle_by : (o : MoveObstacle) → NamesMoveObstacle before after o → NamesMoveObstacle before' after' o
  move_obstacle_by obstacle.OutOfMemory named = named
  move_obstacle_by (obstacle.Old e) (frames, some, named) = (frames_alike before before' after after' old new frames, some, obstacle_by before before' old e named)
  move_obstacle_by (obstacle.Fault e) named = named_alike e named
  move_obstacle_by (obstacle.Loop loop) (reached, is) = (
    reach_alike before before' after after' old new (record { requirement = After C10; node = 0; entry = None; eid = None }) reached,
    record {
      least = λ d less.
          no_circle_either (MovesTo before d) (MovesTo after d) (MovesTo before' d) (MovesTo after' d) (moved before before' old d) (moved before' before (sym old) d) (moved after after' new d) (moved after' after (sym new) d)
          (is.least d less);
      picked =
          let e = loop.eid.value in
          IsLongestOrLoop-same (MovesTo before e) (MovesTo after e) (MovesTo before' e) (MovesTo after' e) (moved before before' old e) (moved before' before (sym old) e) (moved after after' new e) (moved after' after (sym new) e) 0
          (Circled loop.nodes loop.sides) is.picked;
    },
  )

pub move_obstacle_alike : (o : MoveObstacle) → DependsOnPlans (λ before after. NamesMoveObstacle before after o)
move_obstacle_alike o before before' after after' old new named = move_obstacle_by before before' after after' old new o named

pub exact_for_move_alike : (cert : Certificate) → DependsOnPlans (λ before after. IsExactForMove before after cert)
exact_for_move_alike cert before before' after after' old new exact =
    exact_by before before' old (IsMoveRank before after) (IsMoveRank before' after') (move_rank_alike before before' after after' old new) cert exact
