-- What is made of a certificate on the way, and what rules certificates out.
use Rattle.std.{proofs.Common.{◌≡◌, ◌≢◌, ℕ, ◌+◌, ◌<◌, Option, Some, None, refl, sym, ◌∙◌, ap, subst, arith, inl, inr, Result, Ok, Err}, specs.Prelude.{IfErr}, proofs.lemmas.Bool.{cases_lt}}
use Rattle.net_rules.{specs.declared.certify_error.CertifyError.{CertifyError}, specs.declared.fault.Fault.{Fault}, specs.declared.rule.Rule.{Rule}, specs.declared.rule.Rule.TheVariants.{C01, C02, C03, C04, C05, C06, C07, C08, C09, C10, C11, C12, C13, C14, C15, C16}, specs.RecordChains.{HaveNewHandles}, specs.Faults.{FaultSite, site_of, order_of, ComesBefore}, specs.Rules.{PlanDemands, Demands}, specs.MoveRules.{DemandsBefore}, specs.PlanFaults.{PlanMeets, IsMetByPlan, IsFirstOfPlanRule}, specs.Certificates.{AreExactLevels, AreExactPlaces, AreExactRanks, IsMadeBefore, CanBeMetBefore, NamesOwnerLoop, NamesRoutingLoop, NamesBadChain, NamesObstacle, RulesOutCertificates}, proofs.RuleOrder.{one_order, below_more}, proofs.Circling.{circle_never_ends}, proofs.EidMoves.{moves_only, ends_from_rank}, proofs.LevelLaws.{one_owner, first_loop_breaks_levels}, proofs.ChainLaws.{bad_chain_breaks_places}, proofs.CertificateLaws.{loop_breaks_ranks}}
use Rattle.plan_values.{specs.declared.plan.Plan.{Plan}, specs.declared.certificate.Certificate.{Certificate}}
use Rattle.net_tables.{specs.Routing.{MovesTo}, specs.Ownership.{IsOwnedBy}, specs.Repositories.{records_of, places_given, places_of, HasRecords}, specs.Rows.{RowsAreApart, RowsAreInRange}}
use Rattle.net_rules.specs.declared.certify_error.CertifyError.TheVariants as error

-- ---- what is made on the way

-- the next part is made, or none is to be
pub more_levels : (plan : Plan) (made new : Certificate) → IsMadeBefore plan (order_of C07) made → PlanMeets plan C07 → AreExactLevels plan new.levels.items → IsMadeBefore plan (order_of C07 + 1) new
more_levels plan made new is met levels = record {
  meets = below_more (PlanMeets plan) C07 is.meets met;
  levels = λ lt. levels;
  ranks = λ lt. absurd (omega arith);
  places = λ lt. absurd (omega arith);
}

pub more_ranks : (plan : Plan) (made new : Certificate) → IsMadeBefore plan (order_of C10) made → PlanMeets plan C10 → new.levels ≡ made.levels → AreExactRanks plan new.ranks.items → IsMadeBefore plan (order_of C10 + 1) new
more_ranks plan made new is met same ranks = record {
  meets = below_more (PlanMeets plan) C10 is.meets met;
  levels = λ lt. (let P : _ → Type 0 = λ given. AreExactLevels plan given.items in subst P (sym same) (is.levels (omega arith)));
  ranks = λ lt. ranks;
  places = λ lt. absurd (omega arith);
}

pub more_places : (plan : Plan) (made new : Certificate) → IsMadeBefore plan (order_of C14) made → PlanMeets plan C14 → new.levels ≡ made.levels → new.ranks ≡ made.ranks → AreExactPlaces plan new.places.items → IsMadeBefore plan (order_of C14 + 1) new
more_places plan made new is met same same' places = record {
  meets = below_more (PlanMeets plan) C14 is.meets met;
  levels = λ lt. (let P : _ → Type 0 = λ given. AreExactLevels plan given.items in subst P (sym same) (is.levels (omega arith)));
  ranks = λ lt. (let P : _ → Type 0 = λ given. AreExactRanks plan given.items in subst P (sym same') (is.ranks (omega arith)));
  places = λ lt. places;
}

-- an order that is not that of another rule
elsewhere : (rule part : Rule) → rule ≢ part → order_of part < order_of rule + 1 → order_of part < order_of rule
elsewhere rule part differ less = elim (cases_lt (order_of part) (order_of rule)) [
  | inl earlier ↦ earlier
  | inr here ↦ absurd (differ (one_order rule part (omega (arith, less, here))))
]

pub more_alone : (plan : Plan) (rule : Rule) (made : Certificate) → IsMadeBefore plan (order_of rule) made → PlanMeets plan rule → rule ≢ C07 → rule ≢ C10 → rule ≢ C14 → IsMadeBefore plan (order_of rule + 1) made
more_alone plan rule made is met no_levels no_ranks no_places = record {
  meets = below_more (PlanMeets plan) rule is.meets met;
  levels = λ lt. is.levels (elsewhere rule C07 no_levels lt);
  ranks = λ lt. is.ranks (elsewhere rule C10 no_ranks lt);
  places = λ lt. is.places (elsewhere rule C14 no_places lt);
}

-- nothing is made before the first rule
pub none_made : (plan : Plan) (made : Certificate) → IsMadeBefore plan 0 made
none_made plan made = record {
  meets = λ rule lt. absurd (omega arith);
  levels = λ lt. absurd (omega arith);
  ranks = λ lt. absurd (omega arith);
  places = λ lt. absurd (omega arith);
}

-- what the parts need of the rules before them
pub made_apart : (plan : Plan) (made : Certificate) → IsMadeBefore plan (order_of C10) made → RowsAreApart plan
made_apart plan made is n r = is.meets C05 (omega arith) n (Some r) None

pub made_in_range : (plan : Plan) (made : Certificate) → IsMadeBefore plan (order_of C10) made → RowsAreInRange plan
made_in_range plan made is n r = is.meets C04 (omega arith) n (Some r) None

pub made_handles : (plan : Plan) (made : Certificate) → IsMadeBefore plan (order_of C14) made → (n : ℕ) → HaveNewHandles (records_of plan n)
made_handles plan made is n j r at = is.meets C12 (omega arith) n (Some j) None r at

pub made_records : (plan : Plan) (made : Certificate) → IsMadeBefore plan (order_of C14) made → (n : ℕ) → HasRecords plan n
made_records plan made is n = is.meets C12 (omega arith) n None None

-- the parts that are made leave no circle
pub made_can : (plan : Plan) (order : ℕ) (made : Certificate) → IsMadeBefore plan order made → CanBeMetBefore plan order
made_can plan order made is = record {
  plan_meets = is.meets;
  owners = λ lt n circle. (let level = (is.levels lt).levels n in circle_never_ends (IsOwnedBy plan) (one_owner plan) n _ level.0 circle level.1 level.2);
  routes = λ lt e n circle.
      let apart : RowsAreApart plan = λ m r. is.meets C05 (omega arith) m (Some r) None in
      let ends = ends_from_rank plan n e _ ((is.ranks lt).ranks n e) in
      circle_never_ends (MovesTo plan e) (moves_only plan e apart) n _ ends.0 circle ends.1 ends.2;
  chains = λ lt n. (places_given made.places.items n, (is.places lt).places n);
}

-- ---- what the errors name

pub fault_named : (plan : Plan) (rule : Rule) (made : Certificate) (fault : Fault) → IsMadeBefore plan (order_of rule) made → IsFirstOfPlanRule plan rule (Some fault) → NamesObstacle plan (error.Fault fault)
fault_named plan rule made fault is (here, broken, first) =
    let C : Rule → Type 0 = λ r. CanBeMetBefore plan (order_of r) in
    (subst C (sym here) (made_can plan (order_of rule) made is), record { broken = broken; first = λ other before. earlier other before })
  where
    earlier : (other : FaultSite) → ComesBefore other (site_of fault) → IsMetByPlan plan other
    earlier other before = elim before [
      | inl less ↦ is.meets other.rule (let at = ap order_of here in omega (arith, less, at)) other.node other.entry other.eid
      | inr (same, rest) ↦ first other (one_order other.rule fault.rule same ∙ here) (inr (same, rest))
    ]

pub owner_loop_named : (plan : Plan) (made : Certificate) (e : CertifyError) → IsMadeBefore plan (order_of C07) made → PlanMeets plan C07 → NamesOwnerLoop plan e → NamesObstacle plan e
owner_loop_named plan made error.OutOfMemory is met named = named
owner_loop_named plan made (error.Fault fault) is met named = absurd named
owner_loop_named plan made (error.OwnerLoop nodes) is met named = (made_can plan (order_of C07) made is, met, named)
owner_loop_named plan made (error.Loop eid nodes) is met named = absurd named
owner_loop_named plan made (error.BadChain node kind entry) is met named = absurd named

pub routing_loop_named : (plan : Plan) (made : Certificate) (e : CertifyError) → IsMadeBefore plan (order_of C10) made → NamesRoutingLoop plan e → NamesObstacle plan e
routing_loop_named plan made error.OutOfMemory is named = named
routing_loop_named plan made (error.Fault fault) is named = absurd named
routing_loop_named plan made (error.OwnerLoop nodes) is named = absurd named
routing_loop_named plan made (error.Loop eid nodes) is named = (made_can plan (order_of C10) made is, named)
routing_loop_named plan made (error.BadChain node kind entry) is named = absurd named

pub bad_chain_named : (plan : Plan) (made : Certificate) (e : CertifyError) → IsMadeBefore plan (order_of C14) made → NamesBadChain plan e → NamesObstacle plan e
bad_chain_named plan made error.OutOfMemory is named = named
bad_chain_named plan made (error.Fault fault) is named = absurd named
bad_chain_named plan made (error.OwnerLoop nodes) is named = absurd named
bad_chain_named plan made (error.Loop eid nodes) is named = absurd named
bad_chain_named plan made (error.BadChain node kind entry) is named = (made_can plan (order_of C14) made is, named.0, named.1)

-- what is demanded of a plan before a move is all but the last rule
pub before_of : (plan : Plan) (cert : Certificate) (rule : Rule) (n : ℕ) (entry eid : Option ℕ) → (rule ≢ C16 → Demands plan cert rule n entry eid) → DemandsBefore plan cert rule n entry eid
before_of plan cert C01 n entry eid met = met (λ same. let clash : C01 ≡ C16 = same in cc)
before_of plan cert C02 n entry eid met = met (λ same. let clash : C02 ≡ C16 = same in cc)
before_of plan cert C03 n entry eid met = met (λ same. let clash : C03 ≡ C16 = same in cc)
before_of plan cert C04 n entry eid met = met (λ same. let clash : C04 ≡ C16 = same in cc)
before_of plan cert C05 n entry eid met = met (λ same. let clash : C05 ≡ C16 = same in cc)
before_of plan cert C06 n entry eid met = met (λ same. let clash : C06 ≡ C16 = same in cc)
before_of plan cert C07 n entry eid met = met (λ same. let clash : C07 ≡ C16 = same in cc)
before_of plan cert C08 n entry eid met = met (λ same. let clash : C08 ≡ C16 = same in cc)
before_of plan cert C09 n entry eid met = met (λ same. let clash : C09 ≡ C16 = same in cc)
before_of plan cert C10 n entry eid met = met (λ same. let clash : C10 ≡ C16 = same in cc)
before_of plan cert C11 n entry eid met = met (λ same. let clash : C11 ≡ C16 = same in cc)
before_of plan cert C12 n entry eid met = met (λ same. let clash : C12 ≡ C16 = same in cc)
before_of plan cert C13 n entry eid met = met (λ same. let clash : C13 ≡ C16 = same in cc)
before_of plan cert C14 n entry eid met = met (λ same. let clash : C14 ≡ C16 = same in cc)
before_of plan cert C15 n entry eid met = met (λ same. let clash : C15 ≡ C16 = same in cc)
before_of plan cert C16 n entry eid met = tt

plan_part : (plan : Plan) (cert : Certificate) (rule : Rule) (n : ℕ) (entry eid : Option ℕ) → DemandsBefore plan cert rule n entry eid → PlanDemands plan rule n entry eid
plan_part plan cert C01 n entry eid met = met.0
plan_part plan cert C02 n entry eid met = met.0
plan_part plan cert C03 n entry eid met = met.0
plan_part plan cert C04 n entry eid met = met.0
plan_part plan cert C05 n entry eid met = met.0
plan_part plan cert C06 n entry eid met = met.0
plan_part plan cert C07 n entry eid met = met.0
plan_part plan cert C08 n entry eid met = met.0
plan_part plan cert C09 n entry eid met = met.0
plan_part plan cert C10 n entry eid met = met.0
plan_part plan cert C11 n entry eid met = met.0
plan_part plan cert C12 n entry eid met = met.0
plan_part plan cert C13 n entry eid met = met.0
plan_part plan cert C14 n entry eid met = met.0
plan_part plan cert C15 n entry eid met = met.0
plan_part plan cert C16 n entry eid met = tt

-- what is named leaves no certificate, even of a move from the plan
pub ruled_out_before : (plan : Plan) (e : CertifyError) → e ≢ error.OutOfMemory → NamesObstacle plan e → (cert : Certificate) → ((rule : Rule) (n : ℕ) (entry eid : Option ℕ) → DemandsBefore plan cert rule n entry eid) → ⊥
ruled_out_before plan error.OutOfMemory some named cert met = some refl
ruled_out_before plan (error.Fault fault) some named cert met = (let p = site_of fault in named.1.broken (plan_part plan cert p.rule p.node p.entry p.eid (met p.rule p.node p.entry p.eid)))
ruled_out_before plan (error.OwnerLoop nodes) some named cert met = first_loop_breaks_levels plan nodes.items named.2 cert (λ n. (met C07 n None None).1)
ruled_out_before plan (error.Loop eid nodes) some named cert met = loop_breaks_ranks plan eid.value nodes.items named.1 cert (λ n entry eid. met C10 n entry eid)
ruled_out_before plan (error.BadChain node kind entry) some named cert met =
    bad_chain_breaks_places (records_of plan node) kind entry (λ j r is. (met C12 node (Some j) None).0 r is) named.1 (places_of cert node) (λ j r is. (met C14 node (Some j) None).1 r is)

pub ruled_out : (plan : Plan) (e : CertifyError) → NamesObstacle plan e → RulesOutCertificates plan e
ruled_out plan e named = λ some cert accepted. ruled_out_before plan e some named cert (λ rule n entry eid. before_of plan cert rule n entry eid (λ differ. accepted rule n entry eid))

-- what follows of an error
pub if_err : {A E : Type 0} (result : Result A E) (P Q : E → Type 0) → ((e : E) → P e → Q e) → IfErr result P → IfErr result Q
if_err (Ok a) P Q follows holds = tt
if_err (Err e) P Q follows holds = follows e holds
