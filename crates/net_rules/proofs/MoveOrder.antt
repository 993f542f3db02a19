-- The order in which a move's requirements are asked.
use Rattle.std.{proofs.Common.{◌≡◌, ℕ, zero, suc, ◌+◌, ◌<◌, ◌≤◌, [], ◌∷◌, length, Option, Some, None, refl, sym, ◌∙◌, ap, subst, arith, inl, inr}, proofs.lemmas.Bool.{cases_lt}}
use Rattle.net_rules.{specs.declared.rule.Rule.{Rule}, specs.declared.rule.Rule.TheVariants.{C01}, specs.declared.fault.Fault.{Fault}, specs.declared.move_fault.MoveRule.{MoveRule}, specs.declared.move_fault.MoveRule.TheVariants.{OfPlan, M02, M03}, specs.declared.move_fault.MoveFault.{MoveFault}, specs.Rules.{AtRowEid, AtNodeOrEid}, specs.Faults.{order_of_number, LessByFirstDifference}, specs.HeldEids.{IsLedOn}, specs.Superfluous.{NeedsWhatItIsGiven, NeedsItsRank}, specs.MoveRules.{Requirement, SameFrame, SameNode, Before, After, WayOnBefore, WayOnAfter, Given, HaveSameFrame, IsSameNode, DemandsBefore, DemandsAfter, MoveDemands, AcceptsMove}, specs.MoveFaults.{MoveFaultSite, order_of_requirement, order_of_its_rule, MoveComesBefore, IsMoveMet, IsFirstMoveFault, required_before, required_after, required_of_both, move_site, IsFirstFaultOf}, specs.MoveObstacles.{DifferInRowsAlone}, specs.MoveSearch.{IsFirstUnlike, NodeComesBefore, IsFirstByRules, IsFirstByNode}, proofs.Beyond.{at_node}}
use Rattle.plan_values.{specs.declared.plan.Plan.{Plan}, specs.declared.certificate.Certificate.{Certificate}, specs.NodeValues.{but_rows}, proofs.SameItems.{same_beyond}}
use Rattle.net_tables.{specs.Routing.{eid_number}, specs.TwoPlans.{Tables, moving}}

-- what is asked at a place of the order, of this rule where it is a rule of one plan
abbrev pub asked_at : ℕ → Rule → Requirement
asked_at zero rule = SameFrame
asked_at (suc zero) rule = SameNode
asked_at (suc (suc zero)) rule = Before rule
asked_at (suc (suc (suc zero))) rule = After rule
asked_at (suc (suc (suc (suc zero)))) rule = WayOnBefore
asked_at (suc (suc (suc (suc (suc zero))))) rule = WayOnAfter
asked_at (suc (suc (suc (suc (suc (suc k)))))) rule = Given

rule_in : Requirement → Rule
rule_in SameFrame = C01
rule_in SameNode = C01
rule_in (Before rule) = rule
rule_in (After rule) = rule
rule_in WayOnBefore = C01
rule_in WayOnAfter = C01
rule_in Given = C01

asked_again : (r : Requirement) → asked_at (order_of_requirement r) (rule_in r) ≡ r
unfolding rule_in
asked_again SameFrame = refl
asked_again SameNode = refl
asked_again (Before rule) = refl
asked_again (After rule) = refl
asked_again WayOnBefore = refl
asked_again WayOnAfter = refl
asked_again Given = refl

all_below : (r : Requirement) → order_of_requirement r < 7
all_below SameFrame = omega arith
all_below SameNode = omega arith
all_below (Before rule) = omega arith
all_below (After rule) = omega arith
all_below WayOnBefore = omega arith
all_below WayOnAfter = omega arith
all_below Given = omega arith

asked_there : (r : Requirement) (k : ℕ) → order_of_requirement r ≡ k → asked_at k (rule_in r) ≡ r
asked_there r k there = ap (λ s. asked_at s (rule_in r)) (sym there) ∙ asked_again r

pub nothing_before : (m a b : ℕ) → ¬ LessByFirstDifference (m ∷ a ∷ b ∷ []) (0 ∷ 0 ∷ 0 ∷ [])
nothing_before m a b before = elim before [
  | inl less ↦ omega arith
  | inr (_, rest) ↦ elim rest [ inl less ↦ omega arith | inr (_, last) ↦ elim last [ inl less ↦ omega arith | inr (_, none) ↦ none ] ]
]

-- along each row of one of the plans
abbrev pub LeadsOn : Tables → Plan → ℕ → Option ℕ → Option ℕ → Type 0
LeadsOn tables whose n = AtRowEid whose n (λ row e. IsLedOn tables n e row.next)

-- at each node, what the certificate gives it
abbrev pub NeedsWhatIsGiven : Tables → Certificate → ℕ → Option ℕ → Option ℕ → Type 0
NeedsWhatIsGiven tables cert n = AtNodeOrEid (NeedsWhatItIsGiven tables.plan cert n) (NeedsItsRank tables cert n)

pub as_many_nodes : (before after : Plan) → HaveSameFrame before after → length before.nodes.items ≡ length after.nodes.items
unfolding HaveSameFrame
as_many_nodes before after same = same.2

pub same_node_beyond : (before after : Plan) (n : ℕ) → length before.nodes.items ≤ n → length after.nodes.items ≤ n → IsSameNode before after n
unfolding IsSameNode
same_node_beyond before after n past also = same_beyond but_rows before.nodes.items after.nodes.items n past also

module _ (before after : Plan) (cert : Certificate) where
  -- what is required holds everywhere
  abbrev pub Everywhere : Requirement → Type 0
  Everywhere r = (n : ℕ) (entry eid : Option ℕ) → MoveDemands before after cert r n entry eid

  -- and so does all that is asked earlier
  abbrev pub MeetsBelow : ℕ → Type 0
  MeetsBelow k = (r : Requirement) → order_of_requirement r < k → Everywhere r

  -- the demand isn't met at the place, and is at each before it
  abbrev FirstAt : (ℕ → Option ℕ → Option ℕ → Type 0) → ℕ → Option ℕ → Option ℕ → Type 0
  FirstAt D n entry eid =
      ¬ D n entry eid × ((m : ℕ) (entry' eid' : Option ℕ) → NodeComesBefore m entry' eid' n entry eid → D m entry' eid')

  more : (k : ℕ) → MeetsBelow k → ((rule : Rule) → Everywhere (asked_at k rule)) → MeetsBelow (k + 1)
  more k below here r less = elim (cases_lt (order_of_requirement r) k) [
    | inl earlier ↦ below r earlier
    | inr now ↦ subst Everywhere (asked_there r k (omega (arith, less, now))) (here (rule_in r))
  ]

  first_here : (k : ℕ) (rule : Rule) (n : ℕ) (entry eid : Option ℕ) → order_of_requirement (asked_at k rule) ≡ k → MeetsBelow k
      → ¬ MoveDemands before after cert (asked_at k rule) n entry eid
      → ((r : Rule) (m : ℕ) (entry' eid' : Option ℕ)
      → LessByFirstDifference (order_of_its_rule (asked_at k r) ∷ m ∷ order_of_number entry' ∷ order_of_number eid' ∷ []) (order_of_its_rule (asked_at k rule) ∷ n ∷ order_of_number entry ∷ order_of_number eid ∷ [])
      → MoveDemands before after cert (asked_at k r) m entry' eid')
      → IsFirstMoveFault before after cert (record { requirement = asked_at k rule; node = n; entry = entry; eid = eid })
  first_here k rule n entry eid there below broken first = record { broken = broken; first = λ other earlier. met other earlier }
    where
      met : (other : MoveFaultSite) → MoveComesBefore other (record { requirement = asked_at k rule; node = n; entry = entry; eid = eid }) → IsMoveMet before after cert other
      met other earlier = elim earlier [
        | inl less ↦ below other.requirement (omega (arith, less, there)) other.node other.entry other.eid
        | inr (same, rest) ↦
            (let is = asked_there other.requirement k (same ∙ there) in
            let P : Requirement → Type 0 = λ r.
            LessByFirstDifference (order_of_its_rule r ∷ other.node ∷ order_of_number other.entry ∷ order_of_number other.eid ∷ []) (order_of_its_rule (asked_at k rule) ∷ n ∷ order_of_number entry ∷ order_of_number eid ∷ [])
            → MoveDemands before after cert r other.node other.entry other.eid in
            subst P is (first (rule_in other.requirement) other.node other.entry other.eid) rest)
      ]

  -- where no rule of one plan is asked
  first_alone : (k : ℕ) (requirement : Requirement) (n : ℕ) (entry eid : Option ℕ) → ((rule : Rule) → asked_at k rule ≡ requirement) → order_of_requirement requirement ≡ k
      → order_of_its_rule requirement ≡ 0 → MeetsBelow k → FirstAt (MoveDemands before after cert requirement) n entry eid
      → IsFirstMoveFault before after cert (record { requirement = requirement; node = n; entry = entry; eid = eid })
  first_alone k requirement n entry eid asked there alone below found = record { broken = found.0; first = λ other earlier. met other earlier }
    where
      met : (other : MoveFaultSite) → MoveComesBefore other (record { requirement = requirement; node = n; entry = entry; eid = eid }) → IsMoveMet before after cert other
      met other earlier = elim earlier [
        | inl less ↦ below other.requirement (omega (arith, less, there)) other.node other.entry other.eid
        | inr (same, rest) ↦
            (let is : requirement ≡ other.requirement = sym (asked (rule_in other.requirement)) ∙ asked_there other.requirement k (same ∙ there) in
            let P : Requirement → Type 0 = λ r. MoveDemands before after cert r other.node other.entry other.eid in
            let one = ap order_of_its_rule is in
            elim rest [
              | inl less ↦ absurd (omega (arith, less, one))
              | inr (_, last) ↦ subst P is (found.1 other.node other.entry other.eid last)
            ])
      ]

  pub frame_holds : HaveSameFrame before after → MeetsBelow 1
  frame_holds same = more 0 (λ r less. absurd (omega (arith, less))) (λ rule n entry eid. at_node (HaveSameFrame before after) entry eid same)

  pub nodes_hold : MeetsBelow 1 → IsFirstUnlike before after None → MeetsBelow 2
  nodes_hold below same = more 1 below (λ rule n entry eid. at_node (IsSameNode before after n) entry eid (same n))

  -- the rules of the plan before
  pub old_breaks : (named : MoveFault) (fault : Fault) → named ≡ record { rule = OfPlan fault.rule; node = fault.node; entry = fault.entry; eid = fault.eid } → MeetsBelow 2
      → IsFirstByRules (DemandsBefore before cert) (Some fault) → IsFirstFaultOf before after cert (required_before named.rule) named
  old_breaks named fault is below found =
      let P : MoveFault → Type 0 = λ m. IsFirstFaultOf before after cert (required_before m.rule) m in
      subst P (sym is)
      (first_here 2 fault.rule fault.node fault.entry (eid_number fault.eid) refl below found.0
      (λ r m entry eid earlier. found.1 (record { rule = r; node = m; entry = entry; eid = eid }) earlier))

  pub old_holds : MeetsBelow 2 → IsFirstByRules (DemandsBefore before cert) None → MeetsBelow 3
  old_holds below holds = more 2 below (λ rule n entry eid. holds rule n entry eid)

  -- those of the rows after
  pub new_breaks : (named : MoveFault) (fault : Fault) → named ≡ record { rule = OfPlan fault.rule; node = fault.node; entry = fault.entry; eid = fault.eid } → MeetsBelow 3
      → IsFirstByRules (DemandsAfter after cert) (Some fault) → IsFirstFaultOf before after cert (required_after named.rule) named
  new_breaks named fault is below found =
      let P : MoveFault → Type 0 = λ m. IsFirstFaultOf before after cert (required_after m.rule) m in
      subst P (sym is)
      (first_here 3 fault.rule fault.node fault.entry (eid_number fault.eid) refl below found.0
      (λ r m entry eid earlier. found.1 (record { rule = r; node = m; entry = entry; eid = eid }) earlier))

  pub new_holds : MeetsBelow 3 → IsFirstByRules (DemandsAfter after cert) None → MeetsBelow 4
  new_holds below holds = more 3 below (λ rule n entry eid. holds rule n entry eid)

  -- ways on
  named_before : (fault : MoveFault) (rule : MoveRule) (requirement : Requirement) → fault.rule ≡ rule → required_before rule ≡ Some requirement
      → IsFirstMoveFault before after cert (move_site requirement fault) → IsFirstFaultOf before after cert (required_before fault.rule) fault
  named_before fault rule requirement same asked first =
      let P : Option Requirement → Type 0 = λ r. IsFirstFaultOf before after cert r fault in
      subst P (sym (ap required_before same ∙ asked)) first

  named_after : (fault : MoveFault) (rule : MoveRule) (requirement : Requirement) → fault.rule ≡ rule → required_after rule ≡ Some requirement
      → IsFirstMoveFault before after cert (move_site requirement fault) → IsFirstFaultOf before after cert (required_after fault.rule) fault
  named_after fault rule requirement same asked first =
      let P : Option Requirement → Type 0 = λ r. IsFirstFaultOf before after cert r fault in
      subst P (sym (ap required_after same ∙ asked)) first

  pub old_way_breaks : (fault : MoveFault) → MeetsBelow 4 → IsFirstByNode M02 (LeadsOn (moving before after) before) (Some fault) → IsFirstFaultOf before after cert (required_before fault.rule) fault
  old_way_breaks fault below (same, broken, first) =
      named_before fault M02 WayOnBefore same refl
      (first_alone 4 WayOnBefore fault.node fault.entry (eid_number fault.eid) (λ rule. refl) refl refl below (broken, first))

  pub old_ways_hold : MeetsBelow 4 → IsFirstByNode M02 (LeadsOn (moving before after) before) None → MeetsBelow 5
  old_ways_hold below holds = more 4 below (λ rule n entry eid. holds n entry eid)

  pub new_way_breaks : (fault : MoveFault) → MeetsBelow 5 → IsFirstByNode M02 (LeadsOn (moving before after) after) (Some fault) → IsFirstFaultOf before after cert (required_after fault.rule) fault
  new_way_breaks fault below (same, broken, first) =
      named_after fault M02 WayOnAfter same refl
      (first_alone 5 WayOnAfter fault.node fault.entry (eid_number fault.eid) (λ rule. refl) refl refl below (broken, first))

  pub new_ways_hold : MeetsBelow 5 → IsFirstByNode M02 (LeadsOn (moving before after) after) None → MeetsBelow 6
  new_ways_hold below holds = more 5 below (λ rule n entry eid. holds n entry eid)

  -- what the certificate gives
  pub given_breaks : (fault : MoveFault) → MeetsBelow 6 → IsFirstByNode M03 (NeedsWhatIsGiven (moving before after) cert) (Some fault) → IsFirstFaultOf before after cert (required_of_both fault.rule) fault
  given_breaks fault below (same, broken, first) =
      let P : Option Requirement → Type 0 = λ r. IsFirstFaultOf before after cert r fault in
      subst P (sym (ap required_of_both same))
      (first_alone 6 Given fault.node fault.entry (eid_number fault.eid) (λ rule. refl) refl refl below (broken, first))

  pub all_hold : MeetsBelow 6 → IsFirstByNode M03 (NeedsWhatIsGiven (moving before after) cert) None → AcceptsMove before after cert
  all_hold below holds r n entry eid = more 6 below (λ rule m entry' eid'. holds m entry' eid') r (all_below r) n entry eid

-- plans that differ in rows alone meet what is asked first
pub frames_hold : (before after : Plan) (cert : Certificate) → DifferInRowsAlone before after → MeetsBelow before after cert 2
frames_hold before after cert frames = nodes_hold before after cert (frame_holds before after cert frames.0) frames.1
