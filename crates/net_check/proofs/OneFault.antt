-- Of the sites where something isn't met one at most is the first.
use Rattle.std.{proofs.Common.{◌≡◌, ◌⊎◌, ℕ, List, [], ◌∷◌, length, Option, Some, None, refl, sym, ap, ◌∙◌, arith, inl, inr}, proofs.lemmas.Bool.{cases_order}}
use Rattle.plan_values.{specs.declared.plan.Plan.{Plan}, specs.declared.certificate.Certificate.{Certificate}}
use Rattle.net_rules.{specs.declared.rule.Rule.{Rule}, specs.declared.rule.Rule.TheVariants.{C01}, specs.Faults.{FaultSite, order_of, order_of_number, LessByFirstDifference, IsMet, IsFirstFault}, specs.PlanFaults.{IsMetByPlan, IsFirstPlanFault}, specs.MoveRules.{Requirement, SameFrame, SameNode, Before, After, WayOnBefore, WayOnAfter, Given}, specs.MoveFaults.{MoveFaultSite, order_of_requirement, order_of_its_rule, IsMoveMet, IsFirstMoveFault}, specs.MoveObstacles.{IsSureFault}, proofs.RuleOrder.{one_order}, proofs.MoveOrder.{asked_at}}

-- two lists of one length are the same, or one of them is the less
ordered : (xs ys : List ℕ) → length xs ≡ length ys → (xs ≡ ys) ⊎ (LessByFirstDifference xs ys ⊎ LessByFirstDifference ys xs)
ordered [] [] long = inl refl
ordered [] (y ∷ ys) long = absurd (omega arith)
ordered (x ∷ xs) [] long = absurd (omega arith)
ordered (x ∷ xs) (y ∷ ys) long = elim (cases_order x y) [
  | inl same ↦ elim (ordered xs ys (omega arith)) [
    | inl rest ↦ inl (λ i. same i ∷ rest i)
    | inr (inl less) ↦ inr (inl (inr (same, less)))
    | inr (inr more) ↦ inr (inr (inr (sym same, more)))
  ]
  | inr (inl less) ↦ inr (inl (inl less))
  | inr (inr more) ↦ inr (inr (inl more))
]

-- what has keys of one length, and one key each, has one first
module _ (S : Type 0) (key : S → List ℕ) (long : (p q : S) → length (key p) ≡ length (key q)) (one : (p q : S) → key p ≡ key q → p ≡ q) (Met : S → Type 0) where
  abbrev IsFirst : S → Type 0
  IsFirst p = ¬ Met p × ((other : S) → LessByFirstDifference (key other) (key p) → Met other)

  one_first : (p q : S) → IsFirst p → IsFirst q → p ≡ q
  one_first p q (broken, first) (broken', first') = elim (ordered (key p) (key q) (long p q)) [
    | inl same ↦ one p q same
    | inr (inl less) ↦ absurd (broken (first' p less))
    | inr (inr more) ↦ absurd (broken' (first q more))
  ]

one_number : (a b : Option ℕ) → order_of_number a ≡ order_of_number b → a ≡ b
one_number None None same = refl
one_number None (Some b) same = absurd (omega (arith, same))
one_number (Some a) None same = absurd (omega (arith, same))
one_number (Some a) (Some b) same = ap Some (omega (arith, same))

-- ---- of a plan and a certificate, and of a plan alone

abbrev site_key : FaultSite → List ℕ
site_key p = order_of p.rule ∷ p.node ∷ order_of_number p.entry ∷ order_of_number p.eid ∷ []

one_of_key : (p q : FaultSite) → site_key p ≡ site_key q → p ≡ q
one_of_key p q same =
    let rules : order_of p.rule ≡ order_of q.rule = cc in
    let nodes : p.node ≡ q.node = cc in
    let entries : order_of_number p.entry ≡ order_of_number q.entry = cc in
    let eids : order_of_number p.eid ≡ order_of_number q.eid = cc in
    λ i. record { rule = one_order p.rule q.rule rules i; node = nodes i; entry = one_number p.entry q.entry entries i; eid = one_number p.eid q.eid eids i }

pub one_site : (plan : Plan) (cert : Certificate) (p q : FaultSite) → IsFirstFault plan cert p → IsFirstFault plan cert q → p ≡ q
one_site plan cert p q first other = one_first FaultSite site_key (λ r s. refl) one_of_key (IsMet plan cert) p q (first.broken, first.first) (other.broken, other.first)

pub one_plan_site : (plan : Plan) (p q : FaultSite) → IsFirstPlanFault plan p → IsFirstPlanFault plan q → p ≡ q
one_plan_site plan p q first other = one_first FaultSite site_key (λ r s. refl) one_of_key (IsMetByPlan plan) p q (first.broken, first.first) (other.broken, other.first)

-- ---- of a move

abbrev move_key : MoveFaultSite → List ℕ
move_key p = order_of_requirement p.requirement ∷ order_of_its_rule p.requirement ∷ p.node ∷ order_of_number p.entry ∷ order_of_number p.eid ∷ []

rule_in : Requirement → Rule
rule_in (Before rule) = rule
rule_in (After rule) = rule
rule_in _ = C01

orders_as : (r : Requirement) → order_of_its_rule r ≡ order_of (rule_in r)
unfolding rule_in
orders_as SameFrame = refl
orders_as SameNode = refl
orders_as (Before rule) = refl
orders_as (After rule) = refl
orders_as WayOnBefore = refl
orders_as WayOnAfter = refl
orders_as Given = refl

asked_by : (r : Requirement) (rule : Rule) → order_of_its_rule r ≡ order_of rule → asked_at (order_of_requirement r) rule ≡ r
asked_by SameFrame rule same = refl
asked_by SameNode rule same = refl
asked_by (Before other) rule same = ap Before (one_order rule other (sym same))
asked_by (After other) rule same = ap After (one_order rule other (sym same))
asked_by WayOnBefore rule same = refl
asked_by WayOnAfter rule same = refl
asked_by Given rule same = refl

one_requirement : (r s : Requirement) → order_of_requirement r ≡ order_of_requirement s → order_of_its_rule r ≡ order_of_its_rule s → r ≡ s
one_requirement r s place rules =
    sym (asked_by r (rule_in r) (orders_as r)) ∙ (ap (λ k. asked_at k (rule_in r)) place ∙ asked_by s (rule_in r) (sym rules ∙ orders_as r))

one_of_move_key : (p q : MoveFaultSite) → move_key p ≡ move_key q → p ≡ q
one_of_move_key p q same =
    let places : order_of_requirement p.requirement ≡ order_of_requirement q.requirement = cc in
    let rules : order_of_its_rule p.requirement ≡ order_of_its_rule q.requirement = cc in
    let nodes : p.node ≡ q.node = cc in
    let entries : order_of_number p.entry ≡ order_of_number q.entry = cc in
    let eids : order_of_number p.eid ≡ order_of_number q.eid = cc in
    λ i. record { requirement = one_requirement p.requirement q.requirement places rules i; node = nodes i; entry = one_number p.entry q.entry entries i; eid = one_number p.eid q.eid eids i }

pub one_move_site : (before after : Plan) (cert : Certificate) (p q : MoveFaultSite) → IsFirstMoveFault before after cert p → IsFirstMoveFault before after cert q → p ≡ q
one_move_site before after cert p q first other =
    one_first MoveFaultSite move_key (λ r s. refl) one_of_move_key (IsMoveMet before after cert) p q (first.broken, first.first) (other.broken, other.first)

-- whatever the certificate
pub one_sure_site : (before after : Plan) (p q : MoveFaultSite) → IsSureFault before after p → IsSureFault before after q → p ≡ q
one_sure_site before after p q sure other =
    one_first MoveFaultSite move_key (λ r s. refl) one_of_move_key (λ site. (cert : Certificate) × IsMoveMet before after cert site) p q (sure_first p sure) (sure_first q other)
  where
    sure_first : (site : MoveFaultSite) → IsSureFault before after site
        → IsFirst MoveFaultSite move_key (λ r s. refl) one_of_move_key (λ one. (cert : Certificate) × IsMoveMet before after cert one) site
    sure_first site sure = (λ met. sure.broken met.0 met.1, λ earlier less. (sure.reached.0, sure.reached.1 earlier less))
