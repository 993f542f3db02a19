-- What an edit that was tried leaves of a fault.
use Rattle.std.proofs.Common.{◌≡◌, ◌⊎◌, ◌<◌, ℕ, List, [], ◌∷◌, Option, Some, None, sym, ◌∙◌, ap, subst, arith, inl, inr}
use Rattle.net_explained.{specs.Obstacles.{IsLater, IsLeft, IsUpTo, EditsTakeFaultsAway, key_of}, proofs.Later.{not_less}}
use Rattle.plan_values.specs.declared.plan.Plan.{Plan}
use Rattle.net_rules.{specs.Certificates.{NamesObstacle}, specs.Faults.{FaultSite, LessByFirstDifference, ComesBefore, site_of, order_of, order_of_number}, specs.PlanFaults.{IsMetByPlan, PlanMeets}, specs.Rules.{PlanDemands}, specs.declared.certify_error.CertifyError.{CertifyError}, specs.declared.fault.Fault.{Fault}, specs.declared.rule.Rule.{Rule}, specs.declared.rule.Rule.TheVariants.{C07, C10, C14}, proofs.RuleOrder.{one_order}}
use Rattle.net_rules.specs.declared.certify_error.CertifyError.TheVariants as error

-- ---- lists of numbers

less_trans : (xs ys zs : List ℕ) → LessByFirstDifference xs ys → LessByFirstDifference ys zs → LessByFirstDifference xs zs
less_trans [] ys zs h k = absurd h
less_trans (a ∷ r) [] zs h k = absurd h
less_trans (a ∷ r) (b ∷ s) [] h k = absurd k
less_trans (a ∷ r) (b ∷ s) (c ∷ t) (inl ab) (inl bc) = inl (omega (arith, ab, bc))
less_trans (a ∷ r) (b ∷ s) (c ∷ t) (inl ab) (inr (bc, k)) = inl (omega (arith, ab, bc))
less_trans (a ∷ r) (b ∷ s) (c ∷ t) (inr (ab, h)) (inl bc) = inl (omega (arith, ab, bc))
less_trans (a ∷ r) (b ∷ s) (c ∷ t) (inr (ab, h)) (inr (bc, k)) = inr (ab ∙ bc, less_trans r s t h k)

-- two faults: their second numbers are both 0
without_kind : (a b : ℕ) (xs ys : List ℕ) → LessByFirstDifference (a ∷ 0 ∷ xs) (b ∷ 0 ∷ ys) → LessByFirstDifference (a ∷ xs) (b ∷ ys)
without_kind a b xs ys (inl less) = inl less
without_kind a b xs ys (inr (same, inl less)) = absurd (omega (arith, less))
without_kind a b xs ys (inr (same, inr (zero, rest))) = inr (same, rest)

-- the first number is at most that of the other
at_most : (a b : ℕ) (xs ys : List ℕ) → LessByFirstDifference (a ∷ xs) (b ∷ ys) → (a < b) ⊎ (a ≡ b)
at_most a b xs ys (inl less) = inl less
at_most a b xs ys (inr (same, rest)) = inr same

-- ---- sites up to a fault

-- a site's numbers behind that of its rule
abbrev rest_of : FaultSite → List ℕ
rest_of p = p.node ∷ order_of_number p.entry ∷ order_of_number p.eid ∷ []

-- the rule of such a site comes before another, or is it
module _ (p : FaultSite) (f : Fault) (rule : Rule) (upto : IsUpTo p f) where
  rules_before : (order_of f.rule < order_of rule) ⊎ (order_of f.rule ≡ order_of rule) → (order_of p.rule < order_of rule) ⊎ (p.rule ≡ rule)
  rules_before later = both (first upto) later
    where
      first : IsUpTo p f → (order_of p.rule < order_of f.rule) ⊎ (order_of p.rule ≡ order_of f.rule)
      first (inl before) = at_most (order_of p.rule) (order_of f.rule) (rest_of p) (rest_of (site_of f)) before
      first (inr same) = inr (ap (λ (s : FaultSite). order_of s.rule) same)

      both : (order_of p.rule < order_of f.rule) ⊎ (order_of p.rule ≡ order_of f.rule) → (order_of f.rule < order_of rule) ⊎ (order_of f.rule ≡ order_of rule)
          → (order_of p.rule < order_of rule) ⊎ (p.rule ≡ rule)
      both (inl less) (inl later) = inl (omega (arith, less, later))
      both (inl less) (inr same) = inl (omega (arith, less, same))
      both (inr same) (inl later) = inl (omega (arith, same, later))
      both (inr same) (inr here) = inr (one_order p.rule rule (same ∙ here))

module _ (after : Plan) (f : Fault) (p : FaultSite) (upto : IsUpTo p f) where
  -- before an obstacle of a rule that the plan meets, or that demands nothing of it
  met_before : (rule : Rule) → ((r : Rule) → order_of r < order_of rule → PlanMeets after r) → PlanMeets after rule
      → (order_of f.rule < order_of rule) ⊎ (order_of f.rule ≡ order_of rule) → IsMetByPlan after p
  met_before rule below here later = by (rules_before p f rule upto later)
    where
      by : (order_of p.rule < order_of rule) ⊎ (p.rule ≡ rule) → IsMetByPlan after p
      by (inl less) = below p.rule less p.node p.entry p.eid
      by (inr same) = subst (λ (r : Rule). PlanDemands after r p.node p.entry p.eid) (sym same) (here p.node p.entry p.eid)

  by_obstacle : (next : CertifyError) → NamesObstacle after next → IsLater (error.Fault f) next → IsMetByPlan after p
  by_obstacle (error.Fault g) named later = named.1.first p (ahead upto)
    where
      later_fault : ComesBefore (site_of f) (site_of g)
      later_fault = without_kind (order_of f.rule) (order_of g.rule) (rest_of (site_of f)) (rest_of (site_of g)) later

      ahead : IsUpTo p f → ComesBefore p (site_of g)
      ahead (inl before) = less_trans (order_of p.rule ∷ rest_of p) (order_of f.rule ∷ rest_of (site_of f)) (order_of g.rule ∷ rest_of (site_of g)) before later_fault
      ahead (inr same) = subst (λ (s : FaultSite). ComesBefore s (site_of g)) (sym same) later_fault
  by_obstacle (error.OwnerLoop nodes) named later = met_before C07 named.0.plan_meets named.1 (at_most (order_of f.rule) (order_of C07) (0 ∷ rest_of (site_of f)) (1 ∷ 0 ∷ 0 ∷ 0 ∷ []) later)
  by_obstacle (error.Loop eid nodes) named later = met_before C10 named.0.plan_meets (λ n entry eid. tt) (at_most (order_of f.rule) (order_of C10) (0 ∷ rest_of (site_of f)) (1 ∷ eid.value ∷ 0 ∷ 0 ∷ []) later)
  by_obstacle (error.BadChain node kind entry) named later = met_before C14 named.0.plan_meets (λ n entry eid. tt) (at_most (order_of f.rule) (order_of C14) (0 ∷ rest_of (site_of f)) (1 ∷ node ∷ 0 ∷ 0 ∷ []) later)
  by_obstacle error.OutOfMemory named later = absurd (not_less (key_of (error.Fault f)) later)

  by_left : (left : Option CertifyError) → IsLeft (error.Fault f) after left → IsMetByPlan after p
  by_left None (certificate, accepted) = (accepted p.rule p.node p.entry p.eid).0
  by_left (Some next) (none, named, later) = by_obstacle next named later

pub edits_take_faults_away : EditsTakeFaultsAway
edits_take_faults_away before fault tried h = λ p upto. by_left h.after fault p upto tried.left h.left
