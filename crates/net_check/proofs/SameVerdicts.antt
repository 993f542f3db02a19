-- What is decided of a plan and a certificate, and of a move, depends on their values alone.
use Rattle.std.proofs.Common.{◌≡◌, ℕ, Option, Some, None, refl, sym, ap, ◌∙◌, inl, inr}
use Rattle.plan_values.{specs.declared.plan.Plan.{Plan}, specs.declared.certificate.Certificate.{Certificate}, specs.PlanValues.{PlanValue, plan_value}, specs.CertificateValues.{certificate_value}}
use Rattle.net_tables.specs.TwoPlans.{moving, HasRowInBoth, HasRowInEither}
use Rattle.net_rules.{specs.declared.rule.Rule.{Rule}, specs.declared.rule.Rule.TheVariants.{C01, C02, C03, C04, C05, C06, C07, C08, C09, C10, C11, C12, C13, C14, C15, C16}, specs.HeldEids.{IsLedOn}, specs.Superfluous.{NeedsWhatItIsGiven, NeedsItsRank}, specs.Rules.{Accepts}, specs.Faults.{FaultSite, IsFirstFault}, specs.MoveRules.{Requirement, SameFrame, SameNode, Before, After, WayOnBefore, WayOnAfter, Given, IsSameNode, HaveSameFrame, DemandsBefore, DemandsAfter, MoveDemands, AcceptsMove}, specs.MoveFaults.{MoveFaultSite, IsFirstMoveFault}}
use Rattle.net_check.{specs.DependsOnValues.{DependsOnValues, DependsOnMoveValues}, proofs.SameNodes.{many, nodes_but_rows, has_row}, proofs.SameDemands.{at_node, at_node_or_eid, at_row_eid, led_by, needs_given, needs_rank, demands}}

-- ---- of a plan and a certificate

pub accepts_alike : DependsOnValues Accepts
accepts_alike plan other cert cert' same same' accepted rule n entry eid = demands plan other cert cert' same same' rule n entry eid (accepted rule n entry eid)

pub fault_alike : (site : FaultSite) → DependsOnValues (λ plan cert. IsFirstFault plan cert site)
fault_alike site plan other cert cert' same same' fault = record {
  broken = λ met. fault.broken (demands other plan cert' cert (sym same) (sym same') site.rule site.node site.entry site.eid met);
  first = λ before less. demands plan other cert cert' same same' before.rule before.node before.entry before.eid (fault.first before less);
}

-- ---- of a move

module _ (before before' after after' : Plan) (old : plan_value before ≡ plan_value before') (new : plan_value after ≡ plan_value after') where
  pub same_frames : HaveSameFrame before after → HaveSameFrame before' after'
  unfolding HaveSameFrame
  same_frames (units, buses, counts) = (
    sym (ap (λ (v : PlanValue). v.unit) old) ∙ (units ∙ ap (λ (v : PlanValue). v.unit) new),
    sym (ap (λ (v : PlanValue). v.buses) old) ∙ (buses ∙ ap (λ (v : PlanValue). v.buses) new),
    sym (many before before' old) ∙ (counts ∙ many after after' new),
  )

  pub same_nodes : (n : ℕ) → IsSameNode before after n → IsSameNode before' after' n
  unfolding IsSameNode
  same_nodes n is = sym (nodes_but_rows before before' old n) ∙ (is ∙ nodes_but_rows after after' new n)

  rows_in_both : (n e : ℕ) → HasRowInBoth before (Some after) n e → HasRowInBoth before' (Some after') n e
  rows_in_both n e (here, there) = (has_row before before' old n e here, has_row after after' new n e there)

  rows_in_either : (n e : ℕ) → HasRowInEither before (Some after) n e → HasRowInEither before' (Some after') n e
  rows_in_either n e (inl here) = inl (has_row before before' old n e here)
  rows_in_either n e (inr there) = inr (has_row after after' new n e there)

  led : (n e m : ℕ) → IsLedOn (moving before after) n e m → IsLedOn (moving before' after') n e m
  led = led_by before before' old (Some after) (Some after') rows_in_both

  module _ (cert cert' : Certificate) (same : certificate_value cert ≡ certificate_value cert') where
    before_demands : (rule : Rule) (n : ℕ) (entry eid : Option ℕ) → DemandsBefore before cert rule n entry eid → DemandsBefore before' cert' rule n entry eid
    before_demands C01 n entry eid met = demands before before' cert cert' old same C01 n entry eid met
    before_demands C02 n entry eid met = demands before before' cert cert' old same C02 n entry eid met
    before_demands C03 n entry eid met = demands before before' cert cert' old same C03 n entry eid met
    before_demands C04 n entry eid met = demands before before' cert cert' old same C04 n entry eid met
    before_demands C05 n entry eid met = demands before before' cert cert' old same C05 n entry eid met
    before_demands C06 n entry eid met = demands before before' cert cert' old same C06 n entry eid met
    before_demands C07 n entry eid met = demands before before' cert cert' old same C07 n entry eid met
    before_demands C08 n entry eid met = demands before before' cert cert' old same C08 n entry eid met
    before_demands C09 n entry eid met = demands before before' cert cert' old same C09 n entry eid met
    before_demands C10 n entry eid met = demands before before' cert cert' old same C10 n entry eid met
    before_demands C11 n entry eid met = demands before before' cert cert' old same C11 n entry eid met
    before_demands C12 n entry eid met = demands before before' cert cert' old same C12 n entry eid met
    before_demands C13 n entry eid met = demands before before' cert cert' old same C13 n entry eid met
    before_demands C14 n entry eid met = demands before before' cert cert' old same C14 n entry eid met
    before_demands C15 n entry eid met = demands before before' cert cert' old same C15 n entry eid met
    before_demands C16 n entry eid met = tt

    after_demands : (rule : Rule) (n : ℕ) (entry eid : Option ℕ) → DemandsAfter after cert rule n entry eid → DemandsAfter after' cert' rule n entry eid
    after_demands C01 n entry eid met = tt
    after_demands C02 n entry eid met = tt
    after_demands C03 n entry eid met = tt
    after_demands C04 n entry eid met = demands after after' cert cert' new same C04 n entry eid met
    after_demands C05 n entry eid met = demands after after' cert cert' new same C05 n entry eid met
    after_demands C06 n entry eid met = demands after after' cert cert' new same C06 n entry eid met
    after_demands C07 n entry eid met = tt
    after_demands C08 n entry eid met = tt
    after_demands C09 n entry eid met = tt
    after_demands C10 n entry eid met = demands after after' cert cert' new same C10 n entry eid met
    after_demands C11 n entry eid met = demands after after' cert cert' new same C11 n entry eid met
    after_demands C12 n entry eid met = tt
    after_demands C13 n entry eid met = tt
    after_demands C14 n entry eid met = tt
    after_demands C15 n entry eid met = tt
    after_demands C16 n entry eid met = tt

    pub move_demands : (requirement : Requirement) (n : ℕ) (entry eid : Option ℕ) → MoveDemands before after cert requirement n entry eid → MoveDemands before' after' cert' requirement n entry eid
    move_demands SameFrame n entry eid met = at_node (HaveSameFrame before after) (HaveSameFrame before' after') same_frames entry eid met
    move_demands SameNode n entry eid met = at_node (IsSameNode before after n) (IsSameNode before' after' n) (same_nodes n) entry eid met
    move_demands (Before rule) n entry eid met = before_demands rule n entry eid met
    move_demands (After rule) n entry eid met = after_demands rule n entry eid met
    move_demands WayOnBefore n entry eid met =
        at_row_eid before before' old n (λ row e. IsLedOn (moving before after) n e row.next) (λ row e. IsLedOn (moving before' after') n e row.next) (λ row e. led n e row.next) entry eid met
    move_demands WayOnAfter n entry eid met =
        at_row_eid after after' new n (λ row e. IsLedOn (moving before after) n e row.next) (λ row e. IsLedOn (moving before' after') n e row.next) (λ row e. led n e row.next) entry eid met
    move_demands Given n entry eid met =
        at_node_or_eid (NeedsWhatItIsGiven before cert n) (NeedsWhatItIsGiven before' cert' n) (NeedsItsRank (moving before after) cert n) (NeedsItsRank (moving before' after') cert' n)
        (needs_given before before' cert cert' old same n) (needs_rank before before' cert cert' old same (Some after) (Some after') rows_in_either n) entry eid met

pub accepts_move_alike : DependsOnMoveValues AcceptsMove
accepts_move_alike before before' after after' cert cert' old new same accepted requirement n entry eid =
    move_demands before before' after after' old new cert cert' same requirement n entry eid (accepted requirement n entry eid)

pub move_fault_alike : (site : MoveFaultSite) → DependsOnMoveValues (λ before after cert. IsFirstMoveFault before after cert site)
move_fault_alike site before before' after after' cert cert' old new same fault = record {
  broken = λ met. fault.broken (move_demands before' before after' after (sym old) (sym new) cert' cert (sym same) site.requirement site.node site.entry site.eid met);
  first = λ earlier less. move_demands before before' after after' old new cert cert' same earlier.requirement earlier.node earlier.entry earlier.eid (fault.first earlier less);
}
