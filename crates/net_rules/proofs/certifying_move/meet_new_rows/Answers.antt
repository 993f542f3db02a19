use Rattle.std.{proofs.Common.{◌≤◌, Some, sym, ◌∙◌, arith, inl, inr}, proofs.lemmas.Bool.{cases_lt, false≢true}}
use Rattle.net_rules.{specs.declared.rule.Rule.TheVariants.{C10}, specs.Faults.{order_of}, specs.MoveRules.{DemandsAfter}, specs.MoveSearch.{IsFirstByRules}, proofs.MoveCertificates.{row_fault_named}, proofs.certifying_move.meet_new_rows.Goals.{In-Some}}
use Rattle.net_rules.proofs.certifying_move.meet_new_rows.Goals as goal

found_first : (c : In-Some) → IsFirstByRules (DemandsAfter c.args.after.now c.args.made.now) (Some c.in-Some.fault)
found_first c = rw c.in-Some.is at c.in_ok-fault.ensures

pub returns-then-comes_before_ranks-clause-obstacle : goal.returns-then-comes_before_ranks-clause-obstacle
returns-then-comes_before_ranks-clause-obstacle c =
    let found = found_first ((goal.at.returns-then-comes_before_ranks-clause-obstacle c).In-Some) in
    row_fault_named c.args.before.now c.args.after.now c.requires.frames c.args.made.now c.requires.accepted c.fault_of_plan.result c.in-Some.fault c.fault_of_plan.ensures
    (c.comes_before_ranks.ensures.0 c.if-comes_before_ranks.true) found

pub returns-clause-met : goal.returns-clause-met
returns-clause-met c = λ rule n entry eid less.
    let found = found_first ((goal.at.returns-clause-met c).In-Some) in
    let late : order_of C10 ≤ order_of c.in-Some.fault.rule = elim (cases_lt (order_of c.in-Some.fault.rule) (order_of C10)) [
      | inl early ↦ absurd (false≢true (sym c.if-comes_before_ranks.false ∙ c.comes_before_ranks.ensures.1 early))
      | inr late ↦ late
    ] in
    found.1 (record { rule = rule; node = n; entry = entry; eid = eid }) (inl (omega (arith, less, late)))
