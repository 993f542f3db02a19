use Rattle.std.{proofs.Common.{ℕ, List, [], ◌∷◌, ◌++◌, ◌+◌, Some, subst, sym, arith, inl, inr}, proofs.lemmas.Bool.{cases_lt}}
use Rattle.net_rules.{specs.declared.fault_run.FaultRun.{FaultRun}, specs.Faults.{order_of, order_of_number}, specs.FaultLists.{AreFaultsBefore}, proofs.FaultRuns.{both_demands, eids_passed, eids_pushed, eids_left}}
use Rattle.net_rules.proofs.all_faults.add_at_eids.Goals as goal

pub loop-first-init : goal.loop-first-init
loop-first-init c =
    let site = c.args.site.now in
    let judge = site.judge.now in
    let bounds = c.eids_of-bounds in
    record {
      from = omega arith;
      lists = eids_passed judge.plan.now judge.ranks site.rule site.node site.entry 0 bounds.result.first c.args.runs.now.items (omega arith)
          (λ e low high. both_demands judge.plan.now judge.ranks site.rule site.node site.entry (Some e) (bounds.ensures.plan e (inl high)) (λ cert. bounds.ensures.certificate cert e (inl high)))
          c.requires;
    }

pub last_broken-last-requires-clause-outside : goal.last_broken-last-requires-clause-outside
last_broken-last-requires-clause-outside c = λ e out.
    let site = c.args.site.now in
    let judge = site.judge.now in
    let bounds = c.eids_of-bounds in
    both_demands judge.plan.now judge.ranks site.rule site.node site.entry (Some e) (bounds.ensures.plan e out) (λ cert. bounds.ensures.certificate cert e out)

pub loop-first-preserved : goal.loop-first-preserved
loop-first-preserved c =
    let site = c.args.site.now in
    let judge = site.judge.now in
    let last = c.last_broken-last in
    let runs = c.loop-first.runs.items in
    let found = c.in-Some.ensures in
    let B : List FaultRun → Type 0 = AreFaultsBefore judge.plan.now judge.ranks (order_of site.rule ∷ site.node ∷ order_of_number site.entry ∷ (last.result.value + 1 + 1) ∷ []) in
    let R : FaultRun → Type 0 = λ run. B (runs ++ run ∷ []) in
    let N : ℕ → Type 0 = λ v. AreFaultsBefore judge.plan.now judge.ranks (order_of site.rule ∷ site.node ∷ order_of_number site.entry ∷ (v + 1 + 1) ∷ []) c.push.new.self.items in
    record {
      from = omega arith;
      lists = subst N (sym c.from-start.ensures) (subst B (sym c.in_ok-push.ensures.items)
          (subst R (sym c.run.ensures)
          (eids_pushed judge.plan.now judge.ranks site.rule site.node site.entry runs (record { first = c.in-Some.first; last = last.result; ordered = c.run-arg-1.given.0 }) last.ensures.broken last.ensures.whole
          (eids_passed judge.plan.now judge.ranks site.rule site.node site.entry c.loop-first.start c.in-Some.first.value runs found.0 found.3 c.loop-first.invariant.lists))));
    }

pub returns : goal.returns
returns c =
    let site = c.args.site.now in
    let judge = site.judge.now in
    let bounds = c.eids_of-bounds in
    eids_left judge.plan.now judge.ranks site.rule site.node site.entry c.loop-first.start c.loop-first.runs.items
    (λ e low. elim (cases_lt e bounds.result.end) [
      | inl before ↦ c.in_default.ensures e low before
      | inr past ↦ both_demands judge.plan.now judge.ranks site.rule site.node site.entry (Some e) (bounds.ensures.plan e (inr past)) (λ cert. bounds.ensures.certificate cert e (inr past))
    ])
    c.loop-first.invariant.lists
