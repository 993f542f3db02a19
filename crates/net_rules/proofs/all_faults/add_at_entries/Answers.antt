use Rattle.std.proofs.Common.{◌≡◌, ℕ, [], ◌∷◌, ◌+◌, suc, subst, arith}
use Rattle.net_rules.{specs.Faults.{order_of}, specs.FaultLists.{AreFaultsBefore}, proofs.FaultRuns.{entered, left, met_at, beyond_entries}}
use Rattle.net_rules.proofs.all_faults.add_at_entries.Goals as goal

pub add_at_entry-requires-clause-before : goal.add_at_entry-requires-clause-before
add_at_entry-requires-clause-before c =
    let judge = c.args.judge.now in
    entered judge.plan.now judge.ranks (order_of c.args.rule ∷ c.args.node ∷ []) c.args.runs.now.items c.requires.before

pub loop-entry-preserved : goal.loop-entry-preserved
loop-entry-preserved c =
    let judge = c.args.judge.now in
    let B : ℕ → Type 0 = λ k. AreFaultsBefore judge.plan.now judge.ranks (order_of c.args.rule ∷ c.args.node ∷ k ∷ []) c.add_at_entry-in-loop-entry.new.runs.items in
    let same : suc c.loop-entry.entry + 1 ≡ suc (c.loop-entry.entry + 1) = omega arith in
    subst B same c.in_ok-add_at_entry-2.ensures

pub returns : goal.returns
returns c =
    let judge = c.args.judge.now in
    let rule = c.args.rule in
    let n = c.args.node in
    let bound = c.entries_of-entry-end in
    left judge.plan.now judge.ranks (order_of rule ∷ []) n (suc c.loop-entry.entry) c.loop-entry.runs.items
    (λ site past. met_at judge.plan.now judge.ranks rule n site past.0 past.1.0
    (beyond_entries judge.plan.now judge.ranks rule n bound.result bound.ensures.plan bound.ensures.certificate site.entry site.eid (omega (arith, past.1.1))))
    c.loop-entry.invariant
