use Rattle.std.{proofs.Common.{◌≡◌, ◌+◌, ◌++◌, [], ◌∷◌, List, ℕ, string_bytes, take, sym, subst}, proofs.lemmas.List.{take_more}}
use Rattle.fault_texts.{specs.FaultListLines.{AreFaultLines, IsFaultLine}, proofs.FaultLines.{one_more}}
use Rattle.fault_texts.proofs.fault_lists.lines_over.Goals as goal

pub loop-fault-init : goal.loop-fault-init
loop-fault-init c =
    subst (λ (l : List ℕ). AreFaultLines c.args.plan.now c.args.name.now c.args.index.now [] l) (sym c.new-lines.ensures.bytes) AreFaultLines.none

pub loop-fault-preserved : goal.loop-fault-preserved
loop-fault-preserved c =
    let plan = c.args.plan.now in
    let name = c.args.name.now in
    let text = c.args.index.now in
    let faults = c.args.faults.now in
    let i = c.loop-fault.fault-index in
    let fault = c.fault-item.result in
    let line = c.deref.result.now in
    let told : IsFaultLine plan name text fault line = subst (IsFaultLine plan name text fault) (sym c.deref.ensures) c.in_ok-line.ensures in
    let same : take (i + 1) faults ≡ take i faults ++ fault ∷ [] = rw c.fault-item.is (take_more faults i fault c.loop-fault-test.true) in
    one_more plan name text (take i faults) (take (i + 1) faults) fault (string_bytes c.loop-fault.lines) line (string_bytes c.push_str.new.self) c.loop-fault.invariant told same c.in_ok-push_str.ensures.bytes
