use Rattle.std.proofs.Common.{◌∙◌, List, string_bytes, map, ap, subst}
use Rattle.net_plan.specs.Finding.{Step, step_value}
use Rattle.fault_texts.{specs.Places.{IsAtTold, plan_fault_pointer}, proofs.FaultLines.{line_placed}}
use Rattle.fault_texts.proofs.fault_lists.placed_line.Goals as goal

pub returns : goal.returns
returns c =
    let plan = c.args.plan.now in
    let name = c.args.name.now in
    let text = c.args.index.now in
    let fault = c.args.fault.now in
    let At : List Step → Type 0 = λ pointer. IsAtTold name text pointer (string_bytes c.in_ok-at.at) in
    let at : At (plan_fault_pointer plan fault) = subst At (ap (map step_value) c.deref.ensures.value ∙ c.in_ok-pointer.ensures) c.in_ok-at.ensures in
    line_placed (λ line. string_bytes line) plan name text fault (string_bytes c.in_ok-words.words) (string_bytes c.in_ok-at.at) c.format.result c.in_ok-words.ensures at c.format.ensures.ok
