use Rattle.std.proofs.Common.{◌↔◌, IfOk, IsTrue, subst}
use Rattle.plan_values.{specs.declared.plan.Plan.{Plan}, specs.declared.certificate.Certificate.{Certificate}}
use Rattle.board_kept.specs.Rowed.{AllReachAll}
use Rattle.board_kept.proofs.whole.do_all_reach.Goals as goal

pub returns-in-Ok : goal.returns-in-Ok
returns-in-Ok c = subst (λ (v : Plan × Certificate). IfOk c.all_reach.result (λ answer. IsTrue answer ↔ AllReachAll v.0)) c.in-Ok.ensures.checked
    c.all_reach.ensures
