use Rattle.std.proofs.lemmas.Result.{IfOk-weaker}
use Rattle.board_kept.proofs.whole.is_whole.Goals as goal

pub returns-in-Ok : goal.returns-in-Ok
returns-in-Ok c = IfOk-weaker c.do_all_reach.result _ _
    (λ answer reach. (λ yes. record { certificate = c.in-Ok.certificate; accepted = c.in-Ok.ensures.accepted; reaches = reach.0 yes }, λ whole. reach.1 whole.reaches))
    c.do_all_reach.ensures
