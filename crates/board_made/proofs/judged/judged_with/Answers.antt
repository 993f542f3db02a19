use Rattle.board_made.specs.Made.{IsFitText}
use Rattle.board_made.proofs.judged.judged_with.Goals as goal

pub returns-in-None : goal.returns-in-None
returns-in-None c =
    let fit : IsFitText _ _ _ _ = record {
      plan = c.args.plan;
      certificate = c.args.certificate.now;
      reads = c.requires.reads;
      written = c.in_ok-certified.ensures;
      fit = c.in_ok-reason.ensures.fit c.in-None.is;
    } in
    (fit, c.requires.reads)
