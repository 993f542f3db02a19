use Rattle.std.{proofs.Common.{inl, inr}, proofs.lemmas.Result.{IfOk-weaker}}
use Rattle.plan_differences.proofs.told.of_certified.Goals as goal

pub returns-in-Ok : goal.returns-in-Ok
returns-in-Ok c = IfOk-weaker c.of_both.result _ _ (λ text told. inl ((c.args.old.now, c.requires), (c.in-Ok.new, c.in-Ok.ensures.accepted), told)) c.of_both.ensures

pub returns-in-Err : goal.returns-in-Err
returns-in-Err c = IfOk-weaker c.ruled_out.result _ _ (λ text out. inr (inl ((c.args.old.now, c.requires), out))) c.ruled_out.ensures
