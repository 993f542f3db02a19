use Rattle.std.proofs.Common.{inl, refl}
use Rattle.play_commands.proofs.Scripted.{no_events}
use Rattle.play_commands.proofs.script.judging.judge.Goals as goal

pub returns-in-Err-clause-judged : goal.returns-in-Err-clause-judged
returns-in-Err-clause-judged c =
    inl (
      refl,
      no_events c.args.checked.0 c.plan.result.now c.args.text.now c.as_bytes.result.now c.in-Err.error c.plan.ensures.plan c.as_bytes.ensures.value (c.is_refusal.ensures.0 c.if-is_refusal.true) c.in-Err.ensures.refused,
    )
