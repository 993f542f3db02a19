use Rattle.std.proofs.Common.{◌∙◌, string_bytes}
use Rattle.net_questions.specs.declared.step.WayStep.{WayStep}
use Rattle.question_texts.proofs.Traced.{one_step_more}
use Rattle.question_texts.proofs.ways.steps_lines.Goals as goal

pub loop-index-preserved : goal.loop-index-preserved
loop-index-preserved c =
    let none : WayStep = record { node = 0; hop = record { port = 0; next = 0 } } in
    c.in_ok-push_str.ensures.bytes
    ∙ one_step_more c.args.plan.now c.args.steps.now c.loop-index.index none (string_bytes c.loop-index.lines) c.deref.result.now c.loop-index-test.true
    c.loop-index.invariant (c.deref.ensures ∙ c.in_ok-step_line.ensures)
