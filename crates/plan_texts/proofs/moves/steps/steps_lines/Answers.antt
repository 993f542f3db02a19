use Rattle.std.proofs.Common.{◌≡◌, ◌+◌, ◌<◌, ◌++◌, ◌∙◌, length, string_bytes, take, arith, rules}
use Rattle.plan_texts.{specs.MoveSteps.{change_text, steps_text}, proofs.StepLines.{one_step_more}}
use Rattle.plan_texts.proofs.moves.steps.steps_lines.Goals as goal

pub loop-index-preserved : goal.loop-index-preserved
loop-index-preserved c =
    let plan = c.args.before.now in
    let steps = c.args.steps.now in
    let k = c.loop-index.index in
    let step = c.index-steps-index.result in
    let within : k < length steps = omega arith in
    let pushed : string_bytes c.push_str.new.self ≡ steps_text plan 1 (take k steps) ++ change_text plan (k + 1) step.change = search rules in
    pushed ∙ one_step_more plan steps k step within c.index-steps-index.is
