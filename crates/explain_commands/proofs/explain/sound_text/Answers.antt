use Rattle.std.proofs.Common.{◌++◌, ◌∙◌, ap}
use Rattle.command_answers.specs.Statuses.{yes_line}
use Rattle.explain_commands.proofs.explain.sound_text.Goals as goal

pub returns : goal.returns
returns c = (
  c.most_hops.result,
  c.in_ok-push_str.ensures.bytes ∙ (ap (λ z. z ++ c.deref.result.now) c.in_ok-text.ensures.ok ∙ ap (λ z. yes_line ++ z) (c.deref.ensures ∙ c.in_ok-summary_lines.ensures)),
)
