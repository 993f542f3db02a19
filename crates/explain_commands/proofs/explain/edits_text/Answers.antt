use Rattle.std.proofs.Common.{◌∙◌, ap}
use Rattle.explanation_texts.specs.EditLines.{edits_text}
use Rattle.explain_commands.proofs.explain.edits_text.Goals as goal

pub returns : goal.returns
returns c = (
  c.in_ok-edits.edits.items,
  c.in_ok-edits.ensures.all,
  c.in_ok-edits.ensures.few,
  c.in_ok-edit_lines.ensures ∙ ap (edits_text c.args.given.now.plan) c.as_slice-2.ensures.value,
)
