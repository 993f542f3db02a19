use Rattle.std.proofs.Common.{◌∙◌, ap}
use Rattle.plan_texts.specs.LineParts.{bus_text}
use Rattle.question_texts.proofs.ways.bus_name_of_step.Goals as goal

pub returns : goal.returns
returns c = c.bus_text.ensures ∙ ap (bus_text c.args.plan.now) c.bus_of_step.ensures
