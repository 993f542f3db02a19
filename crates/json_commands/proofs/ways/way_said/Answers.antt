use Rattle.std.{proofs.Common.{List, refl, subst}, specs.Prelude.{codes}}
use Rattle.serde_json.{specs.Data.{Data}, specs.View.{view}}
use Rattle.net_questions.specs.declared.step.WayStep.{WayStep}
use Rattle.json_commands.{specs.Values.{IsListTold}, specs.Ways.{IsFound, IsStepTold}}
use Rattle.command_questions.specs.declared.form.Form.TheVariants.{Json}
use Rattle.json_commands.proofs.ways.way_said.Goals as goal

pub returns : goal.returns
returns c =
    let steps = view c.in_ok-steps.steps in
    let text = c.args.given.now.text.items in
    let Are : List WayStep → Type 0 = λ xs. IsListTold (IsStepTold Json c.args.name.now text c.args.plan.now c.args.eid) xs steps in
    let Has : Data → Type 0 = λ way. IsFound (codes "way") way (view c.in_ok-value.value) in
    (refl, (steps, subst Are c.as_slice.ensures.value c.in_ok-steps.ensures, subst Has c.in_ok-told.ensures c.in_ok-value.ensures))
