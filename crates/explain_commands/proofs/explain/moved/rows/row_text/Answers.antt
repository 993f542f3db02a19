use Rattle.std.{proofs.Common.{◌∙◌, List, string_bytes, ap, subst}, specs.Prelude.{map}}
use Rattle.net_plan.specs.Finding.{Step, step_value}
use Rattle.fault_texts.specs.Places.{IsPlaceTold}
use Rattle.explain_commands.{specs.MoveRows.{file_of}, proofs.MovedTexts.{row_told}}
use Rattle.explain_commands.proofs.explain.moved.rows.row_text.Goals as goal

pub returns : goal.returns
returns c =
    let file = file_of c.args.name.now c.args.given.now in
    let place = string_bytes c.in_ok-place.place in
    let placed = subst (λ (steps : List Step). IsPlaceTold file.name file.text steps place) (ap (map step_value) c.deref.ensures.value ∙ c.in_ok-pointer.ensures) c.in_ok-place.ensures in
    row_told string_bytes file c.args.node c.args.index place (string_bytes c.in_ok-line.line) c.format.result placed c.format.ensures.ok
