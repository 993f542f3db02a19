use Rattle.std.proofs.Common.{subst}
use Rattle.serde_json.{specs.Data.{Data}, specs.View.{view}}
use Rattle.json_commands.specs.Explained.{IsExplained}
use Rattle.command_answers.specs.declared.status.Status.TheVariants as status
use Rattle.json_commands.proofs.explained.certificate_told.Goals as goal

pub returns : goal.returns
returns c =
    let told = c.in_ok-said_of in
    let results = view c.in_ok-results.results in
    let alone = c.in_ok-alone.alone in
    let Has : Data → Type 0 = λ edits. IsExplained status.Fault results edits (view told.field-0.value) in
    (told.ensures.0, (results, view alone.value, alone.status, c.in_ok-results.ensures, c.in_ok-alone.ensures, subst Has c.empty_list-edits.ensures told.ensures.1, told.ensures.2))
