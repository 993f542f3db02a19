use Rattle.std.proofs.Common.{List, subst}
use Rattle.serde_json.specs.View.{view}
use Rattle.net_explained.specs.declared.trial.Tried.{Tried}
use Rattle.json_commands.{specs.Edits.{IsEditTold}, specs.Values.{IsListTold}}
use Rattle.json_commands.proofs.explained.edits_of.Goals as goal

pub returns : goal.returns
returns c =
    let told = c.in_ok-edits_value in
    let Are : List Tried → Type 0 = λ edits. IsListTold (IsEditTold c.args.given.now.plan) edits (view told.field-0) in
    (c.in_ok-edits.edits.items, c.in_ok-edits.ensures.all, c.in_ok-edits.ensures.few, subst Are c.as_slice-2.ensures.value told.ensures)
