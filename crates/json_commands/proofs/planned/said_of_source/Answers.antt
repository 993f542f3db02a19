use Rattle.std.proofs.Common.{inl, inr, subst}
use Rattle.serde_json.specs.View.{view}
use Rattle.command_questions.specs.declared.form.Form.{Form}
use Rattle.json_commands.specs.Unread.{IsUnreadSaid}
use Rattle.json_commands.proofs.planned.said_of_source.Goals as goal

pub returns-in_ok-said_of_plan-in-Ok : goal.returns-in_ok-said_of_plan-in-Ok
returns-in_ok-said_of_plan-in-Ok g c =
    let given = c.in-Ok.given in
    inl (given.text.items, given.plan, c.in-Ok.ensures.given, c.in_ok-said_of_plan-in-Ok.ensures)

pub returns-in_ok-unread_input-in-Err : goal.returns-in_ok-unread_input-in-Err
returns-in_ok-unread_input-in-Err g c =
    let told = c.in_ok-unread_input-in-Err in
    let Says : Form → Type 0 = λ f. IsUnreadSaid f c.args.name.now c.in-Err.unread (view told.field-0.value) in
    inr (c.in-Err.unread, c.in-Err.ensures.unread, told.ensures.0, subst Says c.form_and_command-form.ensures told.ensures.1)
