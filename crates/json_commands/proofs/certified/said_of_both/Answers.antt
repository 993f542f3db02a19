use Rattle.std.proofs.Common.{rules, inl, inr, sym, ap, subst}
use Rattle.serde_json.specs.View.{view}
use Rattle.plan_values.{specs.declared.certificate.Certificate.{Certificate}, specs.declared.plan.Plan.{Plan}}
use Rattle.command_questions.specs.declared.form.Form.{Form}
use Rattle.json_commands.{specs.Certified.{AreCheckedSaid, IsNamedIn}, specs.Unread.{IsUnknownSaid}}
use Rattle.json_commands.proofs.certified.said_of_both.Goals as goal

pub said_of_checked-requires : goal.said_of_checked-requires
said_of_checked-requires c =
    subst (λ (p : Plan). IsNamedIn c.args.asked.now p) (sym (ap (λ r. r.0) c.in-Ok.ensures.checked)) (c.is_named_in.ensures.yes (search rules))

pub returns-in_ok-said_of_checked-in-Ok : goal.returns-in_ok-said_of_checked-in-Ok
returns-in_ok-said_of_checked-in-Ok c =
    let told = c.in_ok-said_of_checked-in-Ok in
    let Said : Plan × Certificate → Type 0 = λ p. AreCheckedSaid c.args.asked.now c.args.name.now c.args.given.now.text.items p.0 p.1 (view told.field-0.value) in
    inl (told.ensures.0, c.in-Ok.ensures.accepted, subst Said c.in-Ok.ensures.checked told.ensures.1)

pub returns-in_ok-said_of_error-in-Err : goal.returns-in_ok-said_of_error-in-Err
returns-in_ok-said_of_error-in-Err c =
    let told = c.in_ok-said_of_error-in-Err in
    inr (inl (told.ensures.0, c.is_named_in.ensures.yes (search rules), told.ensures.1))

pub returns-then-not-is_named_in : goal.returns-then-not-is_named_in
returns-then-not-is_named_in c =
    let told = c.in_ok-unknown_name in
    let Says : Form → Type 0 = λ f. IsUnknownSaid f c.args.name.now (view told.field-0.value) in
    inr (inr (told.ensures.0, c.is_named_in.ensures.no (search rules), subst Says c.form_and_command-form.ensures told.ensures.1))
