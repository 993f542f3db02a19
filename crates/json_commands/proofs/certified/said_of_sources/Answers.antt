use Rattle.std.proofs.Common.{List, ℕ, inl, inr, subst}
use Rattle.serde_json.specs.View.{view}
use Rattle.plan_values.specs.declared.plan.Plan.{Plan}
use Rattle.command_questions.specs.declared.form.Form.{Form}
use Rattle.command_answers.{specs.Answers.{Stream, stream, GavePlanText, IsWithoutPlan}, proofs.GivenTexts.{gave_plan}}
use Rattle.json_commands.specs.Unread.{IsUnreadSaid}
use Rattle.json_commands.proofs.certified.said_of_sources.Goals as goal

plan_given : {T : Type 0} (plans : Stream) (text : List ℕ) (p : Plan) → GavePlanText plans text p → IsWithoutPlan plans → T
plan_given plans text p given without = absurd (without p (gave_plan plans text p given))

pub returns-in_err-said_of_both-in-Ok-certificate_or_text-clause-in_order : goal.returns-in_err-said_of_both-in-Ok-certificate_or_text-clause-in_order
returns-in_err-said_of_both-in-Ok-certificate_or_text-clause-in_order g c =
    plan_given (stream g.P.Source.account c.args.plan.now c.plan_or_text.new.plan) c.in-Ok.given.text.items c.in-Ok.given.plan c.in-Ok.ensures.given

pub returns-in-Ok-certificate_or_text-clause-says : goal.returns-in-Ok-certificate_or_text-clause-says
returns-in-Ok-certificate_or_text-clause-says g c =
    let given = c.in-Ok.given in
    let read = c.in-Ok-certificate_or_text in
    inl (given.text.items, given.plan, c.in-Ok.ensures.given, inl (read.certificate, read.ensures.given, c.in_ok-said_of_both-in-Ok-certificate_or_text.ensures))

pub returns-in-Ok-certificate_or_text-clause-in_order : goal.returns-in-Ok-certificate_or_text-clause-in_order
returns-in-Ok-certificate_or_text-clause-in_order g c =
    plan_given (stream g.P.Source.account c.args.plan.now c.plan_or_text.new.plan) c.in-Ok.given.text.items c.in-Ok.given.plan c.in-Ok.ensures.given

pub returns-in_err-unread_input-in-Err-certificate_or_text-clause-in_order : goal.returns-in_err-unread_input-in-Err-certificate_or_text-clause-in_order
returns-in_err-unread_input-in-Err-certificate_or_text-clause-in_order g c =
    plan_given (stream g.P.Source.account c.args.plan.now c.plan_or_text.new.plan) c.in-Ok.given.text.items c.in-Ok.given.plan c.in-Ok.ensures.given

pub returns-in-Ok-clause-says : goal.returns-in-Ok-clause-says
returns-in-Ok-clause-says g c =
    let given = c.in-Ok.given in
    let none = c.in-Err-certificate_or_text in
    let told = c.in_ok-unread_input-in-Err-certificate_or_text in
    let Says : Form → Type 0 = λ f. IsUnreadSaid f c.args.certified_by.now none.unread (view told.field-0.value) in
    inl (given.text.items, given.plan, c.in-Ok.ensures.given, inr (none.unread, none.ensures.unread, told.ensures.0, subst Says c.form_and_command-form.ensures told.ensures.1))

pub returns-in-Ok-clause-in_order : goal.returns-in-Ok-clause-in_order
returns-in-Ok-clause-in_order g c =
    plan_given (stream g.P.Source.account c.args.plan.now c.plan_or_text.new.plan) c.in-Ok.given.text.items c.in-Ok.given.plan c.in-Ok.ensures.given
