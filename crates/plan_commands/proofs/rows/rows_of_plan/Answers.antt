use Rattle.std.{proofs.Common.{◌≡◌, ◌∙◌, string_bytes, subst, sym}, specs.Cow.{cow_str_bytes}}
use Rattle.board_kept.specs.Rowed.{IsWhole}
use Rattle.board_made.{specs.Reasons.{IsRowsReason}, specs.Rowed.{IsRowsAnswer, IsRowedText, IsText}}
use Rattle.plan_commands.specs.Making.{IsRowed}
use Rattle.plan_commands.proofs.rows.rows_of_plan.Goals as goal

pub returns-in-Made : goal.returns-in-Made
returns-in-Made c =
    let given = c.args.given.now in
    let text = cow_str_bytes c.found.result.text in
    let made : IsRowedText given.plan (string_bytes c.in-Made.text) = subst (IsRowsAnswer given.plan) c.in-Made.is c.in_ok-text.ensures.answer in
    let told : IsRowedText given.plan text = subst (IsRowedText given.plan) (sym c.found.ensures.text) made in
    let same : IsWhole given.plan → string_bytes c.in-Made.text ≡ c.as_slice.result.now = λ whole. subst (IsText c.as_slice.result.now) c.in-Made.is (c.in_ok-text.ensures.whole whole) in
    let itself : IsWhole given.plan → text ≡ given.text.items = λ whole. c.found.ensures.text ∙ (same whole ∙ c.as_slice.ensures.value) in
    subst (λ s. IsRowed given.text.items given.plan s text) (sym c.found.ensures.status) (told, itself)

pub returns-in-NoPlan : goal.returns-in-NoPlan
returns-in-NoPlan c =
    let given = c.args.given.now in
    let text = cow_str_bytes c.fault.result.text in
    let reason : IsRowsReason given.plan (string_bytes c.in-NoPlan.reason) = subst (IsRowsAnswer given.plan) c.in-NoPlan.is c.in_ok-text.ensures.answer in
    let told : IsRowsReason given.plan text = subst (IsRowsReason given.plan) (sym c.fault.ensures.text) reason in
    let needs : ¬ IsWhole given.plan = λ whole. subst (IsText c.as_slice.result.now) c.in-NoPlan.is (c.in_ok-text.ensures.whole whole) in
    subst (λ s. IsRowed given.text.items given.plan s text) (sym c.fault.ensures.status) (told, needs)
