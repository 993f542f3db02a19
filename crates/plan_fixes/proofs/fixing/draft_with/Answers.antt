use Rattle.std.proofs.Common.{◌≡◌, ◌++◌, ℕ, List, Some, string_bytes, subst, rules}
use Rattle.net_explained.{specs.Edits.{IsEdited}, proofs.SamePlan.{same_plan}}
use Rattle.plan_values.specs.PlanValues.{PlanValue, plan_value}
use Rattle.plan_fixes.{specs.Fixes.{IsAsEdited, IsTextOf}, specs.Splices.{IsSpliced}}
use Rattle.explanation_texts.specs.EditLines.{edit_text}
use Rattle.plan_fixes.proofs.fixing.draft_with.Goals as goal

pub returns : goal.returns
returns c =
    let draft = c.args.draft.now in
    let edit = c.args.edit.now in
    let plan = c.in-Some-2.plan in
    let made : IsSpliced c.as_slice.result.now edit c.in-Some.text.items = rw c.in-Some.is at c.in_ok-text.ensures in
    let read : IsAsEdited c.as_slice-2.result.now c.as_slice-3.result.now edit plan = rw c.in-Some-2.is at c.in_ok-plan.ensures in
    let was_read : IsTextOf draft.text.items read.last = subst (λ (t : List ℕ). IsTextOf t read.last) c.as_slice-2.ensures.value read.was_read in
    let same : plan_value read.last ≡ plan_value draft.plan = same_plan draft.text.items (plan_value read.last) (plan_value draft.plan) was_read c.requires in
    let told : string_bytes c.push_str.new.self ≡ string_bytes draft.lines ++ edit_text draft.plan edit = search rules in
    record {
      edited = subst (λ (v : PlanValue). IsEdited v edit (plan_value plan)) same read.edited;
      spliced = subst (λ (t : List ℕ). IsSpliced t edit c.in-Some.text.items) c.as_slice.ensures.value made;
      reads = subst (λ (t : List ℕ). IsTextOf t plan) c.as_slice-3.ensures.value read.reads;
      told = told;
    }
