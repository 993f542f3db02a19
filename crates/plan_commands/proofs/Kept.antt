-- What is answered of a plan that was made.
use Rattle.std.{proofs.Common.{◌≡◌, ◌∙◌, ℕ, List, Option, Result, Ok, Err, inl, inr, sym, subst}, specs.Prelude.{IfOk, OnOk, string_bytes}, specs.Cow.{cow_str_bytes}}
use Rattle.net_plan.{specs.Texts.{Gave}, specs.Limits.{most_text_bytes}}
use Rattle.plan_values.specs.declared.plan.Plan.{Plan}
use Rattle.step_files.specs.Writes.{Writes, WritesAll}
use Rattle.board_made.{specs.declared.answer.BoardAnswer.{BoardAnswer}, specs.declared.answer.BoardAnswer.TheVariants.{Made}, specs.declared.answer.MadePlan.{MadePlan}, specs.Made.{ReadsBack}}
use Rattle.command_questions.specs.declared.make_files.MakeFiles.{MakeFiles}
use Rattle.command_answers.{specs.declared.refused.Refused.{Refused}, specs.declared.status.Status.{Status}, specs.Answers.{Stream}, specs.Told.{IsTold}}
use Rattle.plan_commands.{specs.Making.{IsMadeBy, IsAnswerOf, MakesSo, Makes}, specs.Keeping.{IsAnsweredOn, IsAnsweredSo, IsKept, IsKeptSo, IsNoteSaid, made_files, notes_of, printed_of}, specs.declared.keeping.Kept.{Kept}}
use Rattle.command_answers.specs.declared.status.Status.TheVariants as status

-- where a plan was made, the source gave a board of which it was
pub made_of : (Holds : List ℕ → List ℕ → Type 0) (boards : Stream) (answer : BoardAnswer) (made : MadePlan) → answer ≡ Made made → IsAnswerOf Holds boards answer
    → Gave most_text_bytes boards.before.bytes boards.after.bytes (λ bytes. IsMadeBy Holds bytes (string_bytes made.plan) (string_bytes made.certificate) × ReadsBack made)
made_of Holds boards answer made is answered = elim (subst (IsAnswerOf Holds boards) is answered) [
  | inl gave ↦ gave
  | inr none ↦ absurd none
]

pub makes_so : (Holds : List ℕ → List ℕ → Type 0) (boards : Stream) (answer : BoardAnswer) (made : MadePlan) (ended : Status) (text : List ℕ) → answer ≡ Made made
    → IsAnswerOf Holds boards answer → ended ≡ status.Yes → text ≡ string_bytes made.plan → MakesSo Holds boards ended text
makes_so Holds boards answer made ended text is answered is_yes same =
    let gave = made_of Holds boards answer made is answered in
    let bytes = gave.0 in
    let certified = string_bytes made.certificate in
    inl (bytes, gave.1, gave.2, gave.3, subst (λ s. Makes Holds bytes s text) (sym is_yes) (certified, subst (λ t. IsMadeBy Holds bytes t certified) (sym same) gave.4.0))

module _ (wanted : MakeFiles) (old : Option Plan) (Holds : List ℕ → List ℕ → Type 0) (boards : Stream) (written : Writes) where
  pub kept_so : (answer : BoardAnswer) (made : MadePlan) (r : Result Kept Refused) → answer ≡ Made made → IsAnswerOf Holds boards answer
      → IfOk r (λ kept. kept.answer.status ≡ status.Yes)
      → IfOk r (λ kept. cow_str_bytes kept.answer.text ≡ printed_of wanted.plan old made.value (string_bytes made.plan))
      → IfOk r (λ kept. string_bytes kept.notes ≡ notes_of wanted.plan old made.value)
      → OnOk r (WritesAll written (made_files wanted (string_bytes made.plan) (string_bytes made.certificate)))
      → IfOk r (λ kept. IsAnsweredSo wanted old Holds boards written kept.answer.status (cow_str_bytes kept.answer.text) (string_bytes kept.notes))
  kept_so answer made (Ok kept) is answered is_yes printed noted wrote =
      let gave = made_of Holds boards answer made is answered in
      let bytes = gave.0 in
      let text = cow_str_bytes kept.answer.text in
      let notes = string_bytes kept.notes in
      let all : IsKept wanted old Holds written bytes text notes = record {
        plan_text = string_bytes made.plan;
        certified = string_bytes made.certificate;
        plan = made.value;
        made = gave.4.0;
        reads = gave.4.1;
        wrote = wrote;
        printed = printed;
        noted = noted;
      } in
      inl (bytes, gave.1, gave.2, gave.3, subst (λ s. IsAnsweredOn wanted old Holds written bytes s text notes) (sym is_yes) all)
  kept_so answer made (Err why) is answered is_yes printed noted wrote = tt

  pub kept_told : (due ended : Status) (text notes : List ℕ) (output errors : Stream) → IsTold due text ended output errors → ended ≡ status.Yes
      → IsAnsweredSo wanted old Holds boards written due text notes → IsNoteSaid errors notes → IsKeptSo wanted old Holds boards written output errors
  kept_told due ended text notes output errors (inl (is, given)) is_yes answered said =
      elim (subst (λ s. IsAnsweredSo wanted old Holds boards written s text notes) (sym is ∙ is_yes) answered) [
        | inl gave ↦ (text, notes, gave, given, said)
        | inr (unread, none) ↦ absurd (cc)
      ]
  kept_told due ended text notes output errors (inr (is, fails, part, line)) is_yes answered said = absurd (cc)
