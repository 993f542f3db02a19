-- How a run ends that writes files.
use Rattle.std.{proofs.Common.{◌≡◌, ◌⊎◌, ◌++◌, ℕ, List, Result, Ok, Err, ap, sym, ◌∙◌, subst, inl, inr}, specs.Prelude.{IfOk, IfErr, codes}, specs.Cow.{cow_str_bytes}}
use Rattle.command_answers.{specs.declared.answer.Answer.{Answer}, specs.declared.refused.Refused.{Refused}, specs.declared.status.Status.{Status}, specs.Answers.{Stream, GavePlan, IsPlanUnread, Refuses}, specs.Statuses.{status_of, IsReportedFor}, specs.Told.{IsTold}}
use Rattle.plan_values.specs.declared.plan.Plan.{Plan}
use Rattle.net_rollout.specs.declared.change.Rollout.{Rollout}
use Rattle.step_files.{specs.StepFiles.{AreFilesOf, FileValue}, specs.Writes.{Writes, WritesAll, WritesFirst}}
use Rattle.rollout_commands.{specs.Rollouts.{IsRolledOut}, specs.Writing.{IsNoFilesReason, IsNothingWritten, IsRolledOutInto, IsUnanswered, IsWithoutFiles, RollsOutWith, RollsOutWithSo}}
use Rattle.command_answers.specs.declared.refused.Refused.TheVariants as refused
use Rattle.command_answers.specs.declared.status.Status.TheVariants as status

fault_or_memory : (s : Status) → (s ≡ status.Fault) ⊎ (s ≡ status.NoMemory) → s ≡ status.Unreadable → ⊥
fault_or_memory s (inl is) un = let no : status.Fault ≡ status.Unreadable = sym is ∙ un in cc
fault_or_memory s (inr is) un = let no : status.NoMemory ≡ status.Unreadable = sym is ∙ un in cc

unwritten_ends : (why : Refused) (ended : Status) (errors : Stream) → why ≡ refused.Unwritten → Refuses why ended errors → ended ≡ status.Unreadable
unwritten_ends why ended errors is refuses =
    let reported : refuses.reported ≡ refused.Unwritten = subst (λ w. IsReportedFor w refuses.reported) is refuses.for_it in
    refuses.ends ∙ ap status_of reported

-- where a run ends with a fault or for want of memory, what holds where nothing is written
pub kept_so : (Same : Type 0) (ended : Status) (output errors : Stream) (answered : Result Answer Refused)
    → IfOk answered (λ (a : Answer). a.status ≡ status.Fault → Same) → IfErr answered (λ why. (why ≡ refused.Unwritten) ⊎ Same)
    → IfOk answered (λ (a : Answer). IsTold a.status (cow_str_bytes a.text) ended output errors)
    → IfErr answered (λ why. Refuses why ended errors) → (ended ≡ status.Fault) ⊎ (ended ≡ status.NoMemory) → Same
kept_so Same ended output errors (Ok a) kept none (inl (is, written)) refuses (inl fault) = kept (sym is ∙ fault)
kept_so Same ended output errors (Ok a) kept none (inl (is, written)) refuses (inr memory) = absurd (a.memory (sym is ∙ memory))
kept_so Same ended output errors (Ok a) kept none (inr (is, fails, part, line)) refuses ends = absurd (fault_or_memory ended ends is)
kept_so Same ended output errors (Err why) kept (inr same) told refuses ends = same
kept_so Same ended output errors (Err why) kept (inl is) told refuses ends = absurd (fault_or_memory ended ends (unwritten_ends why ended errors is refuses))

-- ---- answers on plans that were given

-- why there is none
pub none_so : {T : Type 0} (folder : List ℕ) (befores afters : Stream) (written : Writes) (before after : Plan) (answered : Result T Refused)
    → GavePlan befores before → GavePlan afters after → IfErr answered (λ why. IsUnanswered folder written before after why)
    → IfErr answered (λ why. IsWithoutFiles folder befores afters written why)
none_so folder befores afters written before after (Ok a) first second none = tt
none_so folder befores afters written before after (Err why) first second (inl memory) =
    inl (inl (subst (λ w. IsPlanUnread w befores) (sym memory) tt))
none_so folder befores afters written before after (Err why) first second (inr (is, breaks)) =
    inr (is, (before, after, first, second, breaks))

-- what is told
pub told_so : (folder : List ℕ) (befores afters : Stream) (written : Writes) (before after : Plan) (answered : Result Answer Refused)
    → GavePlan befores before → GavePlan afters after → IfOk answered (λ (a : Answer). RollsOutWith folder written before after a.status (cow_str_bytes a.text))
    → IfOk answered (λ (a : Answer). RollsOutWithSo folder befores afters written a.status (cow_str_bytes a.text))
told_so folder befores afters written before after (Ok a) first second told = (before, after, first, second, told)
told_so folder befores afters written before after (Err why) first second told = tt

-- ---- lines

pub reason_worded : {A E : Type 0} (bytes : A → List ℕ) (words : List ℕ) (r : Result A E) → IfOk r (λ t. bytes t ≡ codes "no files: no " ++ (words ++ codes "\n"))
    → IfOk r (λ t. IsNoFilesReason (bytes t))
reason_worded bytes words (Ok t) written = (words, written)
reason_worded bytes words (Err e) written = tt

-- ---- answers on two plans

module _ (folder : List ℕ) (written : Writes) (before after : Plan) where
  -- steps, whose files were written
  pub steps_told : (lines : List ℕ) (files : List FileValue) (a : Answer) → IsRolledOutInto folder before after lines files → a.status ≡ status.Yes
      → cow_str_bytes a.text ≡ lines → WritesAll written files → RollsOutWith folder written before after a.status (cow_str_bytes a.text)
  steps_told lines files a steps is told all =
      let T : List ℕ → Type 0 = λ t. IsRolledOutInto folder before after t files in
      let S : Status → Type 0 = λ s. RollsOutWith folder written before after s (cow_str_bytes a.text) in
      subst S (sym is) (files, subst T (sym told) steps, all)

  -- why nothing was written
  pub nothing_told : (line : List ℕ) (a : Answer) → IsNothingWritten before after line → a.status ≡ status.Fault → cow_str_bytes a.text ≡ line
      → RollsOutWith folder written before after a.status (cow_str_bytes a.text)
  nothing_told line a nothing is told =
      let S : Status → Type 0 = λ s. RollsOutWith folder written before after s (cow_str_bytes a.text) in
      subst S (sym is) (subst (IsNothingWritten before after) (sym told) nothing)

  -- a file that could not be written
  pub broken_off : (lines : List ℕ) (files : List FileValue) (why : Refused) → IsRolledOutInto folder before after lines files → why ≡ refused.Unwritten
      → WritesFirst written files → IsUnanswered folder written before after why
  broken_off lines files why steps is first = inr (is, record { text = lines; files = files; steps = steps; first = first })

-- steps with their files
pub rolled_out_into : (folder : List ℕ) (before after : Plan) (found : Rollout) (lines : List ℕ) (files : List FileValue) → IsRolledOut before after found status.Yes lines
    → AreFilesOf folder before after found files → IsRolledOutInto folder before after lines files
rolled_out_into folder before after found lines files told made = record { found = found; told = told; made = made }
