-- How a run of `verify` ends.
use Rattle.std.{proofs.Common.{◌∙◌, List, inl, inr, refl, sym, subst}, specs.Prelude.{IfOk, IfErr, OnErr, Result, Ok, Err}, specs.Cow.{cow_str_bytes}, specs.declared.alloc.AllocError.{AllocError}, specs.Io.KnownBytes.{Appends}}
use Rattle.net_plan.specs.Stream.{AppendsBeginning}
use Rattle.command_answers.{specs.declared.answer.Answer.{Answer}, specs.declared.status.Status.{Status}, specs.Answers.{Stream, Refuses}, specs.Told.{IsTold}, proofs.Told.{of_memory}}
use Rattle.verify_commands.{specs.declared.parts.Judged.{Judged}, specs.Reports.{report_text}, specs.Verifying.{EndsVerifying, IsReport}}
use Rattle.command_answers.specs.declared.refused.Refused.TheVariants as refused

module _ (IsSo : List Judged → Type 0) (unread untouched : Type 0) (ended : Status) (output errors : Stream) where
  pub memory_ends : Refuses refused.NoMemory ended errors → untouched → EndsVerifying IsSo unread untouched ended output
  memory_ends refuses same = subst (λ s. EndsVerifying IsSo unread untouched s output) (sym (of_memory refused.NoMemory ended errors refl refuses).0) same

  pub told_ends : (told : List Judged) (answered : Result Answer AllocError) → IsSo told → IfOk answered (IsReport told)
      → IfOk answered (λ (a : Answer). IsTold a.status (cow_str_bytes a.text) ended output errors) → IfErr answered (λ _. Refuses refused.NoMemory ended errors)
      → OnErr answered untouched → EndsVerifying IsSo unread untouched ended output
  told_ends told (Ok a) so (text, inl (good, none)) (inl (is, written)) refuses same =
      subst (λ s. EndsVerifying IsSo unread untouched s output) (sym (is ∙ good))
      (told, so, none, subst (Appends output.before.bytes output.after.bytes) text written)
  told_ends told (Ok a) so (text, inr (bad, some)) (inl (is, written)) refuses same =
      subst (λ s. EndsVerifying IsSo unread untouched s output) (sym (is ∙ bad))
      (told, so, some, subst (Appends output.before.bytes output.after.bytes) text written)
  told_ends told (Ok a) so (text, either) (inr (is, fails, part, line)) refuses same =
      subst (λ s. EndsVerifying IsSo unread untouched s output) (sym is)
      (inr (record {
        text = report_text told;
        answer = (told, so, refl);
        fails = fails;
        beginning = subst (AppendsBeginning output.before.bytes output.after.bytes) text part;
      }))
  told_ends told (Err e) so report said refuses same = memory_ends refuses same
