-- What the end of `fix` says of both outputs.
use Rattle.std.{proofs.Common.{◌≢◌, ℕ, List, string_bytes, inl, inr, refl, sym, subst}, specs.Io.KnownBytes.{Appends}}
use Rattle.plan_values.specs.declared.plan.Plan.{Plan}
use Rattle.command_answers.{specs.declared.status.Status.{Status}, specs.Answers.{Stream}, specs.UnreadTexts.{IsUnreadText}}
use Rattle.explain_commands.specs.Fixing.{AreBothTold, EndsFixed, EndsIn, FixesSo, IsMended}
use Rattle.plan_fixes.{specs.Fixes.{AreFixes, IsDraftOf, IsTextOf}, specs.declared.fixing.Draft.{Draft}}
use Rattle.command_answers.specs.declared.status.Status.TheVariants as status

-- what is printed, where edits led so far
pub mended_so : (text : List ℕ) (plan : Plan) (draft : Draft) (ended : Status) (printed : List ℕ) → IsDraftOf text plan draft
    → EndsIn draft.text.items draft.plan ended printed → IsMended text plan ended printed (string_bytes draft.lines)
mended_so text plan draft status.Yes printed led (same, (certificate, accepted)) = record {
  after = draft.plan;
  edits = subst (λ (t : List ℕ). AreFixes text plan (string_bytes draft.lines) t draft.plan) (sym same) led.edits;
  reads = subst (λ (t : List ℕ). IsTextOf t draft.plan) (sym same) led.reads;
  certificate = certificate;
  accepted = accepted;
}
mended_so text plan draft status.Fault printed led (obstacle, out) = record {
  fixed = draft.text.items;
  after = draft.plan;
  edits = led.edits;
  obstacle = obstacle;
  ruled_out = out;
}
mended_so text plan draft status.Unreadable printed led ends = absurd ends
mended_so text plan draft status.NoMemory printed led ends = absurd ends

module _ (plans : Stream) (printed lines : List ℕ) where
  -- no answer on a plan is that of one that can't be read
  unread_of : FixesSo plans status.Unreadable printed lines → IsUnreadText plans printed
  unread_of (inl (text, plan, given, none)) = absurd none
  unread_of (inr (is, unread)) = unread

  module _ (due ended : Status) (some : due ≢ status.NoMemory) (output errors : Stream) (fixes : FixesSo plans due printed lines) where
    -- where both were told
    given : (s : Status) → s ≢ status.NoMemory → FixesSo plans s printed lines → Appends output.before.bytes output.after.bytes printed → Appends errors.before.bytes errors.after.bytes lines
        → EndsFixed plans s output errors
    given status.Yes some fixes written told = (printed, lines, fixes, written, told)
    given status.Fault some fixes written told = (printed, lines, fixes, written, told)
    given status.Unreadable some fixes written told = inl (printed, unread_of fixes, written)
    given status.NoMemory some fixes written told = absurd (some refl)

    pub both_end : AreBothTold due printed lines ended output errors → EndsFixed plans ended output errors
    both_end (inl (written, inl (unread, is))) =
        subst (λ s. EndsFixed plans s output errors) (sym is) (inl (printed, unread_of (subst (λ s. FixesSo plans s printed lines) unread fixes), written))
    both_end (inl (written, inr (inl (is, told)))) = subst (λ s. EndsFixed plans s output errors) (sym is) (given due some fixes written told)
    both_end (inl (written, inr (inr (is, fails, part)))) =
        subst (λ s. EndsFixed plans s output errors) (sym is) (inr (inr (due, printed, lines, fixes, written, fails, part)))
    both_end (inr (is, fails, part, line)) =
        subst (λ s. EndsFixed plans s output errors) (sym is) (inr (inl (record { text = printed; answer = (due, lines, fixes); fails = fails; beginning = part }, line)))
