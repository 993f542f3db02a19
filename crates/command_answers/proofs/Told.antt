-- What the end of a run tells of an answer.
use Rattle.std.{proofs.Common.{◌≡◌, ◌≢◌, ◌⊎◌, ℕ, List, Result, Ok, Err, inl, inr, refl, sym, ◌∙◌, ap, subst}, specs.Prelude.{IfOk, IfErr, OnErr}, specs.Cow.{cow_str_bytes}, specs.declared.alloc.AllocError.{AllocError}}
use Rattle.net_plan.specs.declared.error.PlanError.{PlanError}
use Rattle.command_answers.{specs.declared.answer.Answer.{Answer}, specs.declared.bytes_answer.BytesAnswer.{BytesAnswer}, specs.declared.refused.Input.{Input}, specs.declared.refused.Refused.{Refused}, specs.declared.status.Status.{Status}, specs.Answers.{Stream, IsReported, Refuses, BreaksOff}, specs.Statuses.{status_of, IsReportedFor, HasCause}, specs.Told.{IsTold, IsSomeAnswer, Gives, Ends, Concludes, ConcludesOnOutput}}
use Rattle.command_answers.specs.declared.refused.Refused.TheVariants as refused
use Rattle.command_answers.specs.declared.status.Status.TheVariants as status

module _ (Ends : Status → Type 0) (errors : Stream) where
  -- a refusal ends a run with status 2, or 3 where memory lacks
  status_case : (why : Refused) → (status_of why ≡ status.Unreadable → IsReported why errors → Ends status.Unreadable) → (IsReported refused.NoMemory errors → Ends status.NoMemory)
      → IsReported why errors → Ends (status_of why)
  status_case refused.Usage unread memory line = unread refl line
  status_case (refused.Unreadable input cause) unread memory line = unread refl line
  status_case refused.UnknownNode unread memory line = unread refl line
  status_case refused.UnreadableHex unread memory line = unread refl line
  status_case refused.TooMuch unread memory line = unread refl line
  status_case refused.Unwritten unread memory line = unread refl line
  status_case refused.NoMemory unread memory line = memory line

  -- what is reported for a refusal is the refusal, or want of memory
  itself_or_memory : (why reported : Refused) → IsReportedFor why reported → (reported ≡ why) ⊎ (reported ≡ refused.NoMemory)
  itself_or_memory refused.Usage reported is = inl is
  itself_or_memory (refused.Unreadable input cause) reported is = is
  itself_or_memory refused.UnknownNode reported is = inl is
  itself_or_memory refused.UnreadableHex reported is = inl is
  itself_or_memory refused.TooMuch reported is = inl is
  itself_or_memory refused.Unwritten reported is = inl is
  itself_or_memory refused.NoMemory reported is = inl is

  module _ (why : Refused) (unread : status_of why ≡ status.Unreadable → IsReported why errors → Ends status.Unreadable) (memory : IsReported refused.NoMemory errors → Ends status.NoMemory) where
    reported_case : (reported : Refused) → (reported ≡ why) ⊎ (reported ≡ refused.NoMemory) → IsReported reported errors → Ends (status_of reported)
    reported_case reported (inl is) line = subst (λ w. Ends (status_of w)) (sym is) (status_case why unread memory (subst (λ w. IsReported w errors) is line))
    reported_case reported (inr is) line = subst (λ w. Ends (status_of w)) (sym is) (memory (subst (λ w. IsReported w errors) is line))

    -- how a run ends for a refusal
    pub refuses_so : (ended : Status) → Refuses why ended errors → Ends ended
    refuses_so ended refuses =
        subst Ends (sym refuses.ends) (reported_case refuses.reported (itself_or_memory why refuses.reported refuses.for_it) refuses.line)

-- want of memory ends with its own status
pub of_memory : (why : Refused) (s : Status) (errors : Stream) → why ≡ refused.NoMemory → Refuses why s errors → (s ≡ status.NoMemory) × IsReported refused.NoMemory errors
of_memory why s errors is refuses =
    let reported : refuses.reported ≡ refused.NoMemory = subst (λ w. IsReportedFor w refuses.reported) is refuses.for_it in
    (refuses.ends ∙ ap status_of reported, subst (λ w. IsReported w errors) reported refuses.line)

-- want of memory needs no cause
pub memory_lacks : (IsUnread : Input → PlanError → Type 0) (unknown no_hex too_much : Type 0) (why : Refused) → why ≡ refused.NoMemory
    → HasCause IsUnread unknown no_hex too_much why
memory_lacks IsUnread unknown no_hex too_much why is = subst (HasCause IsUnread unknown no_hex too_much) (sym is) tt

-- how no refusal ends
module _ (quiet : Type 0) where
  unread_is_silent : (status.Unreadable ≡ status.Yes) ⊎ (status.Unreadable ≡ status.Fault) → quiet
  unread_is_silent (inl is) = absurd (cc)
  unread_is_silent (inr is) = absurd (cc)

  lack_is_silent : (status.NoMemory ≡ status.Yes) ⊎ (status.NoMemory ≡ status.Fault) → quiet
  lack_is_silent (inl is) = absurd (cc)
  lack_is_silent (inr is) = absurd (cc)

-- of answers of any kind, each with the status that is due and a text
module _ {A : Type 0} (due : A → Status) (text_of : A → List ℕ) (some : (a : A) → due a ≢ status.NoMemory) (Answers : Status → List ℕ → Type 0) (ended : Status)
    (output errors : Stream) where
  -- what the end of a run says, by the answer or by why there is none
  ends_by : (IsWhy : Refused → Type 0) (answered : Result A Refused) → IfOk answered (λ a. Answers (due a) (text_of a))
      → IfErr answered IsWhy → IfOk answered (λ a. IsTold (due a) (text_of a) ended output errors)
      → IfErr answered (λ why. Refuses why ended errors) → Ends Answers IsWhy ended output errors
  ends_by IsWhy (Ok a) answers why (inl (is, written)) refuses =
      subst (λ s. Ends Answers IsWhy s output errors) (sym is) (given (due a) (some a) answers)
    where
      given : (s : Status) → s ≢ status.NoMemory → Answers s (text_of a) → Ends Answers IsWhy s output errors
      given status.Yes some answers = (text_of a, answers, written)
      given status.Fault some answers = (text_of a, answers, written)
      given status.Unreadable some answers = inl (text_of a, answers, written)
      given status.NoMemory some answers = absurd (some refl)
  ends_by IsWhy (Ok a) answers why (inr (is, fails, part, line)) refuses =
      subst (λ s. Ends Answers IsWhy s output errors) (sym is) (inr (refused.Unwritten, refl, inr (refl, fails), line))
  ends_by IsWhy (Err reason) answers why told refuses = refuses_so (λ s. Ends Answers IsWhy s output errors) errors reason
      (λ is line. inr (reason, is, inl why, line)) (λ line. line) ended refuses

  -- an answer that ends as what can't be read was given, or the output failed in it
  gives_or_breaks : (a : A) → Answers (due a) (text_of a) → IsTold (due a) (text_of a) ended output errors → ended ≡ status.Unreadable
      → Gives Answers status.Unreadable output ⊎ BreaksOff (IsSomeAnswer Answers) output
  gives_or_breaks a answers (inl (is, written)) unreadable =
      let P : Status → Type 0 = λ s. Answers s (text_of a) in inl (text_of a, subst P unreadable (subst P (sym is) answers), written)
  gives_or_breaks a answers (inr (is, fails, part, line)) unreadable =
      inr (record { text = text_of a; answer = (due a, answers); fails = fails; beginning = part })

  same_gives_or_breaks : (Same : Type 0) (answered : Result A Refused) → IfOk answered (λ a. Answers (due a) (text_of a))
      → IfOk answered (λ a. IsTold (due a) (text_of a) ended output errors) → OnErr answered Same → ended ≡ status.Unreadable
      → Same ⊎ (Gives Answers status.Unreadable output ⊎ BreaksOff (IsSomeAnswer Answers) output)
  same_gives_or_breaks Same (Ok a) answers told same unreadable = inr (gives_or_breaks a answers told unreadable)
  same_gives_or_breaks Same (Err why) answers told same unreadable = inl same

  -- all that it says
  concludes_by : (IsWhy : Refused → Type 0) (untouched quiet : Type 0) (answered : Result A Refused) → IfOk answered (λ a. Answers (due a) (text_of a))
      → IfErr answered IsWhy → IfOk answered (λ a. IsTold (due a) (text_of a) ended output errors)
      → IfErr answered (λ why. Refuses why ended errors) → OnErr answered untouched → ((ended ≡ status.Yes) ⊎ (ended ≡ status.Fault) → quiet)
      → (ended ≡ status.NoMemory → untouched) → Concludes Answers IsWhy ended output errors untouched quiet
  concludes_by IsWhy untouched quiet answered answers why told refuses same silent no_memory = record {
    tells = ends_by IsWhy answered answers why told refuses;
    silent = silent;
    unwritten = same_gives_or_breaks untouched answered answers told same;
    no_memory = no_memory;
  }

module _ (Answers : Status → List ℕ → Type 0) (ended : Status) (output errors : Stream) where
  -- of bytes
  pub concludes_bytes : (IsWhy : Refused → Type 0) (untouched quiet : Type 0) (answered : Result BytesAnswer Refused)
      → IfOk answered (λ (a : BytesAnswer). Answers a.status a.bytes.items) → IfErr answered IsWhy
      → IfOk answered (λ (a : BytesAnswer). IsTold a.status a.bytes.items ended output errors) → IfErr answered (λ why. Refuses why ended errors)
      → OnErr answered untouched → ((ended ≡ status.Yes) ⊎ (ended ≡ status.Fault) → quiet) → (ended ≡ status.NoMemory → untouched)
      → Concludes Answers IsWhy ended output errors untouched quiet
  concludes_bytes = concludes_by (λ (a : BytesAnswer). a.status) (λ a. a.bytes.items) (λ a. a.memory) Answers ended output errors

  -- and of a text
  pub concludes : (IsWhy : Refused → Type 0) (untouched quiet : Type 0) (answered : Result Answer Refused)
      → IfOk answered (λ (a : Answer). Answers a.status (cow_str_bytes a.text)) → IfErr answered IsWhy
      → IfOk answered (λ (a : Answer). IsTold a.status (cow_str_bytes a.text) ended output errors) → IfErr answered (λ why. Refuses why ended errors)
      → OnErr answered untouched → ((ended ≡ status.Yes) ⊎ (ended ≡ status.Fault) → quiet) → (ended ≡ status.NoMemory → untouched)
      → Concludes Answers IsWhy ended output errors untouched quiet
  concludes = concludes_by (λ (a : Answer). a.status) (λ a. cow_str_bytes a.text) (λ a. a.memory) Answers ended output errors

  -- where only memory can be wanting
  pub concludes_made : (IsWhy : Refused → Type 0) (untouched quiet : Type 0) (answered : Result Answer AllocError)
      → IfOk answered (λ (a : Answer). Answers a.status (cow_str_bytes a.text)) → IsWhy refused.NoMemory
      → IfOk answered (λ (a : Answer). IsTold a.status (cow_str_bytes a.text) ended output errors) → IfErr answered (λ _. Refuses refused.NoMemory ended errors)
      → OnErr answered untouched → ((ended ≡ status.Yes) ⊎ (ended ≡ status.Fault) → quiet) → (ended ≡ status.NoMemory → untouched)
      → Concludes Answers IsWhy ended output errors untouched quiet
  concludes_made IsWhy untouched quiet (Ok a) answers lacks told refuses same = concludes IsWhy untouched quiet (Ok a) answers tt told tt tt
  concludes_made IsWhy untouched quiet (Err e) answers lacks told refuses same = concludes IsWhy untouched quiet (Err refused.NoMemory) tt lacks tt refuses same

  -- where nothing was read
  pub concludes_unread : (IsWhy : Refused → Type 0) (untouched quiet : Type 0) (why : Refused) → IsWhy why → Refuses why ended errors → untouched
      → Concludes Answers IsWhy ended output errors untouched quiet
  concludes_unread IsWhy untouched quiet why is refuses same = record {
    tells = refuses_so (λ s. Ends Answers IsWhy s output errors) errors why (λ unread line. inr (why, unread, inl is, line)) (λ line. line) ended refuses;
    silent = refuses_so (λ s. (s ≡ status.Yes) ⊎ (s ≡ status.Fault) → quiet) errors why (λ unread line. unread_is_silent quiet) (λ line. lack_is_silent quiet) ended refuses;
    unwritten = λ ends. inl same;
    no_memory = λ ends. same;
  }

  only_memory_lacks : (answered : Result Answer Refused) → IfOk answered (λ (a : Answer). Answers a.status (cow_str_bytes a.text))
      → IfErr answered (λ why. why ≡ refused.NoMemory) → IfOk answered (λ (a : Answer). IsTold a.status (cow_str_bytes a.text) ended output errors)
      → IfErr answered (λ why. Refuses why ended errors) → ended ≡ status.Unreadable
      → Gives Answers status.Unreadable output ⊎ BreaksOff (IsSomeAnswer Answers) output
  only_memory_lacks (Ok a) answers lacks told refuses unreadable =
      gives_or_breaks (λ (a : Answer). a.status) (λ a. cow_str_bytes a.text) (λ a. a.memory) Answers ended output errors a answers told unreadable
  only_memory_lacks (Err why) answers lacks told refuses unreadable =
      let memory : status.Unreadable ≡ status.NoMemory = sym unreadable ∙ (of_memory why ended errors lacks refuses).0 in absurd (cc)

  -- and where it does of any, and only want of memory leaves none
  pub concludes_on_output : (untouched quiet : Type 0) (answered : Result Answer Refused) → IfOk answered (λ (a : Answer). Answers a.status (cow_str_bytes a.text))
      → IfErr answered (λ why. why ≡ refused.NoMemory) → IfOk answered (λ (a : Answer). IsTold a.status (cow_str_bytes a.text) ended output errors)
      → IfErr answered (λ why. Refuses why ended errors) → ((ended ≡ status.Yes) ⊎ (ended ≡ status.Fault) → quiet) → (ended ≡ status.NoMemory → untouched)
      → ConcludesOnOutput Answers ended output errors untouched quiet
  concludes_on_output untouched quiet answered answers lacks told refuses silent no_memory = record {
    tells = ends_by (λ (a : Answer). a.status) (λ a. cow_str_bytes a.text) (λ a. a.memory) Answers ended output errors (λ why. why ≡ refused.NoMemory) answered answers lacks told refuses;
    silent = silent;
    unwritten = only_memory_lacks answered answers lacks told refuses;
    no_memory = no_memory;
  }

-- where only want of memory is no answer, what holds of an answer holds under every other status
pub quiet_told : (P Q : Type 0) (s : Status) (errors : Stream) (answered : Result Answer Refused) → IfErr answered (λ why. why ≡ refused.NoMemory)
    → IfOk answered (λ _. P → Q) → IfErr answered (λ why. Refuses why s errors) → s ≢ status.NoMemory → P → Q
quiet_told P Q s errors (Ok answer) none quiet ends told p = quiet p
quiet_told P Q s errors (Err why) none quiet ends told p = absurd (told (of_memory why s errors none ends).0)
