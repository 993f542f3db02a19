-- What the end of `audit` tells of an answer.
use Rattle.std.{proofs.Common.{◌≡◌, ◌≢◌, ℕ, Bool, true, false, List, Result, Ok, Err, inl, inr, refl, sym, subst}, specs.Prelude.{IfOk, Option, codes}, specs.Cow.{cow_str_bytes}}
use Rattle.audited_captures.{specs.Audits.{AreAudited, is_match, audit_text}, specs.Lines.{LineValue}, specs.declared.sums.Sum.{Sum}}
use Rattle.bus_captures.{specs.Captures.{IsCapture}, specs.Values.{EntryValue}, specs.declared.capture.End.{End}}
use Rattle.plan_values.{specs.declared.certificate.Certificate.{Certificate}, specs.declared.plan.Plan.{Plan}}
use Rattle.net_rules.specs.Rules.{Accepts}
use Rattle.command_answers.{specs.declared.answer.Answer.{Answer}, specs.declared.refused.Refused.{Refused}, specs.declared.status.Status.{Status}, specs.Answers.{Stream, IsFaultText}}
use Rattle.audit_commands.{specs.Auditing.{TellsCapture, AuditsCapture, AuditsOn, AuditsOf, AuditsAt}, specs.Buses.{IsBusOf, NamesNoBus}}
use Rattle.bus_captures.specs.declared.capture.End.TheVariants as end
use Rattle.command_answers.specs.declared.refused.Refused.TheVariants as refused
use Rattle.command_answers.specs.declared.status.Status.TheVariants as status

module _ (plan : Plan) (cert : Certificate) (bus : Option ℕ) (complete : Bool) (bytes text : List ℕ) (ended : Status) where
  -- of a capture that was read whole
  whole_so : (is : Bool) → TellsCapture plan cert bus complete bytes end.Whole is text → (is ≡ true → ended ≡ status.Yes) → (is ≡ false → ended ≡ status.Fault) → AuditsCapture plan cert bus complete bytes ended text
  whole_so true tells matches fails = subst (λ (s : Status). AuditsCapture plan cert bus complete bytes s text) (sym (matches refl)) tells
  whole_so false tells matches fails = subst (λ (s : Status). AuditsCapture plan cert bus complete bytes s text) (sym (fails refl)) tells

  -- of one that was not
  broken_so : (how : End) (is : Bool) → TellsCapture plan cert bus complete bytes how is text → how ≢ end.Whole → (how ≢ end.Whole → ended ≡ status.Unreadable) → AuditsCapture plan cert bus complete bytes ended text
  broken_so how is tells other broken = subst (λ (s : Status). AuditsCapture plan cert bus complete bytes s text) (sym (broken other)) (how, is, other, tells)

  ended_so : (how : End) (is : Bool) → TellsCapture plan cert bus complete bytes how is text → (how ≡ end.Whole → is ≡ true → ended ≡ status.Yes)
      → (how ≡ end.Whole → is ≡ false → ended ≡ status.Fault) → (how ≢ end.Whole → ended ≡ status.Unreadable) → AuditsCapture plan cert bus complete bytes ended text
  ended_so end.Whole is tells matches fails broken = whole_so is tells (matches refl) (fails refl)
  ended_so end.Full is tells matches fails broken = broken_so end.Full is tells (λ e. cc) broken
  ended_so (end.Broken place why) is tells matches fails broken = broken_so (end.Broken place why) is tells (λ e. cc) broken

  pub audited_so : (entries : List EntryValue) (lines : List LineValue) (sum : Sum) (how : End) → IsCapture bytes entries how → AreAudited plan cert bus complete entries lines sum → text ≡ audit_text lines sum how
      → (how ≡ end.Whole → is_match lines ≡ true → ended ≡ status.Yes) → (how ≡ end.Whole → is_match lines ≡ false → ended ≡ status.Fault)
      → (how ≢ end.Whole → ended ≡ status.Unreadable) → AuditsCapture plan cert bus complete bytes ended text
  audited_so entries lines sum how captured audited told =
      ended_so how (is_match lines) (record { entries = entries; lines = lines; sum = sum; captured = captured; audited = audited; judged = refl; told = told })

module _ (plan : Plan) (cert : Certificate) where
  pub at_bus : (name : Option (List ℕ)) (bus : Option ℕ) (complete : Bool) (captures : Stream) (result : Result Answer Refused) → IsBusOf plan name bus
      → IfOk result (λ (a : Answer). AuditsOf plan cert bus complete captures a.status (cow_str_bytes a.text))
      → IfOk result (λ (a : Answer). AuditsAt plan cert name complete captures a.status (cow_str_bytes a.text))
  at_bus name bus complete captures (Ok a) is answers = inl (bus, is, answers)
  at_bus name bus complete captures (Err why) is answers = tt

  pub no_bus : (name : Option (List ℕ)) (complete : Bool) (captures : Stream) (result : Result Answer Refused) → NamesNoBus plan name → captures.after ≡ captures.before
      → IfOk result (λ (a : Answer). a.status ≡ status.Unreadable) → IfOk result (λ (a : Answer). cow_str_bytes a.text ≡ codes "unreadable bus: J06\n")
      → IfOk result (λ (a : Answer). AuditsAt plan cert name complete captures a.status (cow_str_bytes a.text))
  no_bus name complete captures (Ok a) none same ended text = inr (ended, none, same, text)
  no_bus name complete captures (Err why) none same ended text = tt

  pub checked_so : (bus : Option ℕ) (complete : Bool) (checked : Plan × Certificate) (bytes : List ℕ) (result : Result Answer Refused) → checked ≡ (plan, cert) → Accepts plan cert
      → IfOk result (λ (a : Answer). AuditsCapture checked.0 checked.1 bus complete bytes a.status (cow_str_bytes a.text))
      → IfOk result (λ (a : Answer). AuditsOn plan cert bus complete bytes a.status (cow_str_bytes a.text))
  checked_so bus complete checked bytes (Ok a) same accepted answers =
      inl (accepted, subst (λ (c : Plan × Certificate). AuditsCapture c.0 c.1 bus complete bytes a.status (cow_str_bytes a.text)) same answers)
  checked_so bus complete checked bytes (Err why) same accepted answers = tt

  pub fault_so : (bus : Option ℕ) (complete : Bool) (bytes : List ℕ) (result : Result Answer Refused)
      → IfOk result (λ (a : Answer). (a.status ≡ status.Fault) × IsFaultText plan cert (cow_str_bytes a.text))
      → IfOk result (λ (a : Answer). AuditsOn plan cert bus complete bytes a.status (cow_str_bytes a.text))
  fault_so bus complete bytes (Ok a) told = inr told
  fault_so bus complete bytes (Err why) told = tt
