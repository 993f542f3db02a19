-- How a run of `emulate` ends.
use Rattle.std.{proofs.Common.{◌≡◌, ℕ, List, Result, Ok, Err, inl, inr, refl, sym, ◌∙◌, subst}, specs.Io.KnownBytes.{Appends}}
use Rattle.command_answers.{proofs.Telling.{breaks_off_also}, specs.Answers.{AreGiven, BreaksOff, IsErrorText, IsFaultText, Refuses, Stream}, specs.Naming.{IsFirstNamed}, specs.Statuses.{status_of}, specs.declared.refused.Refused.{Refused}, specs.declared.status.Status.{Status}}
use Rattle.net_check.{specs.Errors.{NamesFirstFault}, specs.declared.check_error.CheckError.{CheckError}}
use Rattle.net_plan.specs.Stream.{Account}
use Rattle.plan_values.{specs.declared.certificate.Certificate.{Certificate}, specs.declared.plan.Plan.{Plan}}
use Rattle.net_rules.specs.Rules.{Accepts}
use Rattle.bus_commands.{specs.Emulating.{AnswersEmulation, AnswersNode, AnswersOn, EndsEmulation, Stops}, specs.declared.playing.Stop.{Stop}}
use Rattle.command_questions.specs.declared.emulation.Emulation.{Emulation}
use Rattle.net_check.specs.declared.check_error.CheckError.TheVariants as check_error
use Rattle.command_answers.specs.declared.refused.Refused.TheVariants as refused
use Rattle.command_answers.specs.declared.status.Status.TheVariants as status
use Rattle.bus_commands.specs.declared.playing.Stop.TheVariants as stop

never_yes : (why : Refused) → status.Yes ≡ status_of why → ⊥
never_yes refused.Usage is = absurd (cc)
never_yes (refused.Unreadable input cause) is = absurd (cc)
never_yes refused.UnknownNode is = absurd (cc)
never_yes refused.UnreadableHex is = absurd (cc)
never_yes refused.TooMuch is = absurd (cc)
never_yes refused.Unwritten is = absurd (cc)
never_yes refused.NoMemory is = absurd (cc)

pub never_fault : (why : Refused) → status.Fault ≡ status_of why → ⊥
never_fault refused.Usage is = absurd (cc)
never_fault (refused.Unreadable input cause) is = absurd (cc)
never_fault refused.UnknownNode is = absurd (cc)
never_fault refused.UnreadableHex is = absurd (cc)
never_fault refused.TooMuch is = absurd (cc)
never_fault refused.Unwritten is = absurd (cc)
never_fault refused.NoMemory is = absurd (cc)

-- the text of an error of `check` is that of the first fault
pub first_told : (plan : Plan) (cert : Certificate) (error : CheckError) (text : List ℕ) → NamesFirstFault plan cert error → IsErrorText plan error text → IsFaultText plan cert text
first_told plan cert (check_error.Fault fault) text first told = (fault, first, told)
first_told plan cert check_error.OutOfMemory text first told = absurd told

module _ (e : Emulation) (plan : Plan) (cert : Certificate) (n : ℕ) (named : IsFirstNamed plan e.node.now n) (inputs outputs said : Stream)
    (unread : inputs.after ≡ inputs.before) (silent : said.after ≡ said.before) where
  -- the line of the first fault was written
  pub fault_told : (s due : Status) (text : List ℕ) → s ≡ due → due ≡ status.Fault → IsFaultText plan cert text
      → Appends outputs.before.bytes outputs.after.bytes text → AnswersOn e plan cert (Ok s) inputs outputs said
  fault_told s due text is fault told written = subst (λ x. AnswersOn e plan cert (Ok x) inputs outputs said) (sym (is ∙ fault))
      (record { node = n; named = named; text = text; fault = told; written = written; silent = silent; unread = unread })

  -- the output failed in it
  pub fault_unwritten : (why : Refused) (text : List ℕ) → why ≡ refused.Unwritten → IsFaultText plan cert text → BreaksOff (λ t. t ≡ text) outputs
      → AnswersOn e plan cert (Err (stop.Refused why)) inputs outputs said
  fault_unwritten why text is told broken = subst (λ w. AnswersOn e plan cert (Err (stop.Refused w)) inputs outputs said) (sym is)
      (inr (breaks_off_also (λ t. t ≡ text) (IsFaultText plan cert) outputs (λ t same. subst (IsFaultText plan cert) (sym same) told) broken, unread, silent))

-- the node was given the lines, to their end or not
module _ (e : Emulation) (plan : Plan) (cert : Certificate) (n : ℕ) (named : IsFirstNamed plan e.node.now n) (accepted : Accepts plan cert)
    (checked : Plan × Certificate) (same : checked ≡ (plan, cert)) (inputs outputs said : Stream) where
  pub emulates_part : (T : Type 0) (why : Stop) → AnswersNode {T = T} e checked.0 checked.1 n (Err why) inputs outputs said
      → AnswersOn e plan cert (Err why) inputs outputs said
  emulates_part T why answers = inl (record {
    node = n;
    named = named;
    accepted = accepted;
    answers = subst (λ (p : Plan × Certificate). AnswersNode {T = T} e p.0 p.1 n (Err why) inputs outputs said) same answers;
  })

  pub emulates_all : (T : Type 0) (done : T) → AnswersNode {T = T} e checked.0 checked.1 n (Ok done) inputs outputs said
      → AnswersOn e plan cert (Ok status.Yes) inputs outputs said
  emulates_all T done answers = record {
    node = n;
    named = named;
    accepted = accepted;
    answers = subst (λ (p : Plan × Certificate). AnswersNode {T = T} e p.0 p.1 n (Ok done) inputs outputs said) same answers;
  }

-- there is no memory for the line
pub fault_lacking : (e : Emulation) (plan : Plan) (cert : Certificate) (why : Refused) (i o x : Account) → why ≡ refused.NoMemory
    → AnswersOn e plan cert (Err (stop.Refused why)) (record { before = i; after = i }) (record { before = o; after = o }) (record { before = x; after = x })
fault_lacking e plan cert why i o x is =
    subst (λ w. AnswersOn e plan cert (Err (stop.Refused w)) (record { before = i; after = i }) (record { before = o; after = o }) (record { before = x; after = x })) (sym is)
    (inr (refl, (refl, refl)))

-- of the plan and the certificate that were given
pub answers_given : (e : Emulation) (plan : Plan) (cert : Certificate) (plans certificates inputs outputs said : Stream) (result : Result Status Stop) → AreGiven plans certificates plan cert
    → AnswersOn e plan cert result inputs outputs said → AnswersEmulation e plans certificates result inputs outputs said
answers_given e plan cert plans certificates inputs outputs said (Ok s) given answers = (plan, cert, given, answers)
answers_given e plan cert plans certificates inputs outputs said (Err why) given answers = inl (plan, cert, given, answers)

module _ (e : Emulation) (plans certificates inputs outputs said : Stream) where
  -- a run that ends as it was to end
  pub ends_itself : (s : Status) → AnswersEmulation e plans certificates (Ok s) inputs outputs said → EndsEmulation e plans certificates s inputs outputs said
  ends_itself status.Yes answers = answers
  ends_itself status.Fault answers = answers
  ends_itself status.Unreadable answers = absurd answers.3
  ends_itself status.NoMemory answers = absurd answers.3

  stops_so : (s : Status) → (why : Refused) → s ≡ status_of why → Stops e plans certificates s inputs outputs said → EndsEmulation e plans certificates s inputs outputs said
  stops_so status.Yes why is stops = absurd (never_yes why is)
  stops_so status.Fault why is stops = absurd (never_fault why is)
  stops_so status.Unreadable why is stops = stops
  stops_so status.NoMemory why is stops = stops

  -- a run that stops
  pub stops : (why : Refused) (noted : Stream) (s : Status) → AnswersEmulation e plans certificates (Err (stop.Refused why)) inputs outputs noted
      → noted.before ≡ said.before → Refuses why s (record { before = noted.after; after = said.after })
      → EndsEmulation e plans certificates s inputs outputs said
  stops why noted s answers same told = stops_so s told.reported told.ends (record {
    why = stop.Refused why;
    noted = noted.after;
    answers = subst (λ b. AnswersEmulation e plans certificates (Err (stop.Refused why)) inputs outputs (record { before = b; after = noted.after })) same answers;
    told = told;
  })

  pub stops_unsaid : AnswersEmulation e plans certificates (Err stop.Unsaid) inputs outputs said → EndsEmulation e plans certificates status.Unreadable inputs outputs said
  stops_unsaid answers = record { why = stop.Unsaid; noted = said.after; answers = answers; told = (refl, refl) }
