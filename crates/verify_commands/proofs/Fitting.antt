-- Whether the certificate of a folder fits its plan.
use Rattle.std.{proofs.Common.{◌≡◌, ◌≢◌, ◌⊎◌, ℕ, List, [], ◌∷◌, map, codes, inl, inr, refl, sym, ap, subst, arith}, specs.Prelude.{All, Contains, Some, Ok}}
use Rattle.plan_values.{specs.declared.certificate.Certificate.{Certificate}, specs.declared.event.Event.{Event}, specs.declared.plan.Plan.{Plan}}
use Rattle.net_rules.{specs.declared.fault.Fault.{Fault}, specs.Faults.{site_of}, specs.Rules.{Accepts}}
use Rattle.net_check.specs.Errors.{NamesFirstFault}
use Rattle.net_questions.{specs.declared.finding.Finding.{Finding}, specs.Findings.{AreFindings}}
use Rattle.net_reached.{specs.declared.wish.Wish.{Wish}, specs.Reading.{AreWishesOf}, specs.Wishes.{IsMet}}
use Rattle.net_sim.specs.Outcomes.{event_value}
use Rattle.verify_commands.{specs.declared.fit.Beside.{Beside}, specs.declared.fit.Fit.{Fit}, specs.declared.parts.Verdict.{Verdict}, specs.Folders.{Reading, lines_path}, specs.Parts.{Fits, FitsOrNot, HasEvents, HasFit, HasNoFit, HasUnmet, IsBeside, IsClean, IsFitOf, IsJudgedBy, IsMadeBeside, IsNoneHeld, IsPlayed, IsRunBad, IsRunGood, IsSure, IsWantedOf, LooksWrong, OfWishes, Prints, PrintsOthers, Says}}
use Rattle.net_check.specs.declared.check_error.CheckError.TheVariants as check_error
use Rattle.verify_commands.specs.declared.fit.Beside.TheVariants as beside
use Rattle.verify_commands.specs.declared.fit.Fit.TheVariants as fit
use Rattle.verify_commands.specs.declared.parts.Verdict.TheVariants as verdict

pub sure_of : (Reads : List ℕ → Reading → Type 0) (plan : Plan) (given : Beside) → IsBeside Reads plan given → IsSure plan given
sure_of Reads plan (beside.Held cert) is = tt
sure_of Reads plan (beside.Made cert) is = is.1
sure_of Reads plan (beside.RuledOut why) is = tt

pub made_beside : (Reads : List ℕ → Reading → Type 0) (plan : Plan) (given : Beside) → IsNoneHeld Reads → IsMadeBeside plan given → IsBeside Reads plan given
made_beside Reads plan (beside.Held cert) none is = absurd is
made_beside Reads plan (beside.Made cert) none is = (none, is)
made_beside Reads plan (beside.RuledOut why) none is = (none, is)

pub fits_or_not : (Reads : List ℕ → Reading → Type 0) (plan : Plan) (given : Beside) (found : Fit) → IsBeside Reads plan given → IsFitOf plan given found
    → FitsOrNot Reads plan found
fits_or_not Reads plan (beside.Held cert) (fit.Fits checked) held (same, accepted) =
    (ap (λ p. p.0) same, subst (Fits Reads plan) (sym (ap (λ p. p.1) same)) (accepted, inl held))
fits_or_not Reads plan (beside.Held cert) (fit.Unfit line is_held) held broken = inl (cert, held, broken)
fits_or_not Reads plan (beside.Made cert) (fit.Fits checked) (none, accepted) same =
    (ap (λ p. p.0) same, subst (Fits Reads plan) (sym (ap (λ p. p.1) same)) (accepted, inr none))
fits_or_not Reads plan (beside.Made cert) (fit.Unfit line is_held) is never = absurd never
fits_or_not Reads plan (beside.RuledOut why) (fit.Fits checked) is never = absurd never
fits_or_not Reads plan (beside.RuledOut why) (fit.Unfit line is_held) (none, has) is = inr (none, has)

-- a certificate with a first fault is not accepted
pub not_accepted : (plan : Plan) (cert : Certificate) (fault : Fault) → NamesFirstFault plan cert (check_error.Fault fault) → ¬ Accepts plan cert
not_accepted plan cert fault first accepted =
    let site = site_of fault in
    first.broken (accepted site.rule site.node site.entry site.eid)

-- ---- verdicts

-- what is judged holds, or fails, for what follows from that
pub says_also : (judged : Verdict) (good other bad worse is_noted : Type 0) → (good → other) → (bad → worse) → Says judged good bad is_noted → Says judged other worse is_noted
says_also verdict.Holds good other bad worse is_noted so not said = so said
says_also verdict.Noted good other bad worse is_noted so not said = (not said.0, said.1)
says_also verdict.Fails good other bad worse is_noted so not said = (not said.0, said.1)

-- nothing looks wrong where nothing is found
pub clean_of : (plan : Plan) (findings : List Finding) → AreFindings plan findings → findings ≡ [] → IsClean plan
clean_of plan findings are none f so = let there = subst (λ fs. Contains fs f) none ((are.exact f).1 so) in omega (arith, there.1)

-- something does where something is
pub wrong_of : (plan : Plan) (findings : List Finding) → AreFindings plan findings → findings ≢ [] → LooksWrong plan
wrong_of plan [] are some = absurd (some refl)
wrong_of plan (f ∷ fs) are some = (f, (are.exact f).0 (0, omega arith, refl))

module _ (Reads : List ℕ → Reading → Type 0) (plan : Plan) where
  pub fit_judged : (found : Fit) (judged : Verdict) → FitsOrNot Reads plan found → IsJudgedBy found (λ p cert j. j ≡ verdict.Holds) judged
      → Says judged (HasFit Reads plan) (HasNoFit Reads plan) ⊥
  fit_judged (fit.Fits checked) judged (same, fits) is =
      subst (λ j. Says j (HasFit Reads plan) (HasNoFit Reads plan) ⊥) (sym is) (checked.1, fits)
  fit_judged (fit.Unfit line is_held) judged none is = subst (λ j. Says j (HasFit Reads plan) (HasNoFit Reads plan) ⊥) (sym is) (none, λ never. never)

  wishes_said : (wanted : List ℕ) (wishes : List Wish) (judged : Verdict) → HasFit Reads plan → Reads (codes "wanted.txt") (Ok (Some wanted)) → AreWishesOf plan wanted wishes
      → Says judged (All (IsMet plan) wishes) (HasUnmet plan wishes) ⊥
      → Says judged (HasFit Reads plan × OfWishes Reads plan (All (IsMet plan))) (HasNoFit Reads plan ⊎ OfWishes Reads plan (HasUnmet plan)) ⊥
  wishes_said wanted wishes verdict.Holds has read are said = (has, (wanted, wishes, read, are, said))
  wishes_said wanted wishes verdict.Noted has read are said = absurd said.1
  wishes_said wanted wishes verdict.Fails has read are said = (inr (wanted, wishes, read, are, said.0), said.1)

  pub wanted_judged : (found : Fit) (wanted : List ℕ) (judged : Verdict) → FitsOrNot Reads plan found → Reads (codes "wanted.txt") (Ok (Some wanted))
      → IsWantedOf plan found wanted judged
      → Says judged (HasFit Reads plan × OfWishes Reads plan (All (IsMet plan))) (HasNoFit Reads plan ⊎ OfWishes Reads plan (HasUnmet plan)) ⊥
  wanted_judged (fit.Fits checked) wanted judged (same, fits) read (wishes, are, said) =
      wishes_said wanted wishes judged (checked.1, fits) read are
      (subst (λ p. Says judged (All (IsMet p) wishes) (HasUnmet p wishes) ⊥) same said)
  wanted_judged (fit.Unfit line is_held) wanted judged none read (wishes, are, is) =
      subst (λ j. Says j (HasFit Reads plan × OfWishes Reads plan (All (IsMet plan))) (HasNoFit Reads plan ⊎ OfWishes Reads plan (HasUnmet plan)) ⊥) (sym is)
      (inl none, λ never. never)

  run_said : (name wanted : List ℕ) (events : List Event) (cert : Certificate) (judged : Verdict) → Fits Reads plan cert → HasEvents Reads plan name events
      → Reads (lines_path name) (Ok (Some wanted))
      → Says judged (Prints plan cert (map event_value events) wanted) (PrintsOthers plan cert (map event_value events) wanted) ⊥
      → Says judged (IsRunGood Reads plan name) (IsRunBad Reads plan name) ⊥
  run_said name wanted events cert verdict.Holds fits has read said = (cert, fits, (events, wanted, has, read, said))
  run_said name wanted events cert verdict.Noted fits has read said = absurd said.1
  run_said name wanted events cert verdict.Fails fits has read said = (inr (cert, fits, (events, wanted, has, read, said.0)), said.1)

  pub run_judged : (found : Fit) (name wanted : List ℕ) (events : List Event) (judged : Verdict) → FitsOrNot Reads plan found → HasEvents Reads plan name events
      → Reads (lines_path name) (Ok (Some wanted)) → IsJudgedBy found (IsPlayed (map event_value events) wanted) judged
      → Says judged (IsRunGood Reads plan name) (IsRunBad Reads plan name) ⊥
  run_judged (fit.Fits checked) name wanted events judged (same, fits) has read said =
      run_said name wanted events checked.1 judged fits has read
      (subst (λ p. Says judged (Prints p checked.1 (map event_value events) wanted) (PrintsOthers p checked.1 (map event_value events) wanted) ⊥) same said)
  run_judged (fit.Unfit line is_held) name wanted events judged none has read is =
      subst (λ j. Says j (IsRunGood Reads plan name) (IsRunBad Reads plan name) ⊥) (sym is) (inl none, λ never. never)
