-- What the parts of a folder say, and how they are judged.
use Rattle.std.{specs.Prelude.{◌≡◌, ◌≢◌, ◌⊎◌, ℕ, Bool, false, List, [], ◌∷◌, ◌++◌, codes, map, All, Option, Some, None, Result, Ok, string_bytes, ⊤}, specs.List.{AllZip}, specs.Str.Lines.{lines}}
use Rattle.plan_values.{specs.declared.certificate.Certificate.{Certificate}, specs.declared.event.Event.{Event}, specs.declared.plan.Plan.{Plan}, specs.CertificateValues.{certificate_value}, specs.EventValues.{event_entry}, specs.PlanValues.{plan_value}}
use Rattle.net_plan.{specs.CertificateText.{IsCertificateOf}, specs.EventText.{AreEventsOf}, specs.Texts.{IsJsonTextOf}, specs.declared.stream.TextFault.{TextFault}}
use Rattle.net_rules.specs.Rules.{Accepts}
use Rattle.net_tables.specs.TwoPlans.{one_plan}
use Rattle.net_runs.specs.Walkers.{WalkedEvent}
use Rattle.net_faults.specs.PlanFaults.{HasCertificate}
use Rattle.net_questions.{specs.declared.finding.Finding.{Finding}, specs.Findings.{IsSo}}
use Rattle.net_reached.{specs.declared.wish.Wish.{Wish}, specs.Reading.{AreWishesOf}, specs.Wishes.{IsMet, AreUnmet}}
use Rattle.net_sim.specs.Outcomes.{event_value}
use Rattle.play_commands.{specs.Expecting.{given_only}, specs.Simulating.{ShowsWalks}}
use Rattle.verify_commands.{specs.Boards.{IsMadeBy, IsUnmadeBy}, specs.declared.fit.Beside.{Beside}, specs.declared.fit.Fit.{Fit}, specs.declared.parts.Judged.{Judged}, specs.declared.parts.Part.{Part}, specs.declared.parts.Verdict.{Verdict}, specs.Folders.{Reading, events_path, lines_path}, specs.Runs.{AreRuns}}
use Rattle.verify_commands.specs.declared.fit.Beside.TheVariants as beside
use Rattle.verify_commands.specs.declared.fit.Fit.TheVariants as fit
use Rattle.verify_commands.specs.declared.parts.Part.TheVariants as part
use Rattle.verify_commands.specs.declared.parts.Verdict.TheVariants as verdict

-- ---- the certificate

-- the certificate stands beside the plan
abbrev pub IsHeld : (List ℕ → Reading → Type 0) → Plan → Certificate → Type 0
IsHeld Reads plan cert = (bytes : List ℕ) × Reads (codes "certificate.json") (Ok (Some bytes))
    × IsJsonTextOf (IsCertificateOf (plan_value plan)) bytes (certificate_value cert)

-- no certificate does
abbrev pub IsNoneHeld : (List ℕ → Reading → Type 0) → Type 0
IsNoneHeld Reads = Reads (codes "certificate.json") (Ok None)

-- the certificate fits the plan: the one beside it, or another where there is none
abbrev pub Fits : (List ℕ → Reading → Type 0) → Plan → Certificate → Type 0
Fits Reads plan cert = Accepts plan cert × (IsHeld Reads plan cert ⊎ IsNoneHeld Reads)

abbrev pub HasFit : (List ℕ → Reading → Type 0) → Plan → Type 0
HasFit Reads plan = (cert : Certificate) × Fits Reads plan cert

-- the certificate beside the plan doesn't fit it, or there is none and none fits
abbrev pub HasNoFit : (List ℕ → Reading → Type 0) → Plan → Type 0
HasNoFit Reads plan = ((cert : Certificate) × IsHeld Reads plan cert × (¬ Accepts plan cert))
    ⊎ (IsNoneHeld Reads × (¬ HasCertificate plan))

-- ---- the board

-- the text of the plan is one that is made of the board
abbrev pub IsLikeBoard : (List ℕ → List ℕ → Type 0) → (board text : List ℕ) → Type 0
IsLikeBoard Records board text = (certified : List ℕ) × IsMadeBy Records board text certified

-- another text is, or there is a reason why none is
abbrev pub IsUnlikeBoard : (List ℕ → List ℕ → Type 0) → (board text : List ℕ) → Type 0
IsUnlikeBoard Records board text =
    ((made : List ℕ) × (certified : List ℕ) × IsMadeBy Records board made certified × (made ≢ text))
    ⊎ ((reason : List ℕ) × IsUnmadeBy Records board reason)

abbrev pub OfBoard : (List ℕ → Reading → Type 0) → (List ℕ → Type 0) → Type 0
OfBoard Reads IsSo = (board : List ℕ) × Reads (codes "board.toml") (Ok (Some board)) × IsSo board

-- ---- the plan alone

abbrev pub IsClean : Plan → Type 0
IsClean plan = (f : Finding) → ¬ IsSo plan f

abbrev pub LooksWrong : Plan → Type 0
LooksWrong plan = (f : Finding) × IsSo plan f

-- ---- wishes

-- of the wishes of the folder this is so
abbrev pub OfWishes : (List ℕ → Reading → Type 0) → Plan → (List Wish → Type 0) → Type 0
OfWishes Reads plan AreSo = (wanted : List ℕ) × (wishes : List Wish) × Reads (codes "wanted.txt") (Ok (Some wanted))
    × AreWishesOf plan wanted wishes × AreSo wishes

-- some of the wishes are not met
abbrev pub HasUnmet : Plan → List Wish → Type 0
HasUnmet plan wishes = (unmet : List Wish) × AreUnmet plan wishes unmet × (unmet ≢ [])

-- ---- runs

-- the folder has the events of a run
abbrev pub HasEvents : (List ℕ → Reading → Type 0) → Plan → List ℕ → List Event → Type 0
HasEvents Reads plan name events = (bytes : List ℕ) × Reads (events_path name) (Ok (Some bytes))
    × IsJsonTextOf (AreEventsOf (plan_value plan)) bytes (map event_entry events)

-- of the events of a run and its lines this is so
abbrev pub OfRun : (List ℕ → Reading → Type 0) → Plan → List ℕ → (List WalkedEvent → List ℕ → Type 0) → Type 0
OfRun Reads plan name AreSo = (events : List Event) × (wanted : List ℕ) × HasEvents Reads plan name events
    × Reads (lines_path name) (Ok (Some wanted)) × AreSo (map event_value events) wanted

-- what `sim` prints of the events, in a run in which the walkers have walked, is this text
abbrev pub IsPrinted : Plan → Certificate → List WalkedEvent → List ℕ → Type 0
IsPrinted plan cert events text = ShowsWalks (one_plan plan) cert events (given_only text)

-- these are its lines
abbrev pub Prints : Plan → Certificate → List WalkedEvent → List ℕ → Type 0
Prints plan cert events wanted = (text : List ℕ) × IsPrinted plan cert events text × (lines wanted ≡ lines text)

-- they are not
abbrev pub PrintsOthers : Plan → Certificate → List WalkedEvent → List ℕ → Type 0
PrintsOthers plan cert events wanted =
    (text : List ℕ) × IsPrinted plan cert events text × (lines wanted ≢ lines text)

-- what a run says, where it holds and where it doesn't
abbrev pub IsRunGood : (List ℕ → Reading → Type 0) → Plan → List ℕ → Type 0
IsRunGood Reads plan name = (cert : Certificate) × Fits Reads plan cert × OfRun Reads plan name (Prints plan cert)

abbrev pub IsRunBad : (List ℕ → Reading → Type 0) → Plan → List ℕ → Type 0
IsRunBad Reads plan name = HasNoFit Reads plan
    ⊎ ((cert : Certificate) × Fits Reads plan cert × OfRun Reads plan name (PrintsOthers plan cert))

-- ---- verdicts

-- A part holds by the fact of which it speaks, and fails by the other, unless that doesn't count.
abbrev pub Says : Verdict → (good bad is_noted : Type 0) → Type 0
Says verdict.Holds good bad is_noted = good
Says verdict.Noted good bad is_noted = bad × is_noted
Says verdict.Fails good bad is_noted = bad × (¬ is_noted)

-- What a part says of a folder where it holds. `Reads` is what reading a file gives, `Records` what the files hold that
-- a board names, and the text is that of the plan.
abbrev pub IsGood : (List ℕ → Reading → Type 0) → (List ℕ → List ℕ → Type 0) → List ℕ → Plan → Part → Type 0
IsGood Reads Records text plan part.Board = OfBoard Reads (λ board. IsLikeBoard Records board text)
IsGood Reads Records text plan part.Check = HasFit Reads plan
IsGood Reads Records text plan part.Faults = HasCertificate plan
IsGood Reads Records text plan part.Lint = IsClean plan
IsGood Reads Records text plan part.Require = HasFit Reads plan × OfWishes Reads plan (All (IsMet plan))
IsGood Reads Records text plan (part.Run name) = IsRunGood Reads plan (string_bytes name)

-- and where it doesn't
abbrev pub IsBad : (List ℕ → Reading → Type 0) → (List ℕ → List ℕ → Type 0) → List ℕ → Plan → Part → Type 0
IsBad Reads Records text plan part.Board = OfBoard Reads (λ board. IsUnlikeBoard Records board text)
IsBad Reads Records text plan part.Check = HasNoFit Reads plan
IsBad Reads Records text plan part.Faults = ¬ HasCertificate plan
IsBad Reads Records text plan part.Lint = LooksWrong plan
IsBad Reads Records text plan part.Require = HasNoFit Reads plan ⊎ OfWishes Reads plan (HasUnmet plan)
IsBad Reads Records text plan (part.Run name) = IsRunBad Reads plan (string_bytes name)

-- a part doesn't count where it doesn't hold: what looks wrong, where it isn't asked that it counts
abbrev pub IsNoted : (is_strict : Bool) → Part → Type 0
IsNoted is_strict part.Board = ⊥
IsNoted is_strict part.Check = ⊥
IsNoted is_strict part.Faults = ⊥
IsNoted is_strict part.Lint = is_strict ≡ false
IsNoted is_strict part.Require = ⊥
IsNoted is_strict (part.Run name) = ⊥

-- the part is judged as it is
abbrev pub IsJudged : (List ℕ → Reading → Type 0) → (List ℕ → List ℕ → Type 0) → Bool → List ℕ → Plan → Judged → Type 0
IsJudged Reads Records is_strict text plan judged = Says judged.verdict (IsGood Reads Records text plan judged.part)
    (IsBad Reads Records text plan judged.part) (IsNoted is_strict judged.part)

-- ---- how they come about

-- what is made where no certificate stands beside the plan
abbrev pub IsMadeBeside : Plan → Beside → Type 0
IsMadeBeside plan (beside.Held cert) = ⊥
IsMadeBeside plan (beside.Made cert) = Accepts plan cert
IsMadeBeside plan (beside.RuledOut why) = ¬ HasCertificate plan

-- what stands beside the plan, or is made where nothing does
abbrev pub IsBeside : (List ℕ → Reading → Type 0) → Plan → Beside → Type 0
IsBeside Reads plan (beside.Held cert) = IsHeld Reads plan cert
IsBeside Reads plan (beside.Made cert) = IsNoneHeld Reads × Accepts plan cert
IsBeside Reads plan (beside.RuledOut why) = IsNoneHeld Reads × (¬ HasCertificate plan)

-- a certificate that was made fits
abbrev pub IsSure : Plan → Beside → Type 0
IsSure plan (beside.Held cert) = ⊤
IsSure plan (beside.Made cert) = Accepts plan cert
IsSure plan (beside.RuledOut why) = ⊤

-- whether what is beside the plan fits it
abbrev pub IsFitOf : Plan → Beside → Fit → Type 0
IsFitOf plan (beside.Held cert) (fit.Fits checked) = (checked ≡ (plan, cert)) × Accepts plan cert
IsFitOf plan (beside.Held cert) (fit.Unfit line is_held) = ¬ Accepts plan cert
IsFitOf plan (beside.Made cert) (fit.Fits checked) = checked ≡ (plan, cert)
IsFitOf plan (beside.Made cert) (fit.Unfit line is_held) = ⊥
IsFitOf plan (beside.RuledOut why) (fit.Fits checked) = ⊥
IsFitOf plan (beside.RuledOut why) (fit.Unfit line is_held) = ⊤

-- the certificate of the folder fits the plan, or none does
abbrev pub FitsOrNot : (List ℕ → Reading → Type 0) → Plan → Fit → Type 0
FitsOrNot Reads plan (fit.Fits checked) = (checked.0 ≡ plan) × Fits Reads plan checked.1
FitsOrNot Reads plan (fit.Unfit line is_held) = HasNoFit Reads plan

-- a part that needs a certificate is judged by the plan with it, or fails
abbrev pub IsJudgedBy : Fit → (Plan → Certificate → Verdict → Type 0) → Verdict → Type 0
IsJudgedBy (fit.Fits checked) IsSo judged = IsSo checked.0 checked.1 judged
IsJudgedBy (fit.Unfit line is_held) IsSo judged = judged ≡ verdict.Fails

-- wishes are judged
abbrev pub AreWished : List Wish → Plan → Certificate → Verdict → Type 0
AreWished wishes plan cert judged = Says judged (All (IsMet plan) wishes) (HasUnmet plan wishes) ⊥

-- those of a text are
abbrev pub IsWantedOf : Plan → Fit → List ℕ → Verdict → Type 0
IsWantedOf plan given wanted judged =
    (wishes : List Wish) × AreWishesOf plan wanted wishes × IsJudgedBy given (AreWished wishes) judged

-- a run is judged
abbrev pub IsPlayed : List WalkedEvent → List ℕ → Plan → Certificate → Verdict → Type 0
IsPlayed events wanted plan cert judged =
    Says judged (Prints plan cert events wanted) (PrintsOthers plan cert events wanted) ⊥

-- the part is that of the run of this name
abbrev pub IsRunPart : List ℕ → Part → Type 0
IsRunPart name (part.Run it) = string_bytes it ≡ name
IsRunPart name _ = ⊥

-- ---- parts that are added

-- the part of a text is added, where there is the text
abbrev pub AddsIf : Option (List ℕ) → (Judged → Type 0) → (old new : List Judged) → Type 0
AddsIf None IsSo old new = new ≡ old
AddsIf (Some bytes) IsSo old new = (judged : Judged) × (new ≡ old ++ judged ∷ []) × IsSo judged

abbrev pub IsBoardSo : (List ℕ → Reading → Type 0) → (List ℕ → List ℕ → Type 0) → List ℕ → Judged → Type 0
IsBoardSo Reads Records text judged = (judged.part ≡ part.Board)
    × Says judged.verdict (OfBoard Reads (λ board. IsLikeBoard Records board text))
    (OfBoard Reads (λ board. IsUnlikeBoard Records board text)) ⊥

abbrev pub AddsBoard : (List ℕ → Reading → Type 0) → (List ℕ → List ℕ → Type 0) → List ℕ → (old new : List Judged)
    → Type 0
AddsBoard Reads Records text old new = (board : Option (List ℕ)) × Reads (codes "board.toml") (Ok board)
    × AddsIf board (IsBoardSo Reads Records text) old new

abbrev pub IsWantedSo : (List ℕ → Reading → Type 0) → Plan → Judged → Type 0
IsWantedSo Reads plan judged = (judged.part ≡ part.Require)
    × Says judged.verdict (HasFit Reads plan × OfWishes Reads plan (All (IsMet plan)))
    (HasNoFit Reads plan ⊎ OfWishes Reads plan (HasUnmet plan)) ⊥

abbrev pub AddsWanted : (List ℕ → Reading → Type 0) → Plan → (old new : List Judged) → Type 0
AddsWanted Reads plan old new = (wanted : Option (List ℕ)) × Reads (codes "wanted.txt") (Ok wanted)
    × AddsIf wanted (IsWantedSo Reads plan) old new

abbrev pub IsRunSo : (List ℕ → Reading → Type 0) → Plan → List ℕ → Judged → Type 0
IsRunSo Reads plan name judged =
    IsRunPart name judged.part × Says judged.verdict (IsRunGood Reads plan name) (IsRunBad Reads plan name) ⊥

-- each run is judged, in this order
abbrev pub AreRunsSo : (List ℕ → Reading → Type 0) → Plan → List (List ℕ) → List Judged → Type 0
AreRunsSo Reads plan names judged = AllZip (IsRunSo Reads plan) names judged

abbrev pub AddsRuns : (List ℕ → Reading → Type 0) → (Result (List (List ℕ)) TextFault → Type 0) → Plan
    → (old new : List Judged) → Type 0
AddsRuns Reads Lists plan old new = (files : List (List ℕ)) × (runs : List (List ℕ)) × (more : List Judged)
    × Lists (Ok files) × AreRuns files runs × (new ≡ old ++ more) × AreRunsSo Reads plan runs more
