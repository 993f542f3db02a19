-- A walker that stands for a walk takes what it is given there.
use Rattle.std.{proofs.Common.{false, true, ◌≡◌, ◌≢◌, ◌⊎◌, inl, inr, ℕ, ◌+◌, ◌<◌, ◌≤◌, min, List, [], ◌∷◌, ◌++◌, length, take, slice_get, Option, Some, None, Result, Ok, Err, refl, ap, sym, ◌∙◌, subst, arith}, specs.Prelude.{MatchOption, MatchResult}, proofs.lemmas.Option.{same_Some, slice_get_within, slice_get_cases, get_or_from_slice_get}, proofs.lemmas.Bool.{cases_lt}, proofs.lemmas.List.{append-nil, length-map, length-take, length_push, get_or-take, get_or-map, get_or_push, get_or_append_left, take-append-drop, take-append-le, take_at}}
use Rattle.pldm_message.{specs.declared.command.Command.TheVariants.{GetPdr}, specs.Headers.{HeaderValue, BeginsWith, IsHeader, header_bytes}, specs.HeaderLaws.{one_header}, specs.Messages.{ResponseMessage, answer_header}, specs.Pdrs.{PartRequest, Part}, specs.PdrLaws.{one_get_pdr_answer}}
use Rattle.pdr_repository.{specs.Crc.{IsCrc}, specs.Records.{Entry, IsLawful, handle_in, handle_at, bytes_by_place}, specs.Parts.{PartAnswer, AnswersPart, IsPartOf}, specs.Walks.{Exchange, Walk, Collects, IsFinished, due_after, follows, data_of, flag_of, HasFlag}, specs.Faults.{Room, Judges, IsLast, HasWrongFlag, HasWrongSize, HasWrongCrc, HasWrongHandle, HasDoubledHandle}, specs.declared.walk_fault.Step.{Step as WalkStep}, specs.declared.walk_fault.WalkFault.{WalkFault}, specs.declared.walk_fault.WalkFault.TheVariants.{TooMuch, OutOfMemory}, specs.Walkers.{WalkState, HasTakenIn, Fails, Proceeds, state_after, completed, data_with, room_of, Takes, TakesOutcome, IsAnswerIn, IsDueAnswer, WalksOn, TakesDueAnswer, Tells, TellsStep}, specs.declared.walk_fault.Step.TheVariants.{Done}, proofs.Headers.{HasHeader, lawful_header}, proofs.Collecting.{start_more, middle_more, whole_more, end_more, one_rest, collects_once}, proofs.Dues.{IsDue, FlagBy, More, Complete}, proofs.Walks.{Within, stands, one_step, due_push, record_there, every_walk_collects}, proofs.Judging.{judged}, proofs.Telling.{tells}}

-- a walk with one exchange more
pub walk_push : (records : List Entry) (count : ℕ) (xs : List Exchange) (x : Exchange) → Walk records count xs → due_after count xs ≡ Some x.request → AnswersPart records x.request x.answer → Walk records count (xs ++ x ∷ [])
walk_push records count xs x walk asked answered = record {
  asked = λ i y here. elim (cases_lt i (length xs)) [
    | inl before ↦ ap (due_after count) (take-append-le i xs (x ∷ []) (omega arith)) ∙ walk.asked i y (earlier i y here before)
    | inr not_before ↦
        let at = last i y here not_before in
        ap (due_after count) (take_at xs (x ∷ []) i (sym at.0)) ∙ asked ∙ ap (λ (z : Exchange). Some z.request) at.1
  ];
  answered = λ i y here. elim (cases_lt i (length xs)) [
    | inl before ↦ walk.answered i y (earlier i y here before)
    | inr not_before ↦ let P : Exchange → Type 0 = λ z. AnswersPart records z.request z.answer in subst P (last i y here not_before).1 answered
  ];
}
  where
    earlier : (i : ℕ) (y : Exchange) → slice_get (xs ++ x ∷ []) i ≡ Some y → i < length xs → slice_get xs i ≡ Some y
    earlier i y here before = elim (slice_get_cases xs i).1 [
      | inl (z, _, there, read) ↦
          there ∙ ap Some (sym (get_or_from_slice_get xs i z y there) ∙ sym (get_or_append_left xs (x ∷ []) y i before) ∙ get_or_from_slice_get (xs ++ x ∷ []) i y y here)
      | inr (past, _) ↦ absurd (omega arith)
    ]

    last : (i : ℕ) (y : Exchange) → slice_get (xs ++ x ∷ []) i ≡ Some y → length xs ≤ i → (i ≡ length xs) × (x ≡ y)
    last i y here past =
        let at : i ≡ length xs = omega (arith, slice_get_within (xs ++ x ∷ []) i y here, length_push xs x) in
        (at, sym (get_or_push xs x y i (sym at)) ∙ get_or_from_slice_get (xs ++ x ∷ []) i y y here)

-- the part goes on with the record, or completes it
abbrev Kind : ℕ → Entry → ℕ → ℕ → PartRequest → Part → Type 0
Kind place e count offset r p = More place e count offset r p ⊎ Complete e count offset r p

not_last : (offset : ℕ) (r : PartRequest) (p : Part) → FlagBy offset r p 0 1 → ¬ IsLast p
not_last offset r p (inl (_, _, flag)) (inl four) = omega arith
not_last offset r p (inl (_, _, flag)) (inr five) = omega arith
not_last offset r p (inr (_, _, flag)) (inl four) = omega arith
not_last offset r p (inr (_, _, flag)) (inr five) = omega arith

is_last : (offset : ℕ) (r : PartRequest) (p : Part) → FlagBy offset r p 5 4 → IsLast p
is_last offset r p (inl (_, _, flag)) = inr flag
is_last offset r p (inr (_, _, flag)) = inl flag

flag_right : (place : ℕ) (e : Entry) (count offset : ℕ) (r : PartRequest) (p : Part) → Kind place e count offset r p → ¬ HasWrongFlag r p
flag_right place e count offset r p (inl more) (inl unlike) = unlike (elim more.flag [ inl (_, op, flag) ↦ inl (op, inl flag) | inr (_, op, flag) ↦ inr (op, inl flag) ])
flag_right place e count offset r p (inl more) (inr (_, none)) = omega (arith, more.transfer, none)
flag_right place e count offset r p (inr complete) (inl unlike) = unlike (elim complete.flag [ inl (_, op, flag) ↦ inl (op, inr flag) | inr (_, op, flag) ↦ inr (op, inr flag) ])
flag_right place e count offset r p (inr complete) (inr (not, _)) = not (is_last offset r p complete.flag)

-- the record that a last part completes
whole_there : (e : Entry) (count offset : ℕ) (r : PartRequest) (p : Part) → Complete e count offset r p → take offset e.bytes ++ p.bytes ≡ e.bytes
whole_there e count offset r p complete = ap (λ ys. take offset e.bytes ++ ys) complete.bytes ∙ take-append-drop offset e.bytes

size_right : (place : ℕ) (e : Entry) (count offset : ℕ) (r : PartRequest) (p : Part) → 8 ≤ count → r.count ≡ count → HasHeader e.handle e.bytes → Kind place e count offset r p → ¬ HasWrongSize (take offset e.bytes) r p
size_right place e count offset r p least counted header (inl more) wrong = elim wrong [
  | inl none ↦ omega (arith, more.long, none)
  | inr rest ↦ elim rest [
    | inl over ↦ omega (arith, more.long, over)
    | inr rest ↦ elim rest [
      | inl (_, short) ↦ omega (arith, more.long, short)
      | inr (last, _) ↦ not_last offset r p more.flag last
    ]
  ]
]
size_right place e count offset r p least counted header (inr complete) wrong = elim wrong [
  | inl none ↦ omega (arith, complete.some, none)
  | inr rest ↦ elim rest [
    | inl over ↦ omega (arith, complete.most, over)
    | inr rest ↦ elim rest [
      | inl (flag, _) ↦ elim complete.flag [ inl (_, _, five) ↦ omega arith | inr (_, _, four) ↦ omega arith ]
      | inr (_, differs) ↦ differs (rw (whole_there e count offset r p complete) header.says)
    ]
  ]
]

crc_right : (next place : ℕ) (e : Entry) (count offset : ℕ) (r : PartRequest) (p : Part) → IsPartOf next e.bytes r p → Kind place e count offset r p → ¬ HasWrongCrc (take offset e.bytes) p
crc_right next place e count offset r p part (inl more) wrong = against p.crc part.crc wrong
  where
    against : (crc : Option ℕ) → MatchOption crc (p.flag ≢ 4) (λ k. (p.flag ≡ 4) × IsCrc e.bytes k) → MatchOption crc ⊥ (λ k. ¬ IsCrc (take offset e.bytes ++ p.bytes) k) → ⊥
    against None unlike none = none
    against (Some k) right other = not_last offset r p more.flag (inl right.0)
crc_right next place e count offset r p part (inr complete) wrong = against p.crc part.crc wrong
  where
    against : (crc : Option ℕ) → MatchOption crc (p.flag ≢ 4) (λ k. (p.flag ≡ 4) × IsCrc e.bytes k) → MatchOption crc ⊥ (λ k. ¬ IsCrc (take offset e.bytes ++ p.bytes) k) → ⊥
    against None unlike none = none
    against (Some k) right other = other (let P : List ℕ → Type 0 = λ bs. IsCrc bs k in subst P (sym (whole_there e count offset r p complete)) right.1)

handle_right : (place : ℕ) (e : Entry) (count offset : ℕ) (r : PartRequest) (p : Part) → IsDue place e count offset r → HasHeader e.handle e.bytes → e.handle ≢ 0 → Kind place e count offset r p → ¬ HasWrongHandle (take offset e.bytes) r p
handle_right place e count offset r p due header some (inl more) wrong = not_last offset r p more.flag wrong.0
handle_right place e count offset r p due header some (inr complete) wrong =
    let is : handle_in (take offset e.bytes ++ p.bytes) ≡ e.handle = ap handle_in (whole_there e count offset r p complete) ∙ header.names in
    elim wrong.1 [
      | inl none ↦ some (sym is ∙ none)
      | inr (named, other) ↦ other (is ∙ due.named named)
    ]

double_right : (records : List Entry) (place : ℕ) (e : Entry) (count offset : ℕ) (r : PartRequest) (p : Part) → IsLawful records → slice_get records place ≡ Some e → Kind place e count offset r p
    → ¬ HasDoubledHandle (bytes_by_place (take place records)) (take offset e.bytes) p
double_right records place e count offset r p lawful here (inl more) wrong = not_last offset r p more.flag wrong.0
double_right records place e count offset r p lawful here (inr complete) (_, (k, bytes, early, there, same)) =
    let header = lawful_header records lawful place e here in
    let long : length (bytes_by_place (take place records)) ≡ min place (length records) = length-map (take place records) (λ (f : Entry). f.bytes) ∙ length-take place records in
    let b = record_there records k (omega (arith, long, early)) in
    let other = lawful_header records lawful k b.0 b.1 in
    let before : k < place = omega (arith, long, early) in
    let found : bytes ≡ b.0.bytes =
    sym there ∙ get_or-map (λ (f : Entry). f.bytes) (take place records) k b.0 bytes (omega (arith, length-take place records, long, early))
    ∙ ap (λ (f : Entry). f.bytes) (get_or-take place records k b.0 before ∙ get_or_from_slice_get records k b.0 b.0 b.1) in
    let handles : b.0.handle ≡ e.handle = sym other.names ∙ ap handle_in (sym found) ∙ same ∙ ap handle_in (whole_there e count offset r p complete) ∙ header.names in
    let both : k ≡ place = lawful.distinct k place b.0 e b.1 here handles in
    omega arith

-- no test finds a fault, but that there is too much
judged_right : (room : Room) (records : List (List ℕ)) (before : List ℕ) (r : PartRequest) (p : Part) (fault : Option WalkFault)
    → ¬ HasWrongFlag r p → ¬ HasWrongSize before r p → ¬ HasWrongCrc before p → ¬ HasWrongHandle before r p → ¬ HasDoubledHandle records before p
    → Judges room records before r p fault → (fault ≡ Some TooMuch) ⊎ (fault ≡ None)
judged_right room records before r p fault flag size crc handle double (inl (wrong, _)) = absurd (flag wrong)
judged_right room records before r p fault flag size crc handle double (inr (_, inl (wrong, _))) = absurd (size wrong)
judged_right room records before r p fault flag size crc handle double (inr (_, inr (_, inl (wrong, _)))) = absurd (crc wrong)
judged_right room records before r p fault flag size crc handle double (inr (_, inr (_, inr (_, inl (wrong, _))))) = absurd (handle wrong)
judged_right room records before r p fault flag size crc handle double (inr (_, inr (_, inr (_, inr (_, inl (wrong, _)))))) = absurd (double wrong)
judged_right room records before r p fault flag size crc handle double (inr (_, inr (_, inr (_, inr (_, inr (_, inl (_, is))))))) = inl is
judged_right room records before r p fault flag size crc handle double (inr (_, inr (_, inr (_, inr (_, inr (_, inr (_, is))))))) = inr is

-- the walker after a part stands for one exchange more
stands_push : (old : WalkState) (xs : List Exchange) (x : Exchange) (p : Part) (offset : ℕ) (place : ℕ) (e : Entry) (count : ℕ) → HasTakenIn old xs → x.answer ≡ Ok p → Kind place e count offset x.request p
    → (c : Collects xs old.records old.under_way) → (offset ≡ 0 → c.rest ≡ []) → (0 < offset → c.rest ≢ []) → HasTakenIn (state_after old x.request p) (xs ++ x ∷ [])
stands_push old xs x p offset place e count stands is kind c at_start after_start =
    let due : follows x.request (Ok p) ≡ due_after old.count (xs ++ x ∷ []) = ap (follows x.request) (sym is) ∙ sym (due_push old.count xs x) in
    let given : data_of x.answer ≡ p.bytes = ap data_of is in
    let flagged : (flag : ℕ) → p.flag ≡ flag → HasFlag flag x = λ flag h. ap flag_of is ∙ ap Some h in
    let P : List (List ℕ) → List ℕ → Type 0 = λ rs d. Collects (xs ++ x ∷ []) rs d in
    let make : P (old.records ++ completed old.under_way p) (data_with old.under_way p) → HasTakenIn (state_after old x.request p) (xs ++ x ∷ []) = λ all. record { collects = all; due = due; goes = stands.goes } in
    elim kind [
      | inl more ↦ elim more.flag [
        | inl (o, _, flag) ↦ make (rw (flag, append-nil) (let Q : List ℕ → Type 0 = λ d. P old.records d in subst Q given (start_more xs old.records old.under_way x c (at_start o) (flagged 0 flag)).all))
        | inr (o, _, flag) ↦ make (rw (flag, append-nil) (let Q : List ℕ → Type 0 = λ d. P old.records (old.under_way ++ d) in subst Q given (middle_more xs old.records old.under_way x c (after_start o) (flagged 1 flag)).all))
      ]
      | inr complete ↦ elim complete.flag [
        | inl (o, _, flag) ↦ make (rw flag (let Q : List ℕ → Type 0 = λ d. P (old.records ++ d ∷ []) [] in subst Q given (whole_more xs old.records old.under_way x c (at_start o) (flagged 5 flag)).all))
        | inr (o, _, flag) ↦ make (rw flag (let Q : List ℕ → Type 0 = λ d. P (old.records ++ (old.under_way ++ d) ∷ []) [] in subst Q given (end_more xs old.records old.under_way x c (after_start o) (flagged 4 flag)).all))
      ]
    ]

-- the header that begins an answer is the answer's
same_header : (h : HeaderValue) (m : ResponseMessage Part) (bytes : List ℕ) → BeginsWith h bytes → IsAnswerIn bytes m → h.instance ≡ m.head.instance
same_header h m bytes begins spelled =
    let front : take 4 bytes ≡ header_bytes (answer_header GetPdr m.head) = ap (take 4) spelled.1 in
    let lawful : IsHeader (answer_header GetPdr m.head) = record { instance = spelled.0.0; pldm_type = omega arith; command = omega arith } in
    ap (λ (g : HeaderValue). g.instance) (one_header h (answer_header GetPdr m.head) begins.0 lawful (sym begins.1 ∙ front))

-- a message that is an answer under the outstanding ID is taken as that answer
takes_outcome : (old new : WalkState) (r : PartRequest) (m : ResponseMessage Part) (bytes : List ℕ) (result : Result WalkStep WalkFault) → old.failed ≡ false → old.due ≡ Some r
    → old.waiting ≡ Some m.head.instance → IsAnswerIn bytes m → Takes old bytes result new → TakesOutcome old r m.outcome result new
takes_outcome old new r m bytes result goes due waiting spelled (inl (failed, _)) = absurd (let f : true ≡ false = sym failed ∙ goes in cc)
takes_outcome old new r m bytes result goes due waiting spelled (inr (_, inl (none, _))) = absurd (let f : None ≡ Some m.head.instance = sym none ∙ waiting in cc)
takes_outcome old new r m bytes result goes due waiting spelled (inr (_, inr (_, inl (without, _)))) =
    let lawful : IsHeader (answer_header GetPdr m.head) = record { instance = spelled.0.0; pldm_type = omega arith; command = omega arith } in
    absurd (without (answer_header GetPdr m.head) (lawful, ap (take 4) spelled.1))
takes_outcome old new r m bytes result goes due waiting spelled (inr (_, inr (_, inr (_, (h, begins, inl (other, _)))))) = absurd (other (waiting ∙ ap Some (sym (same_header h m bytes begins spelled))))
takes_outcome old new r m bytes result goes due waiting spelled (inr (_, inr (_, inr (_, (h, begins, inr (_, inl (unlike, _))))))) = absurd (unlike m spelled)
takes_outcome old new r m bytes result goes due waiting spelled (inr (_, inr (_, inr (_, (h, begins, inr (_, inr (_, (n, s, other, asked, rest)))))))) =
    let P : PartRequest → Type 0 = λ q. TakesOutcome old q m.outcome result new in
    let Q : ResponseMessage Part → Type 0 = λ a. TakesOutcome old s a.outcome result new in
    subst P (same_Some s r (sym asked ∙ due)) (subst Q (one_get_pdr_answer n m other.0 spelled.0 (sym other.1 ∙ spelled.1)) rest)

-- a walker that stands for a walk has collected its beginning
walks_on : (records : List Entry) (xs : List Exchange) (step : WalkStep) (new : WalkState) → IsLawful records → 8 ≤ new.count → new.count ≤ 4079 → Walk records new.count xs → HasTakenIn new xs
    → (step ≡ Done → new.due ≡ None) → WalksOn records xs step new
walks_on records xs step new lawful least most walk stands done =
    let all = every_walk_collects records new.count xs lawful least most walk in
    let same = collects_once xs new.records all.collected new.under_way all.under_way stands.collects all.collects in
    let finished : step ≡ Done → IsFinished new.count xs = λ is. sym stands.due ∙ done is in
    record {
      walk = walk;
      stands = stands;
      beginning = (all.beginning.0, ap (λ rs. rs ++ all.beginning.0) same.0 ∙ all.beginning.1);
      whole = λ is. same.0 ∙ (all.whole (finished is)).0;
      exact = λ is. all.exact.0 (finished is);
    }

proceeds : (records : List Entry) (xs : List Exchange) (x : Exchange) (old new : WalkState) (p : Part) (result : Result WalkStep WalkFault) → IsLawful records → 8 ≤ old.count → old.count ≤ 4079
    → Walk records old.count (xs ++ x ∷ []) → HasTakenIn (state_after old x.request p) (xs ++ x ∷ []) → Proceeds old x.request p result new → Tells result old new
    → MatchResult result (λ step. WalksOn records (xs ++ x ∷ []) step new) (λ fault. (fault ≡ TooMuch) ⊎ (fault ≡ OutOfMemory))
proceeds records xs x old new p (Ok step) lawful least most walk after (_, is) told =
    let P : WalkState → Type 0 = λ w. HasTakenIn w (xs ++ x ∷ []) in
    let count : new.count ≡ old.count = ap (λ (w : WalkState). w.count) is in
    let W : ℕ → Type 0 = λ n. Walk records n (xs ++ x ∷ []) in
    let T : WalkStep → Type 0 = λ s. TellsStep s old new in
    walks_on records (xs ++ x ∷ []) step new lawful (omega arith) (omega arith) (subst W (sym count) walk) (subst P (sym is) after) (λ done. (subst T done told).2)
proceeds records xs x old new p (Err fault) lawful least most walk after (is, same) told = inr is

-- the outcome of the request that is due in a walk
goes_on_outcome : (old new : WalkState) (bytes : List ℕ) (result : Result WalkStep WalkFault) (records : List Entry) (xs : List Exchange) (x : Exchange) → 8 ≤ old.count → old.count ≤ 4079
    → IsDueAnswer old bytes records xs x → (w : Within records old.count xs) → TakesOutcome old x.request x.answer result new → Tells result old new
    → MatchResult result (λ step. WalksOn records (xs ++ x ∷ []) step new) (λ fault. (fault ≡ TooMuch) ⊎ (fault ≡ OutOfMemory))
goes_on_outcome old new bytes result records xs x least most given w takes told =
    let asked : due_after old.count xs ≡ Some x.request = sym given.stands.due ∙ given.due in
    let request : x.request ≡ w.r = same_Some x.request w.r (sym asked ∙ w.asked) in
    let step = one_step records old.count xs w x given.lawful least most request given.answered in
    let p = step.part in
    let count = old.count in
    let next = handle_at records (w.place + 1) in
    let K : PartRequest → Type 0 = λ r. Kind w.place w.e count w.offset r p in
    let kind = let k : K w.r = step.kind in subst K (sym request) k in
    let D : PartRequest → Type 0 = λ r. IsDue w.place w.e count w.offset r in
    let due = subst D (sym request) w.due in
    let A : PartRequest → Type 0 = λ r. IsPartOf next w.e.bytes r p in
    let part = subst A (sym request) step.of_record in
    let header = lawful_header records given.lawful w.place w.e w.here in
    let same = collects_once xs old.records (bytes_by_place (take w.place records)) old.under_way (take w.offset w.e.bytes) given.stands.collects w.collects in
    let rest = one_rest xs old.records (bytes_by_place (take w.place records)) old.under_way (take w.offset w.e.bytes) given.stands.collects w.collects in
    let T : PartAnswer → Type 0 = λ a. TakesOutcome old x.request a result new in
    let out = subst T step.is takes in
    let fault = out.0 in
    let judged' = judged (room_of old) (room_of old) old.records (bytes_by_place (take w.place records)) old.under_way (take w.offset w.e.bytes) x.request p fault refl same.0 same.1 out.1 in
    let on = walk_push records count xs x given.walk asked given.answered in
    let after = stands_push old xs x p w.offset w.place w.e count given.stands step.is kind given.stands.collects (λ o. rest ∙ w.at_start o) (λ o. λ none. w.after_start o (sym rest ∙ none)) in
    let P : Option WalkFault → Type 0 = λ f. MatchOption f (Proceeds old x.request p result new) (λ g. Fails old g result new) in
    elim (judged_right (room_of old) (bytes_by_place (take w.place records)) (take w.offset w.e.bytes) x.request p fault
    (flag_right w.place w.e count w.offset x.request p kind)
    (size_right w.place w.e count w.offset x.request p least due.counted header kind)
    (crc_right next w.place w.e count w.offset x.request p part kind)
    (handle_right w.place w.e count w.offset x.request p due header (given.lawful.handles w.place w.e w.here) kind)
    (double_right records w.place w.e count w.offset x.request p given.lawful w.here kind)
    judged') [
      | inl is ↦ let fails = subst P is out.2 in rw fails.0 (inl refl)
      | inr is ↦ proceeds records xs x old new p result given.lawful least most on after (subst P is out.2) told
    ]

pub goes_on : (old new : WalkState) (bytes : List ℕ) (result : Result WalkStep WalkFault) → 8 ≤ old.count → old.count ≤ 4079 → Takes old bytes result new → TakesDueAnswer old bytes result new
goes_on old new bytes result least most takes records xs x given =
    let asked : due_after old.count xs ≡ Some x.request = sym given.stands.due ∙ given.due in
    let outcome = takes_outcome old new x.request (record { head = given.head; outcome = x.answer }) bytes result given.stands.goes given.due given.waiting given.spelled takes in
    elim (stands records old.count xs given.lawful least most given.walk) [
      | inl w ↦ goes_on_outcome old new bytes result records xs x least most given w outcome (tells old new bytes result takes)
      | inr past ↦ absurd (let f : None ≡ Some x.request = sym past.asked ∙ asked in cc)
    ]
