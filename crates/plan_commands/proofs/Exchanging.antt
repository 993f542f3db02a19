-- Exchanges of a walk over a terminus, and what a finished walk has collected.
use Rattle.std.{proofs.Common.{◌≡◌, ◌≢◌, ◌⊎◌, inl, inr, ℕ, ◌+◌, ◌-◌, ◌<◌, ◌≤◌, Bool, true, false, List, [], ◌∷◌, ◌++◌, length, take, drop, get_or, slice_get, Option, Some, None, Result, Ok, Err, refl, ap, sym, ◌∙◌, subst, arith}, specs.Prelude.{MatchOption, MatchResult, sum_by}, proofs.lemmas.Option.{same_Some, slice_get_within, get_or_from_slice_get}, proofs.lemmas.List.{length-map, length-take, length-drop, length_push, get_or-map, take-map}, proofs.lemmas.List.Sums.{sum_by_more_le}}
use Rattle.pldm_message.{specs.Messages.{ResponseMessage}, specs.Pdrs.{PartRequest, IsPartRequest, Part, get_pdr_request_bytes}, specs.PdrLaws.{one_get_pdr_answer}}
use Rattle.pdr_repository.{specs.Records.{Entry, IsLawful, bytes_by_place}, specs.Parts.{PartAnswer, AnswersPart}, specs.Answers.{Answers, answer_of}, specs.Walks.{Exchange, Walk, IsFinished, exchanges, due_after}, specs.Faults.{Room, Judges, IsTooMuch}, specs.declared.walk_fault.Step.{Step as WalkStep}, specs.declared.walk_fault.Step.TheVariants.{Done}, specs.declared.walk_fault.WalkFault.{WalkFault}, specs.Walkers.{WalkState, Asks, asked_under, Fails, Proceeds, state_after, room_of, Takes, TakesOutcome, IsAnswerIn, IsDueAnswer, WalksOn, TakesDueAnswer, Tells, AnswersWalker}, proofs.Collecting.{collects_once}, proofs.Meeting.{requests_are_answered}, proofs.Dues.{More, Complete}, proofs.Walks.{stands, one_step, every_walk_collects}}
use Rattle.plan_commands.{specs.Walking.{bytes_of}, specs.Collecting.{IsUnderWay, IsFurther, HasCollected}}
use Rattle.pdr_repository.specs.declared.walk_fault.WalkFault.TheVariants as fault

-- the answer that was written
answered_bytes : (said : Bool) (out bytes : List ℕ) → answer_of said out ≡ Some bytes → out ≡ bytes
answered_bytes true out bytes is = same_Some out bytes is
answered_bytes false out bytes is = absurd (let e : None ≡ Some bytes = is in cc)

no_step : (step : WalkStep) (f : WalkFault) → Ok step ≡ Err f → ⊥
no_step step f e = cc

-- what is held after an answer that was taken
after_part : (old new : WalkState) (r : PartRequest) (p : Part) (step : WalkStep) (found : Option WalkFault)
    → MatchOption found (Proceeds old r p (Ok step) new) (λ f. Fails old f (Ok step) new) → new ≡ state_after old r p
after_part old new r p step None out = out.1
after_part old new r p step (Some f) out = absurd (no_step step f out.0)

after_outcome : (old new : WalkState) (r : PartRequest) (a : PartAnswer) (step : WalkStep) → TakesOutcome old r a (Ok step) new → (p : Part) × (new ≡ state_after old r p)
after_outcome old new r (Err code) step (inl (_, out)) = absurd (no_step step _ out.0)
after_outcome old new r (Err code) step (inr (_, out)) = absurd (no_step step _ out.0)
after_outcome old new r (Ok p) step (found, _, out) = (p, after_part old new r p step found out)

after_answer : (old new : WalkState) (bytes : List ℕ) (step : WalkStep) → Takes old bytes (Ok step) new → (r : PartRequest) × (p : Part) × (new ≡ state_after old r p)
after_answer old new bytes step (inl (_, out)) = absurd (no_step step _ out.0)
after_answer old new bytes step (inr (_, inl (_, out))) = absurd (no_step step _ out.0)
after_answer old new bytes step (inr (_, inr (_, inl (_, out)))) = absurd (no_step step _ out.0)
after_answer old new bytes step (inr (_, inr (_, inr (_, (h, _, inl (_, out)))))) = absurd (no_step step _ out.0)
after_answer old new bytes step (inr (_, inr (_, inr (_, (h, _, inr (_, inl (_, out))))))) = absurd (no_step step _ out.0)
after_answer old new bytes step (inr (_, inr (_, inr (_, (h, _, inr (_, inr (_, (m, r, _, _, out)))))))) = let a = after_outcome old new r m.outcome step out in (r, a.0, a.1)

-- of which answers there is too much
record TooMuchOf (old : WalkState) (bytes : List ℕ) : Type 0 where
  message : ResponseMessage Part
  request : PartRequest
  part : Part
  spelled : IsAnswerIn bytes message
  due : old.due ≡ Some request
  given : message.outcome ≡ Ok part
  too_much : IsTooMuch (room_of old) part

unlike : (found : Option WalkFault) (f : WalkFault) → (f ≡ fault.TooMuch → ⊥) → found ≡ Some f → found ≡ Some fault.TooMuch → ⊥
unlike found f other is too_much = other (same_Some f fault.TooMuch (sym is ∙ too_much))

judged_too_much : (room : Room) (records : List (List ℕ)) (before : List ℕ) (r : PartRequest) (p : Part) (found : Option WalkFault)
    → found ≡ Some fault.TooMuch → Judges room records before r p found → IsTooMuch room p
judged_too_much room records before r p found is (inl (_, e)) = absurd (unlike found _ (λ h. cc) e is)
judged_too_much room records before r p found is (inr (_, inl (_, e))) = absurd (unlike found _ (λ h. cc) e is)
judged_too_much room records before r p found is (inr (_, inr (_, inl (_, e)))) = absurd (unlike found _ (λ h. cc) e is)
judged_too_much room records before r p found is (inr (_, inr (_, inr (_, inl (_, e))))) = absurd (unlike found _ (λ h. cc) e is)
judged_too_much room records before r p found is (inr (_, inr (_, inr (_, inr (_, inl (_, e)))))) = absurd (unlike found _ (λ h. cc) e is)
judged_too_much room records before r p found is (inr (_, inr (_, inr (_, inr (_, inr (_, inl (much, _))))))) = much
judged_too_much room records before r p found is (inr (_, inr (_, inr (_, inr (_, inr (_, inr (_, e))))))) = absurd (let h : None ≡ Some fault.TooMuch = sym e ∙ is in cc)

-- a step's fault
one_fault : (result : Result WalkStep WalkFault) (f g : WalkFault) → result ≡ Err f → result ≡ Err g → f ≡ g
one_fault result f g a b = cc

other_fault : (f : WalkFault) → (f ≡ fault.TooMuch → ⊥) → (result : Result WalkStep WalkFault) → result ≡ Err fault.TooMuch → result ≡ Err f → ⊥
other_fault f other result much is = other (one_fault result f fault.TooMuch is much)

part_too_much : (old new : WalkState) (r : PartRequest) (p : Part) (found : Option WalkFault) → Judges (room_of old) old.records old.under_way r p found
    → MatchOption found (Proceeds old r p (Err fault.TooMuch) new) (λ f. Fails old f (Err fault.TooMuch) new) → IsTooMuch (room_of old) p
part_too_much old new r p None judges out = absurd (let h : fault.TooMuch ≡ fault.OutOfMemory = out.0 in cc)
part_too_much old new r p (Some f) judges out =
    let is : Some f ≡ Some fault.TooMuch = ap Some (one_fault (Err fault.TooMuch) f fault.TooMuch out.0 refl) in
    judged_too_much (room_of old) old.records old.under_way r p (Some f) is judges

outcome_too_much : (old new : WalkState) (r : PartRequest) (a : PartAnswer) → TakesOutcome old r a (Err fault.TooMuch) new → (p : Part) × (a ≡ Ok p) × IsTooMuch (room_of old) p
outcome_too_much old new r (Err code) (inl (_, out)) = absurd (other_fault _ (λ h. cc) (Err fault.TooMuch) refl out.0)
outcome_too_much old new r (Err code) (inr (_, out)) = absurd (other_fault _ (λ h. cc) (Err fault.TooMuch) refl out.0)
outcome_too_much old new r (Ok p) (found, judges, out) = (p, refl, part_too_much old new r p found judges out)

answer_too_much : (old new : WalkState) (bytes : List ℕ) → Takes old bytes (Err fault.TooMuch) new → TooMuchOf old bytes
answer_too_much old new bytes (inl (_, out)) = absurd (other_fault _ (λ h. cc) (Err fault.TooMuch) refl out.0)
answer_too_much old new bytes (inr (_, inl (_, out))) = absurd (other_fault _ (λ h. cc) (Err fault.TooMuch) refl out.0)
answer_too_much old new bytes (inr (_, inr (_, inl (_, out)))) = absurd (other_fault _ (λ h. cc) (Err fault.TooMuch) refl out.0)
answer_too_much old new bytes (inr (_, inr (_, inr (_, (h, _, inl (_, out)))))) = absurd (other_fault _ (λ h. cc) (Err fault.TooMuch) refl out.0)
answer_too_much old new bytes (inr (_, inr (_, inr (_, (h, _, inr (_, inl (_, out))))))) = absurd (other_fault _ (λ h. cc) (Err fault.TooMuch) refl out.0)
answer_too_much old new bytes (inr (_, inr (_, inr (_, (h, _, inr (_, inr (_, (m, r, spelled, due, out)))))))) =
    let much = outcome_too_much old new r m.outcome out in
    record { message = m; request = r; part = much.0; spelled = spelled; due = due; given = much.1; too_much = much.2 }

-- the part ends within its record
ends_within : (place : ℕ) (e : Entry) (count offset : ℕ) (r : PartRequest) (p : Part) → offset < length e.bytes → More place e count offset r p ⊎ Complete e count offset r p
    → length (take offset e.bytes) + length p.bytes ≤ length e.bytes
ends_within place e count offset r p within (inl more) =
    omega (arith, length-take offset e.bytes, ap length more.bytes, length-take count (drop offset e.bytes), length-drop offset e.bytes)
ends_within place e count offset r p within (inr complete) =
    omega (arith, length-take offset e.bytes, ap length complete.bytes, length-drop offset e.bytes)

-- the bytes of the records up to a place and of the record there are no more than all
bytes_up_to : (records : List Entry) (place : ℕ) (e : Entry) → slice_get records place ≡ Some e
    → (length (bytes_by_place (take place records)) ≡ place) × (place < length records) × (sum_by length (bytes_by_place (take place records)) + length e.bytes ≤ bytes_of records)
bytes_up_to records place e here =
    let within = slice_get_within records place e here in
    let there : get_or (bytes_by_place records) place [] ≡ e.bytes =
    get_or-map (λ (f : Entry). f.bytes) records place e [] within ∙ ap (λ (f : Entry). f.bytes) (get_or_from_slice_get records place e e here) in
    let all = sum_by_more_le length (bytes_by_place records) place [] (omega (arith, length-map records (λ (f : Entry). f.bytes))) in
    let taken : take place (bytes_by_place records) ≡ bytes_by_place (take place records) = take-map (λ (f : Entry). f.bytes) place records in (
      omega (arith, length-map (take place records) (λ (f : Entry). f.bytes), length-take place records),
      within,
      omega (arith, all, ap (sum_by length) taken, ap length there),
    )

one_part : (a : PartAnswer) (p q : Part) → a ≡ Ok p → a ≡ Ok q → p ≡ q
one_part a p q e f = cc

-- too much is a part only of records with too many bytes
module _ (records : List Entry) (lawful : IsLawful records) (few : length records ≤ 4096) (count : ℕ) (least : 8 ≤ count) (most : count ≤ 4079) where
  passes : (old : WalkState) (xs : List Exchange) (x : Exchange) (p : Part) → IsUnderWay records count old xs → old.due ≡ Some x.request
      → AnswersPart records x.request x.answer → x.answer ≡ Ok p → IsTooMuch (room_of old) p → 16777216 < bytes_of records
  passes old xs x p way due answered is much = elim (stands records count xs lawful least most way.walk) [
    | inr past ↦ absurd (let h : None ≡ Some x.request = sym past.asked ∙ asked in cc)
    | inl w ↦
        let request : x.request ≡ w.r = same_Some x.request w.r (sym asked ∙ w.asked) in
        let step = one_step records count xs w x lawful least most request answered in
        let part : step.part ≡ p = one_part x.answer step.part p step.is is in
        let same = collects_once xs old.records (bytes_by_place (take w.place records)) old.under_way (take w.offset w.e.bytes) way.stands.collects w.collects in
        let up = bytes_up_to records w.place w.e w.here in
        let ends = ends_within w.place w.e count w.offset w.r step.part w.within step.kind in
        let long : length old.records ≡ w.place = ap length same.0 ∙ up.0 in
        let held : sum_by length old.records ≡ sum_by length (bytes_by_place (take w.place records)) = ap (sum_by length) same.0 in
        let so_far : length old.under_way ≡ length (take w.offset w.e.bytes) = ap length same.1 in
        let size : length step.part.bytes ≡ length p.bytes = ap (λ (q : Part). length q.bytes) part in
        elim much [
          | inl (_, many) ↦ absurd (omega (arith, many, long, up.1, way.max_records))
          | inr over ↦ omega (arith, over, held, so_far, size, up.2, ends, way.max_bytes)
        ]
  ]
    where
      asked : due_after count xs ≡ Some x.request
      asked = ap (λ n. due_after n xs) (sym way.same_count) ∙ sym way.stands.due ∙ due

  -- the request that is due, of a walker that has made one
  record Asked (old asked : WalkState) (id : ℕ) (request : List ℕ) : Type 0 where
    r : PartRequest
    due : old.due ≡ Some r
    fits : IsPartRequest r
    bytes : request ≡ get_pdr_request_bytes (asked_under id r)
    is : asked ≡ record old { waiting = Some id }

  one_asked : (old asked : WalkState) (id : ℕ) (request : List ℕ) → Asks old id (Some request) asked → Asked old asked id request
  one_asked old asked id request (inl (_, (none, _))) = absurd (let h : Some request ≡ None = none in cc)
  one_asked old asked id request (inr (_, (r, due, fits, is, state))) = record { r = r; due = due; fits = fits; bytes = same_Some request _ is; is = state }

  still_under_way : (old asked : WalkState) (id : ℕ) (request : List ℕ) (xs : List Exchange) → Asked old asked id request → IsUnderWay records count old xs → IsUnderWay records count asked xs
  still_under_way old asked id request xs a way =
      let P : WalkState → Type 0 = λ w. IsUnderWay records count w xs in
      subst P (sym a.is) (record {
        walk = way.walk;
        stands = record { collects = way.stands.collects; due = way.stands.due; goes = way.stands.goes };
        same_count = way.same_count;
        max_records = way.max_records;
        max_bytes = way.max_bytes;
        taken = way.taken;
      })

  -- an answer that is taken
  taken_on : (asked new : WalkState) (xs : List Exchange) (x : Exchange) (out : List ℕ) (step : WalkStep) → IsUnderWay records count asked xs → Takes asked out (Ok step) new
      → Tells (Ok step) asked new → WalksOn records (xs ++ x ∷ []) step new → IsFurther records count xs step new
  taken_on asked new xs x out step way takes told on =
      let after = after_answer asked new out step takes in
      let one_more : new.taken ≡ asked.taken + 1 = ap (λ (w : WalkState). w.taken) after.2 in
      let same : new.count ≡ count = ap (λ (w : WalkState). w.count) after.2 ∙ way.same_count in
      let W : ℕ → Type 0 = λ n. Walk records n (xs ++ x ∷ []) in
      let T : WalkStep → Type 0 = λ s. Tells (Ok s) asked new in
      record {
        exchanges = xs ++ x ∷ [];
        under_way = record {
          walk = subst W same on.walk;
          stands = on.stands;
          same_count = same;
          max_records = ap (λ (w : WalkState). w.max_records) after.2 ∙ way.max_records;
          max_bytes = ap (λ (w : WalkState). w.max_bytes) after.2 ∙ way.max_bytes;
          taken = omega (arith, one_more, way.taken, length_push xs x);
        };
        done = λ is. ap (λ n. due_after n (xs ++ x ∷ [])) (sym same) ∙ sym on.stands.due ∙ (subst T is told).2;
        further = λ _. length_push xs x;
      }

  -- an answer that is not taken
  not_taken : (asked new : WalkState) (xs : List Exchange) (x : Exchange) (out : List ℕ) (f : WalkFault) → IsUnderWay records count asked xs → Takes asked out (Err f) new → IsDueAnswer asked out records xs x
      → (f ≡ fault.TooMuch) ⊎ (f ≡ fault.OutOfMemory) → (f ≡ fault.OutOfMemory) ⊎ ((f ≡ fault.TooMuch) × (16777216 < bytes_of records))
  not_taken asked new xs x out f way takes given (inr memory) = inl memory
  not_taken asked new xs x out f way takes given (inl is) =
      let R : WalkFault → Type 0 = λ g. Takes asked out (Err g) new in
      let much = answer_too_much asked new out (subst R is takes) in
      let n : ResponseMessage Part = record { head = given.head; outcome = x.answer } in
      let same : much.message ≡ n = one_get_pdr_answer much.message n much.spelled.0 given.spelled.0 (sym much.spelled.1 ∙ given.spelled.1) in
      let outcome : x.answer ≡ Ok much.part = ap (λ (m : ResponseMessage Part). m.outcome) (sym same) ∙ much.given in
      inr (is, passes asked xs x much.part way given.due given.answered outcome much.too_much)

  pub exchanged : (old asked new : WalkState) (id tid next_tid : ℕ) (xs : List Exchange) (request out read : List ℕ) (said : Bool) (result : Result WalkStep WalkFault) → id < 32 → read ≡ out → IsUnderWay records count old xs
      → Asks old id (Some request) asked → Answers tid records request (answer_of said out) next_tid → Takes asked read result new → Tells result asked new → TakesDueAnswer asked read result new
      → MatchResult result (λ step. IsFurther records count xs step new) (λ f. (f ≡ fault.OutOfMemory) ⊎ ((f ≡ fault.TooMuch) × (16777216 < bytes_of records)))
  exchanged old asked new id tid next_tid xs request out read said result small same way asks answers takes told goes = by result takes told (goes records xs x given)
    where
      a : Asked old asked id request
      a = one_asked old asked id request asks

      on : IsUnderWay records count asked xs
      on = still_under_way old asked id request xs a way

      replied : AnswersWalker records id a.r (answer_of said out)
      replied =
          let P : List ℕ → Type 0 = λ bytes. Answers tid records bytes (answer_of said out) next_tid in
          requests_are_answered tid next_tid id records a.r (answer_of said out) lawful a.fits small (subst P a.bytes answers)

      x : Exchange
      x = record { request = a.r; answer = replied.outcome }

      given : IsDueAnswer asked read records xs x
      given =
          let W : ℕ → Type 0 = λ n. Walk records n xs in
          let A : List ℕ → Type 0 = λ bytes. IsAnswerIn bytes (record { head = record { reserved = false; instance = id }; outcome = replied.outcome }) in
          record {
            lawful = lawful;
            walk = subst W (sym on.same_count) on.walk;
            stands = on.stands;
            due = ap (λ (w : WalkState). w.due) a.is ∙ a.due;
            answered = replied.answered;
            head = record { reserved = false; instance = id };
            waiting = ap (λ (w : WalkState). w.waiting) a.is;
            spelled = subst A (sym (same ∙ answered_bytes said out replied.bytes replied.is)) replied.spelled;
          }

      by : (result : Result WalkStep WalkFault) → Takes asked read result new → Tells result asked new
          → MatchResult result (λ step. WalksOn records (xs ++ x ∷ []) step new) (λ f. (f ≡ fault.TooMuch) ⊎ (f ≡ fault.OutOfMemory))
          → MatchResult result (λ step. IsFurther records count xs step new) (λ f. (f ≡ fault.OutOfMemory) ⊎ ((f ≡ fault.TooMuch) × (16777216 < bytes_of records)))
      by (Ok step) takes told further = taken_on asked new xs x read step on takes told further
      by (Err f) takes told why = not_taken asked new xs x read f on takes given why

  -- where no request is made, the walk is finished
  pub nothing_due : (old asked : WalkState) (id : ℕ) (xs : List Exchange) → IsUnderWay records count old xs → Asks old id None asked → IsFurther records count xs Done asked
  nothing_due old asked id xs way (inr (_, (r, _, _, is, _))) = absurd (let h : None ≡ Some (get_pdr_request_bytes (asked_under id r)) = is in cc)
  nothing_due old asked id xs way (inl (over, (_, same))) =
      let P : WalkState → Type 0 = λ w. IsUnderWay records count w xs in
      let due : old.due ≡ None = elim over [ inl failed ↦ absurd (let h : true ≡ false = sym failed ∙ way.stands.goes in cc) | inr done ↦ done ] in
      record {
        exchanges = xs;
        under_way = subst P (sym same) way;
        done = λ _. ap (λ n. due_after n xs) (sym way.same_count) ∙ sym way.stands.due ∙ due;
        further = λ other. absurd (other refl);
      }

  -- a finished walk has collected all records
  pub collected : (w : WalkState) (xs : List Exchange) → IsUnderWay records count w xs → IsFinished count xs → HasCollected records count w
  collected w xs way done =
      let all = every_walk_collects records count xs lawful least most way.walk in
      let same = collects_once xs w.records all.collected w.under_way all.under_way way.stands.collects all.collects in
      (same.0 ∙ (all.whole done).0, way.taken ∙ all.exact.0 done)

  pub not_over : (w : WalkState) (xs : List Exchange) → IsUnderWay records count w xs → w.taken ≤ exchanges count records
  not_over w xs way = let all = every_walk_collects records count xs lawful least most way.walk in omega (arith, way.taken, all.bounded)

-- the same of an exchange in a loop, whose terminus keeps its records
module _ (records all : List Entry) (lawful : IsLawful all) (few : length all ≤ 4096) (count : ℕ) (least : 8 ≤ count) (most : count ≤ 4079) (same : records ≡ all)
    (old new : WalkState) (xs : List Exchange) (step : WalkStep) (way : IsUnderWay all count old xs) (goes : (ys : List Exchange) → IsUnderWay records count old ys → IsFurther records count ys step new) where
  on : IsFurther all count xs step new
  on =
      let P : List Entry → Type 0 = λ rs. IsUnderWay rs count old xs in
      let Q : List Entry → Type 0 = λ rs. IsFurther rs count xs step new in
      subst Q same (goes xs (subst P (sym same) way))

  pub fewer_left : step ≢ Done → exchanges count all - new.taken < exchanges count all - old.taken
  fewer_left other = omega (arith, not_over all lawful few count least most new on.exchanges on.under_way, on.further other, on.under_way.taken, way.taken)

  pub all_collected : step ≡ Done → HasCollected all count new
  all_collected is = collected all lawful few count least most new on.exchanges on.under_way (on.done is)
