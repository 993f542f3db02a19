-- A walker whose limits suffice takes the answer to its request.
use Rattle.std.{proofs.Common.{◌≡◌, ◌≢◌, ℕ, zero, suc, ◌+◌, ◌-◌, ◌≤◌, min, List, [], ◌∷◌, ◌++◌, length, take, drop, slice_get, Some, None, Result, Ok, Err, refl, sym, ap, ◌∙◌, subst, inl, inr, arith}, specs.Prelude.{sum_by}, specs.Int.{div_ceil}, proofs.lemmas.Bool.{cases_lt}, proofs.lemmas.Grind.{div_ceil_times}, proofs.lemmas.Nat.{mul-le}, proofs.lemmas.List.{length-map, length-take, length-drop}, proofs.lemmas.List.Sums.{sum_by-append}, proofs.lemmas.Option.{same_Some, slice_get_within, none-some}}
use Rattle.pldm_message.{specs.Messages.{ResponseMessage}, specs.Pdrs.{PartRequest, Part}, specs.PdrLaws.{one_get_pdr_answer}}
use Rattle.pdr_repository.{specs.Records.{Entry, bytes_by_place}, specs.Parts.{PartAnswer, offset_of}, specs.Walks.{Exchange, exchanges}, specs.Faults.{Room, IsTooMuch, Judges}, specs.declared.walk_fault.Step.{Step as WalkStep}, specs.declared.walk_fault.WalkFault.{WalkFault}, specs.declared.walk_fault.WalkFault.TheVariants.{FailedBefore, NotAsked, Unreadable, RecordChanged, OtherCode, WrongFlag, WrongSize, WrongCrc, WrongHandle, DoubledHandle, TooMuch, OutOfMemory}, specs.Walkers.{WalkState, IsAnswerIn, Takes, TakesOutcome, room_of, IsDueAnswer, WalksOn}, proofs.Collecting.{collects_once}, proofs.Dues.{at_offset}, proofs.Following.{goes_on}, proofs.Walks.{Within, stands, one_step}, proofs.SomeTakings.{takes_something}}

-- ---- sums over the records

-- the records before a place and the one there
sum_front : (records : List Entry) (place : ℕ) (e : Entry) → slice_get records place ≡ Some e
    → sum_by length (bytes_by_place (take place records)) + length e.bytes ≤ sum_by (λ (x : Entry). length x.bytes) records
sum_front [] place e is = absurd (none-some e is)
sum_front (f ∷ fs) zero e is =
    let same = ap (λ (x : Entry). length x.bytes) (same_Some f e is) in
    let parts = sum_by-append (λ (x : Entry). length x.bytes) (f ∷ []) fs in
    omega arith
sum_front (f ∷ fs) (suc place) e is =
    let rest = sum_front fs place e is in
    let parts = sum_by-append (λ (x : Entry). length x.bytes) (f ∷ []) fs in
    let front = sum_by-append (λ (xs : List ℕ). length xs) (f.bytes ∷ []) (bytes_by_place (take place fs)) in
    omega arith

parts_most : (size count : ℕ) → 1 ≤ count → div_ceil size count ≤ size
parts_most size count some = elim (cases_lt size (div_ceil size count)) [
  | inr fits ↦ fits
  | inl more ↦
      let bounds = div_ceil_times size count some in
      let large = mul-le (size + 1) count (div_ceil size count) count (omega arith) (omega arith) in
      let least = mul-le size 1 size count (omega arith) some in
      absurd (omega (arith, bounds.1, large, least))
]

-- a walk has no more exchanges than the records have bytes
pub exchanges_most : (count : ℕ) → 1 ≤ count → (records : List Entry) → exchanges count records ≤ sum_by (λ (e : Entry). length e.bytes) records
exchanges_most count some [] = omega arith
exchanges_most count some (e ∷ es) =
    let rest = exchanges_most count some es in
    let one = parts_most (length e.bytes) count some in
    let left = sum_by-append (λ (x : Entry). div_ceil (length x.bytes) count) (e ∷ []) es in
    let right = sum_by-append (λ (x : Entry). length x.bytes) (e ∷ []) es in
    omega arith

-- ---- what is too much

other_told : (f g : WalkFault) → ◌≡◌ {A = Result WalkStep WalkFault} (Err f) (Err g) → f ≡ g
other_told f g e = cc

same_part : (p q : Part) → ◌≡◌ {A = PartAnswer} (Ok p) (Ok q) → p ≡ q
same_part p q e = cc

judged_much : (room : Room) (records : List (List ℕ)) (before : List ℕ) (r : PartRequest) (p : Part) → Judges room records before r p (Some TooMuch) → IsTooMuch room p
judged_much room records before r p (inl (_, is)) = absurd (let e : Some TooMuch ≡ Some WrongFlag = is in cc)
judged_much room records before r p (inr (_, inl (_, is))) = absurd (let e : Some TooMuch ≡ Some WrongSize = is in cc)
judged_much room records before r p (inr (_, inr (_, inl (_, is)))) = absurd (let e : Some TooMuch ≡ Some WrongCrc = is in cc)
judged_much room records before r p (inr (_, inr (_, inr (_, inl (_, is))))) = absurd (let e : Some TooMuch ≡ Some WrongHandle = is in cc)
judged_much room records before r p (inr (_, inr (_, inr (_, inr (_, inl (_, is)))))) = absurd (let e : Some TooMuch ≡ Some DoubledHandle = is in cc)
judged_much room records before r p (inr (_, inr (_, inr (_, inr (_, inr (_, inl (much, is))))))) = much
judged_much room records before r p (inr (_, inr (_, inr (_, inr (_, inr (_, inr (_, is))))))) = absurd (let e : Some TooMuch ≡ None = is in cc)

-- the part that is too much
abbrev MuchIn : WalkState → PartAnswer → Type 0
MuchIn old a = (p : Part) × (a ≡ Ok p) × IsTooMuch (room_of old) p

outcome_much : (old : WalkState) (r : PartRequest) (a : PartAnswer) (new : WalkState) → TakesOutcome old r a (Err TooMuch) new → MuchIn old a
outcome_much old r (Err code) new (inl (_, (told, is))) = absurd (let e : TooMuch ≡ RecordChanged = other_told _ _ told in cc)
outcome_much old r (Err code) new (inr (_, (told, is))) = absurd (let e : TooMuch ≡ OtherCode = other_told _ _ told in cc)
outcome_much old r (Ok p) new (None, judges, (why, is)) = absurd (let e : TooMuch ≡ OutOfMemory = why in cc)
outcome_much old r (Ok p) new (Some fault, judges, (told, is)) =
    let J : WalkFault → Type 0 = λ f. Judges (room_of old) old.records old.under_way r p (Some f) in
    (p, refl, judged_much (room_of old) old.records old.under_way r p (subst J (sym (other_told TooMuch fault told)) judges))

takes_much : (old : WalkState) (bytes : List ℕ) (m : ResponseMessage Part) (new : WalkState) → IsAnswerIn bytes m → Takes old bytes (Err TooMuch) new → MuchIn old m.outcome
takes_much old bytes m new spelled (inl (_, (told, is))) = absurd (let e : TooMuch ≡ FailedBefore = other_told _ _ told in cc)
takes_much old bytes m new spelled (inr (_, inl (_, (told, is)))) = absurd (let e : TooMuch ≡ NotAsked = other_told _ _ told in cc)
takes_much old bytes m new spelled (inr (_, inr (_, inl (_, (told, is))))) = absurd (let e : TooMuch ≡ Unreadable = other_told _ _ told in cc)
takes_much old bytes m new spelled (inr (_, inr (_, inr (_, (h, begins, inl (_, (told, is))))))) = absurd (let e : TooMuch ≡ NotAsked = other_told _ _ told in cc)
takes_much old bytes m new spelled (inr (_, inr (_, inr (_, (h, begins, inr (_, inl (none, out))))))) = absurd (none m spelled)
takes_much old bytes m new spelled (inr (_, inr (_, inr (_, (h, begins, inr (_, inr (_, (other, r, is, due, out)))))))) =
    let M : ResponseMessage Part → Type 0 = λ a. MuchIn old a.outcome in
    subst M (one_get_pdr_answer other m is.0 spelled.0 (sym is.1 ∙ spelled.1)) (outcome_much old r other.outcome new out)

module _ (records : List Entry) (old : WalkState) (bytes : List ℕ) (xs : List Exchange) (x : Exchange) (least : 8 ≤ old.count) (most : old.count ≤ 4079) (given : IsDueAnswer old bytes records xs x) where
  answer_fits : (new : WalkState) → length records ≤ old.max_records → sum_by (λ (e : Entry). length e.bytes) records ≤ old.max_bytes → ¬ Takes old bytes (Err TooMuch) new
  answer_fits new few small takes = elim (stands records old.count xs given.lawful least most given.walk) [
    | inr past ↦ let f : None ≡ Some x.request = sym past.asked ∙ sym given.stands.due ∙ given.due in cc
    | inl w ↦ fits w (takes_much old bytes (record { head = given.head; outcome = x.answer }) new given.spelled takes)
  ]
    where
      fits : Within records old.count xs → MuchIn old x.answer → ⊥
      fits w (p, is, much) =
          let request : x.request ≡ w.r = same_Some x.request w.r (sym given.due ∙ given.stands.due ∙ w.asked) in
          let step = one_step records old.count xs w x given.lawful least most request given.answered in
          let same = collects_once xs old.records (bytes_by_place (take w.place records)) old.under_way (take w.offset w.e.bytes) given.stands.collects w.collects in
          let part : step.part ≡ p = same_part step.part p (sym step.is ∙ is) in
          let long : length p.bytes ≡ length (take (min w.r.count 4079) (drop (offset_of w.r) w.e.bytes)) = ap (λ (q : Part). length q.bytes) (sym part) ∙ ap length step.of_record.taken in
          let at = at_offset w.e w.offset w.r w.due.operation in
          let within = w.within in
          let rest : length p.bytes ≤ length w.e.bytes - offset_of w.r = omega (arith, long, length-take (min w.r.count 4079) (drop (offset_of w.r) w.e.bytes), length-drop (offset_of w.r) w.e.bytes) in
          let so_far : length old.under_way ≤ w.offset = omega (arith, ap length same.1, length-take w.offset w.e.bytes) in
          let before : sum_by length old.records ≡ sum_by length (bytes_by_place (take w.place records)) = ap (sum_by length) same.0 in
          let total = sum_front records w.place w.e w.here in
          let number : length old.records ≡ length (take w.place records) = ap length same.0 ∙ length-map (take w.place records) (λ (e : Entry). e.bytes) in
          let inside = slice_get_within records w.place w.e w.here in
          elim much [
            | inl (last, full) ↦ omega (arith, full, number, length-take w.place records, inside, few)
            | inr large ↦ omega (arith, large, rest, at, within, so_far, before, total, small)
          ]

  -- it is taken, and the walk goes on
  pub record TakesOn : Type 0 where
    pub step : WalkStep
    pub new : WalkState
    pub takes : Takes old bytes (Ok step) new
    pub walks : WalksOn records (xs ++ x ∷ []) step new

  pub takes_on : length records ≤ old.max_records → sum_by (λ (e : Entry). length e.bytes) records ≤ old.max_bytes → TakesOn
  takes_on few small =
      let t = takes_something old bytes (λ some none. let e : Some x.request ≡ None = sym given.due ∙ none in cc) in
      by t.result t.new t.takes t.memory
    where
      by : (result : Result WalkStep WalkFault) (new : WalkState) → Takes old bytes result new → result ≢ Err OutOfMemory → TakesOn
      by (Ok step) new takes memory = record { step = step; new = new; takes = takes; walks = goes_on old new bytes (Ok step) least most takes records xs x given }
      by (Err fault) new takes memory = elim (goes_on old new bytes (Err fault) least most takes records xs x given) [
        | inl much ↦ let T : WalkFault → Type 0 = λ f. Takes old bytes (Err f) new in absurd (answer_fits new few small (subst T much takes))
        | inr want ↦ absurd (memory (ap Err want))
      ]
