-- Whatever the bytes, a walker makes something of them where memory suffices.
use Rattle.std.{proofs.Common.{◌≡◌, ◌≢◌, ℕ, zero, suc, ◌+◌, ◌<◌, Bool, true, false, List, [], ◌∷◌, ◌++◌, length, Option, Some, None, Result, Ok, Err, refl, sym, ap, ◌∙◌, subst, inl, inr, arith}, specs.Prelude.{MatchOption, MatchResult, Any, slice_index_or}, proofs.lemmas.Option.{same_Some}}
use Rattle.pldm_message.{specs.Headers.{HeaderValue, BeginsWith}, specs.Pdrs.{PartRequest, Part}}
use Rattle.pdr_repository.{specs.Crc.{IsCrc}, specs.Records.{handle_in, data_length_in}, specs.Parts.{PartAnswer}, specs.Faults.{IsLast, IsFlagFor, HasWrongFlag, HasWrongSize, HasWrongCrc, HasWrongHandle, HasDoubledHandle, Room, IsTooMuch, Judges}, specs.declared.walk_fault.Step.{Step as WalkStep}, specs.declared.walk_fault.WalkFault.{WalkFault}, specs.declared.walk_fault.WalkFault.TheVariants.{FailedBefore, NotAsked, Unreadable, RecordChanged, OtherCode, WrongFlag, WrongSize, WrongCrc, WrongHandle, DoubledHandle, TooMuch, OutOfMemory}, specs.Walkers.{WalkState, Takes, TakesMessage, TakesOutcome, room_of, state_after, step_after}, proofs.AnswersRead.{header_or_none, answer_or_none}, proofs.CheckBytes.{crc_or_not}, proofs.Deciding.{OrNot, both_or_not, either_or_not, not_or_not, same_or_not, less_or_not, at_most_or_not}}

-- ---- what can be wrong with a part

last_or_not : (p : Part) → OrNot (IsLast p)
last_or_not p = either_or_not _ _ (same_or_not p.flag 4) (same_or_not p.flag 5)

wrong_flag_or_not : (r : PartRequest) (p : Part) → OrNot (HasWrongFlag r p)
wrong_flag_or_not r p = either_or_not _ _ (not_or_not _ flag_or_not) (both_or_not _ _ (not_or_not _ (last_or_not p)) (same_or_not p.transfer 0))
  where
    flag_or_not : OrNot (IsFlagFor r p)
    flag_or_not =
        either_or_not _ _ (both_or_not _ _ (same_or_not r.operation 1) (either_or_not _ _ (same_or_not p.flag 0) (same_or_not p.flag 5)))
        (both_or_not _ _ (same_or_not r.operation 0) (either_or_not _ _ (same_or_not p.flag 1) (same_or_not p.flag 4)))

wrong_size_or_not : (before : List ℕ) (r : PartRequest) (p : Part) → OrNot (HasWrongSize before r p)
wrong_size_or_not before r p =
    either_or_not _ _ (same_or_not (length p.bytes) 0)
    (either_or_not _ _ (less_or_not r.count (length p.bytes))
    (either_or_not _ _ (both_or_not _ _ (same_or_not p.flag 0) (less_or_not (length p.bytes) 8))
    (both_or_not _ _ (last_or_not p) (not_or_not _ (same_or_not (10 + data_length_in (before ++ p.bytes)) (length (before ++ p.bytes)))))))

wrong_crc_or_not : (before : List ℕ) (p : Part) → OrNot (HasWrongCrc before p)
wrong_crc_or_not before p = by p.crc
  where
    by : (crc : Option ℕ) → OrNot (MatchOption crc ⊥ (λ c. ¬ IsCrc (before ++ p.bytes) c))
    by None = inr (λ h. h)
    by (Some c) = not_or_not _ (crc_or_not (before ++ p.bytes) c)

wrong_handle_or_not : (before : List ℕ) (r : PartRequest) (p : Part) → OrNot (HasWrongHandle before r p)
wrong_handle_or_not before r p =
    both_or_not _ _ (last_or_not p)
    (either_or_not _ _ (same_or_not (handle_in (before ++ p.bytes)) 0)
    (both_or_not _ _ (not_or_not _ (same_or_not r.handle 0)) (not_or_not _ (same_or_not (handle_in (before ++ p.bytes)) r.handle))))

any_or_not : (P : List ℕ → Type 0) → ((xs : List ℕ) → OrNot (P xs)) → (xss : List (List ℕ)) → OrNot (Any P xss)
any_or_not P test [] = inr (λ (k, x, small, at, is). omega arith)
any_or_not P test (xs ∷ xss) = elim (test xs) [
  | inl is ↦ inl (0, xs, omega arith, refl, is)
  | inr not ↦ elim (any_or_not P test xss) [
    | inl (k, x, small, at, is) ↦ inl (suc k, x, omega arith, at, is)
    | inr none ↦ inr (λ (k, x, small, at, is). in_neither k x small at is not none)
  ]
]
  where
    in_neither : (k : ℕ) (x : List ℕ) → k < length (xs ∷ xss) → slice_index_or (xs ∷ xss) k x ≡ x → P x → ¬ P xs → ¬ Any P xss → ⊥
    in_neither zero x small at is not none = not (subst P (sym at) is)
    in_neither (suc k) x small at is not none = none (k, x, omega arith, at, is)

doubled_or_not : (records : List (List ℕ)) (before : List ℕ) (p : Part) → OrNot (HasDoubledHandle records before p)
doubled_or_not records before p =
    both_or_not _ _ (last_or_not p)
    (any_or_not (λ bytes. handle_in bytes ≡ handle_in (before ++ p.bytes)) (λ bytes. same_or_not (handle_in bytes) (handle_in (before ++ p.bytes))) records)

too_much_or_not : (room : Room) (p : Part) → OrNot (IsTooMuch room p)
too_much_or_not room p =
    either_or_not _ _ (both_or_not _ _ (last_or_not p) (at_most_or_not room.max_records room.records)) (less_or_not room.max_bytes (room.bytes + length p.bytes))

some_judgement : (room : Room) (records : List (List ℕ)) (before : List ℕ) (r : PartRequest) (p : Part)
    → (fault : Option WalkFault) × Judges room records before r p fault × (fault ≢ Some OutOfMemory)
some_judgement room records before r p = elim (wrong_flag_or_not r p) [
  | inl wrong ↦ (Some WrongFlag, inl (wrong, refl), λ e. cc)
  | inr flag ↦ elim (wrong_size_or_not before r p) [
    | inl wrong ↦ (Some WrongSize, inr (flag, inl (wrong, refl)), λ e. cc)
    | inr size ↦ elim (wrong_crc_or_not before p) [
      | inl wrong ↦ (Some WrongCrc, inr (flag, inr (size, inl (wrong, refl))), λ e. cc)
      | inr crc ↦ elim (wrong_handle_or_not before r p) [
        | inl wrong ↦ (Some WrongHandle, inr (flag, inr (size, inr (crc, inl (wrong, refl)))), λ e. cc)
        | inr handle ↦ elim (doubled_or_not records before p) [
          | inl wrong ↦ (Some DoubledHandle, inr (flag, inr (size, inr (crc, inr (handle, inl (wrong, refl))))), λ e. cc)
          | inr double ↦ elim (too_much_or_not room p) [
            | inl wrong ↦ (Some TooMuch, inr (flag, inr (size, inr (crc, inr (handle, inr (double, inl (wrong, refl)))))), λ e. cc)
            | inr fits ↦ (None, inr (flag, inr (size, inr (crc, inr (handle, inr (double, inr (fits, refl)))))), λ e. cc)
          ]
        ]
      ]
    ]
  ]
]

-- ---- what a walker makes of bytes

-- something comes of them, not for want of memory; a step only where a request is outstanding
pub record SomeTaking (old : WalkState) (bytes : List ℕ) : Type 0 where
  pub result : Result WalkStep WalkFault
  pub new : WalkState
  pub takes : Takes old bytes result new
  pub memory : result ≢ Err OutOfMemory
  pub answers : MatchResult result (λ step. (id : ℕ) × (old.waiting ≡ Some id)) (λ fault. Unit {0})

-- what comes of a message under the outstanding ID
record SomeOutcome (P : Result WalkStep WalkFault → WalkState → Type 0) : Type 0 where
  result : Result WalkStep WalkFault
  new : WalkState
  is : P result new
  memory : result ≢ Err OutOfMemory

other_fault : (fault : WalkFault) → Some fault ≢ Some OutOfMemory → ◌≢◌ {A = Result WalkStep WalkFault} (Err fault) (Err OutOfMemory)
other_fault fault other e = other (ap Some (same fault OutOfMemory e))
  where
    same : (f g : WalkFault) → ◌≡◌ {A = Result WalkStep WalkFault} (Err f) (Err g) → f ≡ g
    same f g e = cc

some_outcome : (old : WalkState) (r : PartRequest) (a : PartAnswer) → SomeOutcome (TakesOutcome old r a)
some_outcome old r (Err code) = elim (same_or_not code 0x83) [
  | inl changed ↦ record { result = Err RecordChanged; new = record old { failed = true; taken = old.taken + 1 }; is = inl (changed, (refl, refl)); memory = λ e. cc }
  | inr other ↦ record { result = Err OtherCode; new = record old { failed = true; taken = old.taken + 1 }; is = inr (other, (refl, refl)); memory = λ e. cc }
]
some_outcome old r (Ok p) = by (some_judgement (room_of old) old.records old.under_way r p)
  where
    by : (fault : Option WalkFault) × Judges (room_of old) old.records old.under_way r p fault × (fault ≢ Some OutOfMemory) → SomeOutcome (TakesOutcome old r (Ok p))
    by (Some fault, judges, other) = record {
      result = Err fault;
      new = record old { failed = true; taken = old.taken + 1 };
      is = (Some fault, judges, (refl, refl));
      memory = other_fault fault other;
    }
    by (None, judges, other) = record { result = Ok (step_after p); new = state_after old r p; is = (None, judges, (refl, refl)); memory = λ e. cc }

some_message : (old : WalkState) (bytes : List ℕ) (r : PartRequest) → old.due ≡ Some r → SomeOutcome (TakesMessage old bytes)
some_message old bytes r due = elim (answer_or_none bytes) [
  | inr none ↦ record { result = Err Unreadable; new = record old { failed = true; taken = old.taken + 1 }; is = inl (none, (refl, refl)); memory = λ e. cc }
  | inl (m, is) ↦
      let o = some_outcome old r m.outcome in
      record { result = o.result; new = o.new; is = inr ((λ none. none m is), (m, r, is, due, o.is)); memory = o.memory }
]

pub takes_something : (old : WalkState) (bytes : List ℕ) → (old.waiting ≢ None → old.due ≢ None) → SomeTaking old bytes
takes_something old bytes outstanding = failed old.failed refl
  where
    ignored : (fault : WalkFault) → Some fault ≢ Some OutOfMemory → Takes old bytes (Err fault) old → SomeTaking old bytes
    ignored fault other takes = record { result = Err fault; new = old; takes = takes; memory = other_fault fault other; answers = tt }

    failed : (b : Bool) → old.failed ≡ b → SomeTaking old bytes
    failed true is = ignored FailedBefore (λ e. cc) (inl (is, (refl, refl)))
    failed false is = waits old.waiting refl
      where
        goes : ¬ (old.failed ≡ true)
        goes has = let e : false ≡ true = sym is ∙ has in cc

        waits : (o : Option ℕ) → old.waiting ≡ o → SomeTaking old bytes
        waits None none = ignored NotAsked (λ e. cc) (inr (goes, inl (none, (refl, refl))))
        waits (Some id) under = is_due old.due refl
          where
            some : ¬ (old.waiting ≡ None)
            some none = let e : Some id ≡ None = sym under ∙ none in cc

            headed : (r : PartRequest) → old.due ≡ Some r → (h : HeaderValue) → BeginsWith h bytes → SomeTaking old bytes
            headed r due h begins = elim (same_or_not id h.instance) [
              | inr other ↦
                  ignored NotAsked (λ e. cc)
                  (inr (goes, inr (some, inr ((λ none. none h begins), (h, begins, inl ((λ same. other (same_Some id h.instance (sym under ∙ same))), (refl, refl)))))))
              | inl mine ↦
                  let m = some_message old bytes r due in
                  let is : old.waiting ≡ Some h.instance = under ∙ ap Some mine in
                  record {
                    result = m.result;
                    new = m.new;
                    takes = inr (goes, inr (some, inr ((λ none. none h begins), (h, begins, inr ((λ other. other is), m.is)))));
                    memory = m.memory;
                    answers = under_it m.result;
                  }
            ]
              where
                under_it : (result : Result WalkStep WalkFault) → MatchResult result (λ step. (id : ℕ) × (old.waiting ≡ Some id)) (λ fault. Unit {0})
                under_it (Ok step) = (id, under)
                under_it (Err fault) = tt

            is_due : (o : Option PartRequest) → old.due ≡ o → SomeTaking old bytes
            is_due None none = absurd (outstanding some none)
            is_due (Some r) due = elim (header_or_none bytes) [
              | inr none ↦
                  record {
                    result = Err Unreadable;
                    new = record old { failed = true; taken = old.taken + 1 };
                    takes = inr (goes, inr (some, inl (none, (refl, refl))));
                    memory = λ e. cc;
                    answers = tt;
                  }
              | inl (h, begins) ↦ headed r due h begins
            ]
