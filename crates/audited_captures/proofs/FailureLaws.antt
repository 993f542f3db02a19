-- Answers that fail, and the line that tells them.
use Rattle.std.{proofs.Common.{◌≡◌, ℕ, ◌==◌, Bool, true, false, List, [], ◌∷◌, ◌++◌, refl, ap, sym, ◌∙◌, inl, inr}, specs.Prelude.{IsTrue, if◌then◌else◌}, specs.List.{flat_map}, proofs.lemmas.Bool.{cases_Bool}}
use Rattle.mctp_control.{specs.RouteEntries.{EntryValue}, specs.Responses.{AnswerValue, EidSet, EidTold, PoolTold, EntriesTold, Failed}}
use Rattle.audited_captures.{specs.AsPlanned.{IsAmong}, specs.Counting.{difference_count, has_compared}, specs.Failures.{fails, code_if, failed_lines}, specs.Readings.{PartValue, Turn, Other, Fails, Refuses, Ends, GoesOn, turn_by, turn_of, told_by, ReadingValue, Read, Refused, Unended, behind, read_from, readings}, specs.declared.failures.Topic.{Topic}, proofs.PlannedReadings.{flat_nil, flat_none}}
use Rattle.audited_captures.specs.declared.failures.Topic.TheVariants as topic

-- ---- one answer

no_code : (about : Topic) (a : AnswerValue) → fails about a ≡ false → code_if about a ≡ []
no_code about (Failed command code) is = ap (λ (b : Bool). if b then code ∷ [] else []) is
no_code about (EidSet status eid size) is = refl
no_code about (EidTold eid status medium) is = refl
no_code about (PoolTold status size first) is = refl
no_code about (EntriesTold next entries) is = refl

a_code : (about : Topic) (a : AnswerValue) → fails about a ≡ true → (c : ℕ) × (code_if about a ≡ c ∷ [])
a_code about (Failed command code) is = (code, ap (λ (b : Bool). if b then code ∷ [] else []) is)
a_code about (EidSet status eid size) is = absurd (cc)
a_code about (EidTold eid status medium) is = absurd (cc)
a_code about (PoolTold status size first) is = absurd (cc)
a_code about (EntriesTold next entries) is = absurd (cc)

-- ---- answers of some things

module _ {A : Type 0} (about : Topic) (answer : A → AnswerValue) where
  abbrev all : List A → List ℕ
  all xs = flat_map (λ x. code_if about (answer x)) xs

  pub none_fails : (xs : List A) → all xs ≡ [] → (x : A) → IsAmong x xs → ¬ IsTrue (fails about (answer x))
  none_fails xs none x among is =
      let one = a_code about (answer x) is in
      let empty : one.0 ∷ [] ≡ [] = sym one.1 ∙ flat_nil (λ y. code_if about (answer y)) xs none x among in cc

  pub no_failures : (xs : List A) → ((x : A) → IsAmong x xs → ¬ IsTrue (fails about (answer x))) → all xs ≡ []
  no_failures xs each = flat_none (λ y. code_if about (answer y)) xs (λ x among. no_code about (answer x) (isnt (fails about (answer x)) (each x among)))
    where
      isnt : (b : Bool) → (b ≡ true → ⊥) → b ≡ false
      isnt true never = absurd (never refl)
      isnt false never = refl

  pub some_fails : (xs : List A) (c : ℕ) (cs : List ℕ) → all xs ≡ c ∷ cs → (x : A) × IsAmong x xs × IsTrue (fails about (answer x))
  some_fails [] c cs is = absurd (cc)
  some_fails (x ∷ xs) c cs is = elim (cases_Bool (fails about (answer x))) [
    | inl here ↦ (x, inl refl, here)
    | inr sound ↦ (
        let later = some_fails xs c cs (sym (ap (λ (ds : List ℕ). ds ++ all xs) (no_code about (answer x) sound)) ∙ is) in
        (later.0, inr later.1, later.2))
  ]

  pub a_failure : (xs : List A) (x : A) → IsAmong x xs → IsTrue (fails about (answer x)) → (c : ℕ) × (cs : List ℕ) × (all xs ≡ c ∷ cs)
  a_failure xs x among is = by (all xs) refl
    where
      by : (ds : List ℕ) → all xs ≡ ds → (c : ℕ) × (cs : List ℕ) × (all xs ≡ c ∷ cs)
      by [] none = absurd (none_fails xs none x among is)
      by (c ∷ cs) some = (c, cs, some)

-- ---- the line

pub remark_zero : (words : List ℕ) (fs : List ℕ) → difference_count (failed_lines true words fs) ≡ 0
remark_zero words [] = refl
remark_zero words (c ∷ cs) = refl

pub failed_zero : (words : List ℕ) (fs : List ℕ) → difference_count (failed_lines false words fs) ≡ 0 → fs ≡ []
failed_zero words [] zero = refl
failed_zero words (c ∷ cs) zero = absurd (cc)

pub zero_failed : (is_remark : Bool) (words : List ℕ) (fs : List ℕ) → fs ≡ [] → difference_count (failed_lines is_remark words fs) ≡ 0
zero_failed is_remark words fs none = ap (λ x. difference_count (failed_lines is_remark words x)) none

pub failed_compared : (is_remark : Bool) (words : List ℕ) (fs : List ℕ) → has_compared (failed_lines is_remark words fs) ≡ true
    → (is_remark ≡ false) × (c : ℕ) × (cs : List ℕ) × (fs ≡ c ∷ cs)
failed_compared is_remark words [] is = absurd (cc)
failed_compared true words (c ∷ cs) is = absurd (cc)
failed_compared false words (c ∷ cs) is = (refl, c, cs, refl)

pub compared_failed : (words : List ℕ) (fs : List ℕ) (c : ℕ) (cs : List ℕ) → fs ≡ c ∷ cs → has_compared (failed_lines false words fs) ≡ true
compared_failed words fs c cs is = ap (λ x. has_compared (failed_lines false words x)) is

-- ---- a reading that an answer refuses

by_answer : (a : AnswerValue) → turn_by a ≡ Refuses → IsTrue (fails topic.Table a)
by_answer (Failed command code) is = refl
by_answer (EidSet status eid size) is = absurd (cc)
by_answer (EidTold eid status medium) is = absurd (cc)
by_answer (PoolTold status size first) is = absurd (cc)
by_answer (EntriesTold next entries) is = absurd (goes (next == 255) (next == 0) is)
  where
    goes : (last again : Bool) → (if last then Ends entries else if again then Fails else GoesOn next entries) ≡ Refuses → ⊥
    goes true again so = cc
    goes false true so = cc
    goes false false so = cc

turn_refuses : (requester due : ℕ) (p : PartValue) → turn_of requester due p ≡ Refuses → IsTrue (fails topic.Table p.answer)
turn_refuses requester due p is = by (p.requester == requester) (p.handle == due) is
  where
    by : (own follows : Bool) → (if own then (if follows then turn_by p.answer else Fails) else Other) ≡ Refuses → IsTrue (fails topic.Table p.answer)
    by true true takes = by_answer p.answer takes
    by true false so = absurd (cc)
    by false follows so = absurd (cc)

behind_refused : (entries : List EntryValue) (r : ReadingValue) → behind entries r ≡ Refused → r ≡ Refused
behind_refused entries (Read more) is = absurd (cc)
behind_refused entries Refused is = refl
behind_refused entries Unended is = absurd (cc)

-- a part of these fails
abbrev pub FailsIn : List PartValue → Type 0
FailsIn ps = (p : PartValue) × IsAmong p ps × IsTrue (fails topic.Table p.answer)

fails_later : (p : PartValue) (ps : List PartValue) → FailsIn ps → FailsIn (p ∷ ps)
fails_later p ps (q, among, is) = (q, inr among, is)

by_turn : (requester due : ℕ) (p : PartValue) (ps : List PartValue) (t : Turn) → turn_of requester due p ≡ t → ((next : ℕ) → read_from requester next ps ≡ Refused → FailsIn ps)
    → told_by t (λ next. read_from requester next ps) due ≡ Refused → FailsIn (p ∷ ps)
by_turn requester due p ps Other turn rest so = fails_later p ps (rest due so)
by_turn requester due p ps Fails turn rest so = absurd (cc)
by_turn requester due p ps Refuses turn rest so = (p, inl refl, turn_refuses requester due p turn)
by_turn requester due p ps (Ends entries) turn rest so = absurd (cc)
by_turn requester due p ps (GoesOn next entries) turn rest so = fails_later p ps (rest next (behind_refused entries (read_from requester next ps) so))

refused_from : (requester due : ℕ) (ps : List PartValue) → read_from requester due ps ≡ Refused → FailsIn ps
refused_from requester due [] is = absurd (cc)
refused_from requester due (p ∷ ps) is = by_turn requester due p ps (turn_of requester due p) refl (λ next so. refused_from requester next ps so) is

begun_part : (p : PartValue) (ps : List PartValue) (r : ReadingValue) (b : Bool) → (IsAmong r (readings ps) → FailsIn ps) → r ≡ Refused
    → IsAmong r ((if b then read_from p.requester 0 (p ∷ ps) ∷ [] else []) ++ readings ps) → FailsIn (p ∷ ps)
begun_part p ps r true rest is (inl same) = refused_from p.requester 0 (p ∷ ps) (same ∙ is)
begun_part p ps r true rest is (inr there) = fails_later p ps (rest there)
begun_part p ps r false rest is there = fails_later p ps (rest there)

-- where an answer refuses a reading, some part fails
pub refused_part : (ps : List PartValue) (r : ReadingValue) → IsAmong r (readings ps) → r ≡ Refused → FailsIn ps
refused_part [] r among is = absurd among
refused_part (p ∷ ps) r among is = begun_part p ps r (p.handle == 0) (λ there. refused_part ps r there is) is among
