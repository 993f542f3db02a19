-- No line of a node tells a difference exactly where all that it said is planned.
use Rattle.std.{proofs.Common.{◌≡◌, ◌⊎◌, ℕ, ◌+◌, ◌==◌, ◌&&◌, ◌||◌, not, Bool, true, false, List, [], ◌∷◌, ◌++◌, length, refl, ap, sym, ◌∙◌, subst, inl, inr, arith, add-one, ◌<◌, take, get_or}, specs.Prelude.{Option, Some, None, IsTrue, find, codes, if◌then◌else◌}, specs.Fmt.{decimal}, specs.List.{flat_map, list_any, filter}, proofs.lemmas.Bool.{cases_Bool, eqb-true, eq-eqb}, proofs.lemmas.List.{nil_from_length, length-append, take_more}, proofs.lemmas.List.Elements.{filter-append}}
use Rattle.mctp_control.{specs.RouteEntries.{EntryValue}, specs.Responses.{AnswerValue, EidSet, EidTold, PoolTold, EntriesTold, Failed}}
use Rattle.audited_captures.{specs.AsPlanned.{IsAmong}, specs.Counting.{difference_count}, specs.RecordLines.{AddsDifferences, count_below, fault_count, is_fault}, specs.declared.record_readings.Verdict.{Verdict}, specs.Failures.{fails, failures_of, failures_in, failed_lines}, specs.Identities.{kind_word, eid_line, kind_line, identity_lines, tells_eid, span_words, same_span, pool_lines_of, tells_pool, told_lines, eid_lines, pool_lines}, specs.Lines.{LineValue, difference, note, differences_or, differs}, specs.Matching.{IsReadAsPlanned, HasPlannedEid, HasPlannedPool, SomeTellsEid, SomeTellsPool}, specs.Readings.{PartValue, ReadingValue, Read, Refused, Unended, readings}, specs.Routes.{unlike, line_if_unlike, line_beside, planned_lines, extra_line, lines_if_extra, extra_lines, unlike_lines, match_line, reading_lines, readings_lines, routes_lines, has_range, same_range}, proofs.Booleans.{both, both_left, both_right, not_both, either, or_right}, proofs.PlannedReadings.{nil_left, nil_right, no_line, flat_nil, flat_none, any_is, any_of, as_planned, no_lines}, proofs.FailureLaws.{none_fails, no_failures, remark_zero, failed_zero, zero_failed, refused_part}}
use Rattle.audited_captures.specs.declared.failures.Topic.TheVariants as topic

-- ---- counts of differences

pub count_append : (a b : List LineValue) → difference_count (a ++ b) ≡ difference_count a + difference_count b
count_append a b = ap length (filter-append differs a b) ∙ length-append (filter differs a) (filter differs b)

pub zero_left : (a b : List LineValue) → difference_count (a ++ b) ≡ 0 → difference_count a ≡ 0
zero_left a b is = omega (arith, count_append a b, is)

pub zero_right : (a b : List LineValue) → difference_count (a ++ b) ≡ 0 → difference_count b ≡ 0
zero_right a b is = omega (arith, count_append a b, is)

pub zero_both : (a b : List LineValue) → difference_count a ≡ 0 → difference_count b ≡ 0 → difference_count (a ++ b) ≡ 0
zero_both a b is_a is_b = omega (arith, count_append a b, is_a, is_b)

-- each of the lines tells a difference
abbrev pub AllDiffer : List LineValue → Type 0
AllDiffer ls = difference_count ls ≡ length ls

pub all_both : (a b : List LineValue) → AllDiffer a → AllDiffer b → AllDiffer (a ++ b)
all_both a b all_a all_b = omega (arith, count_append a b, length-append a b, all_a, all_b)

pub none_of : (ls : List LineValue) → AllDiffer ls → difference_count ls ≡ 0 → ls ≡ []
none_of ls all zero = nil_from_length ls (sym all ∙ zero)

pub one_if : (b : Bool) (text : List ℕ) → AllDiffer (if b then [] else difference text ∷ [])
one_if true text = refl
one_if false text = refl

module _ {A : Type 0} (f : A → List LineValue) where
  pub zero_each : (xs : List A) → difference_count (flat_map f xs) ≡ 0 → (x : A) → IsAmong x xs → difference_count (f x) ≡ 0
  zero_each [] is x among = absurd among
  zero_each (y ∷ ys) is x (inl same) = subst (λ z. difference_count (f z) ≡ 0) same (zero_left (f y) (flat_map f ys) is)
  zero_each (y ∷ ys) is x (inr among) = zero_each ys (zero_right (f y) (flat_map f ys) is) x among

  pub zero_all : (xs : List A) → ((x : A) → IsAmong x xs → difference_count (f x) ≡ 0) → difference_count (flat_map f xs) ≡ 0
  zero_all [] each = refl
  zero_all (y ∷ ys) each = zero_both (f y) (flat_map f ys) (each y (inl refl)) (zero_all ys (λ x among. each x (inr among)))

  pub all_flat : ((x : A) → AllDiffer (f x)) → (xs : List A) → AllDiffer (flat_map f xs)
  all_flat each [] = refl
  all_flat each (y ∷ ys) = all_both (f y) (flat_map f ys) (each y) (all_flat each ys)

no_difference : (text : List ℕ) (ls : List LineValue) → AllDiffer ls → difference_count (differences_or (note text) ls) ≡ 0 → ls ≡ []
no_difference text [] all zero = refl
no_difference text (l ∷ ls) all zero = none_of (l ∷ ls) all zero

pub told_is : (told : Bool) (text : List ℕ) (ls : List LineValue) → AllDiffer ls → difference_count (told_lines told (note text) ls) ≡ 0 → (told ≡ false) ⊎ (ls ≡ [])
told_is true text ls all zero = inr (no_difference text ls all zero)
told_is false text ls all zero = inl refl

pub told_of : (told : Bool) (text : List ℕ) (ls : List LineValue) → ls ≡ [] → difference_count (told_lines told (note text) ls) ≡ 0
told_of true text ls none = ap (λ x. difference_count (differences_or (note text) x)) none
told_of false text ls none = refl

-- ---- readings

module _ (name : List ℕ) where
  if_all : (e : EntryValue) (words : Option (List ℕ)) → AllDiffer (line_if_unlike name e words)
  if_all e None = refl
  if_all e (Some words) = refl

  beside_all : (e : EntryValue) (o : Option EntryValue) → AllDiffer (line_beside name e o)
  beside_all e None = refl
  beside_all e (Some f) = if_all e (unlike e f)

  extra_all : (planned found : List EntryValue) → AllDiffer (extra_lines name planned found)
  extra_all planned [] = refl
  extra_all planned (f ∷ fs) =
      all_both (lines_if_extra name planned f fs) (extra_lines name planned fs)
      (one_if (has_range planned f && not (has_range fs f)) (extra_line name f).text) (extra_all planned fs)

  pub unlike_all : (planned found : List EntryValue) → AllDiffer (unlike_lines name planned found)
  unlike_all planned found =
      all_both (flat_map (planned_lines name found) planned) (extra_lines name planned found)
      (all_flat (planned_lines name found) (λ e. beside_all e (find (same_range e) found)) planned) (extra_all planned found)

  reading_is : (planned : List EntryValue) (r : ReadingValue) → (r ≡ Refused → ⊥) → difference_count (reading_lines name planned r) ≡ 0 → IsReadAsPlanned planned r
  reading_is planned Unended sound zero = absurd (cc)
  reading_is planned Refused sound zero = sound refl
  reading_is planned (Read found) sound zero = as_planned name planned found (no_difference (match_line name found).text (unlike_lines name planned found) (unlike_all planned found) zero)

  reading_of : (planned : List EntryValue) (r : ReadingValue) → IsReadAsPlanned planned r → difference_count (reading_lines name planned r) ≡ 0
  reading_of planned Unended are = absurd are
  reading_of planned Refused are = absurd are
  reading_of planned (Read found) are = ap (λ ls. difference_count (differences_or (match_line name found) ls)) (no_lines name planned found are)

  -- ---- a routing table

  module _ (planned : List EntryValue) (parts : List PartValue) where
    abbrev read : List LineValue
    read = readings_lines name planned (readings parts)

    abbrev refused : List LineValue
    refused = failed_lines false (name ++ codes " routes") (failures_in parts)

    pub routes_are : difference_count (routes_lines name planned parts) ≡ 0 → (p : PartValue) → IsAmong p parts → ¬ IsTrue (fails topic.Table p.answer)
    routes_are zero = none_fails topic.Table (λ (p : PartValue). p.answer) parts (failed_zero (name ++ codes " routes") (failures_in parts) (zero_right read refused zero))

    pub tables_are : difference_count (routes_lines name planned parts) ≡ 0 → (r : ReadingValue) → IsAmong r (readings parts) → IsReadAsPlanned planned r
    tables_are zero r among =
        reading_is planned r (λ is. (let bad = refused_part parts r among is in routes_are zero bad.0 bad.1 bad.2))
        (zero_each (reading_lines name planned) (readings parts) (zero_left read refused zero) r among)

    pub routes_of : ((r : ReadingValue) → IsAmong r (readings parts) → IsReadAsPlanned planned r)
        → ((p : PartValue) → IsAmong p parts → ¬ IsTrue (fails topic.Table p.answer)) → difference_count (routes_lines name planned parts) ≡ 0
    routes_of each sound =
        zero_both read refused (zero_all (reading_lines name planned) (readings parts) (λ r among. reading_of planned r (each r among)))
        (zero_failed false (name ++ codes " routes") (failures_in parts) (no_failures topic.Table (λ (p : PartValue). p.answer) parts sound))

  -- ---- endpoint IDs and pools

  abbrev eid_text : (planned found : ℕ) → List ℕ
  eid_text planned found = name ++ (codes " eid " ++ (decimal found ++ (codes " planned " ++ decimal planned)))

  abbrev kind_text : (planned found : ℕ) → List ℕ
  kind_text planned found = name ++ (codes " type " ++ (kind_word found ++ (codes " planned " ++ kind_word planned)))

  eid_is : (planned found : ℕ) → eid_line name planned found ≡ [] → planned ≡ found
  eid_is planned found none = eqb-true planned found (no_line (planned == found) (difference (eid_text planned found)) none)

  eid_none : (planned found : ℕ) → planned ≡ found → eid_line name planned found ≡ []
  eid_none planned found is = ap (λ (b : Bool). if b then [] else difference (eid_text planned found) ∷ []) (eq-eqb planned found is)

  kind_is : (planned found : ℕ) → kind_line name planned found ≡ [] → planned ≡ found
  kind_is planned found none = eqb-true planned found (no_line (planned == found) (difference (kind_text planned found)) none)

  kind_none : (planned found : ℕ) → planned ≡ found → kind_line name planned found ≡ []
  kind_none planned found is = ap (λ (b : Bool). if b then [] else difference (kind_text planned found) ∷ []) (eq-eqb planned found is)

  module _ (eid type : ℕ) where
    pub identity_all : (a : AnswerValue) → AllDiffer (identity_lines name eid type a)
    identity_all (EidSet status found size) = one_if (eid == found) (eid_text eid found)
    identity_all (EidTold found status medium) =
        all_both (eid_line name eid found) (kind_line name type status.second) (one_if (eid == found) (eid_text eid found)) (one_if (type == status.second) (kind_text type status.second))
    identity_all (PoolTold status size first) = refl
    identity_all (EntriesTold next entries) = refl
    identity_all (Failed command code) = refl

    identity_is : (a : AnswerValue) → identity_lines name eid type a ≡ [] → HasPlannedEid eid type a
    identity_is (EidSet status found size) none = eid_is eid found none
    identity_is (EidTold found status medium) none = (
      eid_is eid found (nil_left (eid_line name eid found) (kind_line name type status.second) none),
      kind_is type status.second (nil_right (eid_line name eid found) (kind_line name type status.second) none),
    )
    identity_is (PoolTold status size first) none = tt
    identity_is (EntriesTold next entries) none = tt
    identity_is (Failed command code) none = tt

    identity_none : (a : AnswerValue) → HasPlannedEid eid type a → identity_lines name eid type a ≡ []
    identity_none (EidSet status found size) has = eid_none eid found has
    identity_none (EidTold found status medium) has = ap (λ ls. ls ++ kind_line name type status.second) (eid_none eid found has.0) ∙ kind_none type status.second has.1
    identity_none (PoolTold status size first) has = refl
    identity_none (EntriesTold next entries) has = refl
    identity_none (Failed command code) has = refl

    untold_eid : (a : AnswerValue) → tells_eid a ≡ false → HasPlannedEid eid type a
    untold_eid (EidSet status found size) untold = absurd (cc)
    untold_eid (EidTold found status medium) untold = absurd (cc)
    untold_eid (PoolTold status size first) untold = tt
    untold_eid (EntriesTold next entries) untold = tt
    untold_eid (Failed command code) untold = tt

    abbrev eids_told : List AnswerValue → List LineValue
    eids_told answers = told_lines (list_any tells_eid answers) (note (name ++ (codes " eid match " ++ decimal eid))) (flat_map (identity_lines name eid type) answers)

    abbrev eids_failed : List AnswerValue → Bool → List LineValue
    eids_failed answers is_remark = failed_lines is_remark (name ++ codes " eid") (failures_of topic.Eid answers)

    pub eid_told_are : (answers : List AnswerValue) → difference_count (eid_lines name eid type answers) ≡ 0 → (a : AnswerValue) → IsAmong a answers → IsTrue (fails topic.Eid a) → SomeTellsEid answers
    eid_told_are answers zero a among fails_it = elim (cases_Bool (list_any tells_eid answers)) [
      | inl tells ↦ any_is tells_eid answers tells
      | inr silent ↦ (
          let last = zero_right (eids_told answers) (eids_failed answers (list_any tells_eid answers)) zero in
          let none = failed_zero (name ++ codes " eid") (failures_of topic.Eid answers) (sym (ap (λ b. difference_count (eids_failed answers b)) silent) ∙ last) in
          absurd (none_fails topic.Eid (λ (b : AnswerValue). b) answers none a among fails_it))
    ]

    pub eids_are : (answers : List AnswerValue) → difference_count (eid_lines name eid type answers) ≡ 0 → (a : AnswerValue) → IsAmong a answers → HasPlannedEid eid type a
    eids_are answers zero a among = elim (told_is (list_any tells_eid answers) (name ++ (codes " eid match " ++ decimal eid)) (flat_map (identity_lines name eid type) answers) (all_flat (identity_lines name eid type) identity_all answers) (zero_left (eids_told answers) (eids_failed answers (list_any tells_eid answers)) zero)) [
      | inl untold ↦ elim (cases_Bool (tells_eid a)) [
        | inl tells ↦ absurd (not_both (list_any tells_eid answers) (any_of tells_eid answers a among tells) untold)
        | inr silent ↦ untold_eid a silent
      ]
      | inr none ↦ identity_is a (flat_nil (identity_lines name eid type) answers none a among)
    ]

    pub eids_of : (answers : List AnswerValue) → ((a : AnswerValue) → IsAmong a answers → HasPlannedEid eid type a)
        → ((a : AnswerValue) → IsAmong a answers → IsTrue (fails topic.Eid a) → SomeTellsEid answers) → difference_count (eid_lines name eid type answers) ≡ 0
    eids_of answers each tells =
        zero_both (eids_told answers) (eids_failed answers (list_any tells_eid answers))
        (told_of (list_any tells_eid answers) (name ++ (codes " eid match " ++ decimal eid)) (flat_map (identity_lines name eid type) answers)
        (flat_none (identity_lines name eid type) answers (λ a among. identity_none a (each a among))))
        (elim (cases_Bool (list_any tells_eid answers)) [
          | inl told ↦ ap (λ b. difference_count (eids_failed answers b)) told ∙ remark_zero (name ++ codes " eid") (failures_of topic.Eid answers)
          | inr silent ↦ zero_failed (list_any tells_eid answers) (name ++ codes " eid") (failures_of topic.Eid answers)
              (no_failures topic.Eid (λ (b : AnswerValue). b) answers (λ a among is. (let some = tells a among is in not_both (list_any tells_eid answers) (any_of tells_eid answers some.0 some.1 some.2) silent)))
        ])

  module _ (first size : ℕ) where
    abbrev pool_text : (found_first found_size : ℕ) → List ℕ
    pool_text found_first found_size = name ++ (codes " pool " ++ (span_words found_first found_size ++ (codes " planned " ++ span_words first size)))

    pub pool_all : (a : AnswerValue) → AllDiffer (pool_lines_of name first size a)
    pool_all (PoolTold status found_size found_first) = one_if (same_span first size found_first found_size) (pool_text found_first found_size)
    pool_all (EidSet status found wanted) = refl
    pool_all (EidTold found status medium) = refl
    pool_all (EntriesTold next entries) = refl
    pool_all (Failed command code) = refl

    pool_is : (a : AnswerValue) → pool_lines_of name first size a ≡ [] → HasPlannedPool first size a
    pool_is (PoolTold status found_size found_first) none =
        let same = no_line (same_span first size found_first found_size) (difference (pool_text found_first found_size)) none in
        let begins = both_right (size == found_size) (size == 0 || first == found_first) same in (
          eqb-true size found_size (both_left (size == found_size) (size == 0 || first == found_first) same),
          elim (either (size == 0) (first == found_first) begins) [ inl empty ↦ inl (eqb-true size 0 empty) | inr at ↦ inr (eqb-true first found_first at) ],
        )
    pool_is (EidSet status found wanted) none = tt
    pool_is (EidTold found status medium) none = tt
    pool_is (EntriesTold next entries) none = tt
    pool_is (Failed command code) none = tt

    begins_of : (found_first : ℕ) → (size ≡ 0) ⊎ (first ≡ found_first) → (size == 0 || first == found_first) ≡ true
    begins_of found_first (inl empty) = ap (λ b. b || first == found_first) (eq-eqb size 0 empty)
    begins_of found_first (inr at) = or_right (size == 0) (first == found_first) (eq-eqb first found_first at)

    pool_none : (a : AnswerValue) → HasPlannedPool first size a → pool_lines_of name first size a ≡ []
    pool_none (PoolTold status found_size found_first) has =
        ap (λ (b : Bool). if b then [] else difference (pool_text found_first found_size) ∷ [])
        (both (size == found_size) (size == 0 || first == found_first) (eq-eqb size found_size has.0) (begins_of found_first has.1))
    pool_none (EidSet status found wanted) has = refl
    pool_none (EidTold found status medium) has = refl
    pool_none (EntriesTold next entries) has = refl
    pool_none (Failed command code) has = refl

    untold_pool : (a : AnswerValue) → tells_pool a ≡ false → HasPlannedPool first size a
    untold_pool (PoolTold status found_size found_first) untold = absurd (cc)
    untold_pool (EidSet status found wanted) untold = tt
    untold_pool (EidTold found status medium) untold = tt
    untold_pool (EntriesTold next entries) untold = tt
    untold_pool (Failed command code) untold = tt

    abbrev pools_told : List AnswerValue → List LineValue
    pools_told answers = told_lines (list_any tells_pool answers) (note (name ++ (codes " pool match " ++ span_words first size))) (flat_map (pool_lines_of name first size) answers)

    abbrev pools_failed : List AnswerValue → Bool → List LineValue
    pools_failed answers is_remark = failed_lines is_remark (name ++ codes " pool") (failures_of topic.Pool answers)

    abbrev is_remark : List AnswerValue → Bool
    is_remark answers = list_any tells_pool answers || size == 0

    pub pool_told_are : (answers : List AnswerValue) → difference_count (pool_lines name first size answers) ≡ 0 → (a : AnswerValue) → IsAmong a answers → IsTrue (fails topic.Pool a) → SomeTellsPool answers ⊎ (size ≡ 0)
    pool_told_are answers zero a among fails_it = elim (cases_Bool (is_remark answers)) [
      | inl remark ↦ elim (either (list_any tells_pool answers) (size == 0) remark) [
        | inl tells ↦ inl (any_is tells_pool answers tells)
        | inr empty ↦ inr (eqb-true size 0 empty)
      ]
      | inr counts ↦ (
          let last = zero_right (pools_told answers) (pools_failed answers (is_remark answers)) zero in
          let none = failed_zero (name ++ codes " pool") (failures_of topic.Pool answers) (sym (ap (λ b. difference_count (pools_failed answers b)) counts) ∙ last) in
          absurd (none_fails topic.Pool (λ (b : AnswerValue). b) answers none a among fails_it))
    ]

    pub pools_are : (answers : List AnswerValue) → difference_count (pool_lines name first size answers) ≡ 0 → (a : AnswerValue) → IsAmong a answers → HasPlannedPool first size a
    pools_are answers zero a among = elim (told_is (list_any tells_pool answers) (name ++ (codes " pool match " ++ span_words first size)) (flat_map (pool_lines_of name first size) answers) (all_flat (pool_lines_of name first size) pool_all answers) (zero_left (pools_told answers) (pools_failed answers (is_remark answers)) zero)) [
      | inl untold ↦ elim (cases_Bool (tells_pool a)) [
        | inl tells ↦ absurd (not_both (list_any tells_pool answers) (any_of tells_pool answers a among tells) untold)
        | inr silent ↦ untold_pool a silent
      ]
      | inr none ↦ pool_is a (flat_nil (pool_lines_of name first size) answers none a among)
    ]

    is_a_remark : (answers : List AnswerValue) → SomeTellsPool answers ⊎ (size ≡ 0) → is_remark answers ≡ true
    is_a_remark answers (inl some) = ap (λ b. b || size == 0) (any_of tells_pool answers some.0 some.1 some.2)
    is_a_remark answers (inr empty) = or_right (list_any tells_pool answers) (size == 0) (eq-eqb size 0 empty)

    pub pools_of : (answers : List AnswerValue) → ((a : AnswerValue) → IsAmong a answers → HasPlannedPool first size a)
        → ((a : AnswerValue) → IsAmong a answers → IsTrue (fails topic.Pool a) → SomeTellsPool answers ⊎ (size ≡ 0)) → difference_count (pool_lines name first size answers) ≡ 0
    pools_of answers each tells =
        zero_both (pools_told answers) (pools_failed answers (is_remark answers))
        (told_of (list_any tells_pool answers) (name ++ (codes " pool match " ++ span_words first size)) (flat_map (pool_lines_of name first size) answers)
        (flat_none (pool_lines_of name first size) answers (λ a among. pool_none a (each a among))))
        (elim (cases_Bool (is_remark answers)) [
          | inl remark ↦ ap (λ b. difference_count (pools_failed answers b)) remark ∙ remark_zero (name ++ codes " pool") (failures_of topic.Pool answers)
          | inr counts ↦ zero_failed (is_remark answers) (name ++ codes " pool") (failures_of topic.Pool answers)
              (no_failures topic.Pool (λ (b : AnswerValue). b) answers (λ a among is. not_both (is_remark answers) (is_a_remark answers (tells a among is)) counts))
        ])

-- ---- lines that were added

pub adds_one : (old new : List LineValue) (text : List ℕ) → new ≡ old ++ difference text ∷ [] → AddsDifferences old new 1
adds_one old new text is = (ap length is ∙ length-append old (difference text ∷ []), ap difference_count is ∙ count_append old (difference text ∷ []))

pub adds_both : (a b c : List LineValue) (m n k : ℕ) → k ≡ m + n → AddsDifferences a b m → AddsDifferences b c n → AddsDifferences a c k
adds_both a b c m n k is (long, count) (longer, counts) = (omega (arith, is, long, longer), omega (arith, is, count, counts))

pub adds_none : (old new : List LineValue) (n : ℕ) → n ≡ 0 → new ≡ old → AddsDifferences old new n
adds_none old new n none same = (omega (arith, none, ap length same), omega (arith, none, ap difference_count same))

pub suc_more : (test : ℕ → Bool) (k : ℕ) → count_below test (k + 1) ≡ count_below test k + (if test k then 1 else 0)
suc_more test k = ap (count_below test) (add-one k)

pub fault_more : (vs : List Verdict) (v : Verdict) → fault_count (vs ++ v ∷ []) ≡ fault_count vs + (if is_fault v then 1 else 0)
fault_more vs v = ap length (filter-append is_fault vs (v ∷ [])) ∙ length-append (filter is_fault vs) (filter is_fault (v ∷ [])) ∙ ap (λ n. fault_count vs + n) (by (is_fault v))
  where
    by : (b : Bool) → length (if b then v ∷ [] else []) ≡ (if b then 1 else 0)
    by true = refl
    by false = refl

pub faults_step : (items : List Verdict) (i : ℕ) (d : Verdict) → i < length items → (a b c : List LineValue) → AddsDifferences a b (fault_count (take i items))
    → AddsDifferences b c (if is_fault (get_or items i d) then 1 else 0) → AddsDifferences a c (fault_count (take (i + 1) items))
faults_step items i d within a b c before adds =
    adds_both a b c (fault_count (take i items)) (if is_fault (get_or items i d) then 1 else 0) (fault_count (take (i + 1) items))
    (ap fault_count (take_more items i d within) ∙ fault_more (take i items) (get_or items i d)) before adds
