-- The lines of records tell no difference exactly where the records were told as planned.
use Rattle.std.{proofs.Common.{◌≡◌, ◌↔◌, ℕ, zero, suc, ◌+◌, ◌<◌, ◌==◌, ◌||◌, not, Bool, true, false, List, [], ◌∷◌, length, refl, ap, sym, ◌∙◌, subst, inl, inr, get_or, drop, arith, Ok, Err, cond}, specs.Prelude.{Option, Some, None, slice_get, if◌then◌else◌}, specs.List.{filter, list_any, position_or_len}, proofs.lemmas.Bool.{cases_Bool, cases_lt, eqb-true, eq-eqb}, proofs.lemmas.Option.{same_Some, slice_get_within, slice_get-get_or, get_or_from_slice_get}}
use Rattle.pldm_message.specs.Pdrs.{Part}
use Rattle.pdr_repository.{specs.Parts.{PartAnswer}, specs.Records.{Entry}}
use Rattle.audited_captures.{specs.AsPlanned.{IsAmong}, specs.Audits.{NodeFacts, AreRecorded}, specs.Counting.{difference_count, has_compared}, specs.RecordLines.{is_fault, is_judged, reads_end, differs_at, is_read, is_unread, one_if, fault_count, count_below, unread_count, missing_count, told_differences, record_differences}, specs.RecordParts.{RecordPartValue}, specs.RecordPlans.{flag_for}, specs.RecordReadings.{is_meant_by, place_of, IsToldAt, IsPartAt, Begins, First, IsAnsweredAsPlanned, IsComparedAt, IsReadToEnd, AreToldAsPlanned, begins_walk}, specs.RecordSteps.{AreVerdicts, IsVerdict, IsVerdictBy}, specs.declared.record_readings.Verdict.{Verdict}, proofs.Booleans.{both, both_left, both_right, not_both}, proofs.PlannedReadings.{any_is, any_of}, proofs.RecordLaws.{among_of, begins_place, place_here, told_of_part}}
use Rattle.audited_captures.specs.declared.record_readings.Verdict.TheVariants as verdict

-- ---- lists by index

some_at : {A : Type 0} (xs : List A) (i : ℕ) → i < length xs → (x : A) × (slice_get xs i ≡ Some x)
some_at [] i within = absurd (omega (arith, within))
some_at (x ∷ xs) i within = (get_or (x ∷ xs) i x, slice_get-get_or (x ∷ xs) i x within)

among_at : {A : Type 0} (xs : List A) (i : ℕ) (x : A) → slice_get xs i ≡ Some x → IsAmong x xs
among_at xs i x at = among_of xs i x (slice_get_within xs i x at) (sym (get_or_from_slice_get xs i x x at))

index_of : {A : Type 0} (x : A) (xs : List A) → IsAmong x xs → (i : ℕ) × (slice_get xs i ≡ Some x)
index_of x [] among = absurd among
index_of x (y ∷ ys) (inl same) = (0, slice_get-get_or (y ∷ ys) 0 x (omega arith) ∙ ap Some same)
index_of x (y ∷ ys) (inr among) =
    let (i, at) = index_of x ys among in
    (suc i, slice_get-get_or (y ∷ ys) (suc i) x (omega (arith, slice_get_within ys i x at)) ∙ ap Some (get_or_from_slice_get ys i x x at))

-- ---- counts

fault_head : (b : Bool) (y : Verdict) (l : List Verdict) → length (if b then y ∷ l else l) ≡ 0 → (b ≡ false) × (length l ≡ 0)
fault_head true y l none = absurd (omega (arith, none))
fault_head false y l none = (refl, none)

none_fault : (vs : List Verdict) → fault_count vs ≡ 0 → (v : Verdict) → IsAmong v vs → is_fault v ≡ false
none_fault [] none v among = absurd among
none_fault (y ∷ ys) none v (inl same) = ap is_fault (sym same) ∙ (fault_head (is_fault y) y (filter is_fault ys) none).0
none_fault (y ∷ ys) none v (inr among) = none_fault ys (fault_head (is_fault y) y (filter is_fault ys) none).1 v among

no_fault : (vs : List Verdict) → ((v : Verdict) → IsAmong v vs → is_fault v ≡ false) → fault_count vs ≡ 0
no_fault [] each = refl
no_fault (y ∷ ys) each = ap (λ b. length (if b then y ∷ filter is_fault ys else filter is_fault ys)) (each y (inl refl)) ∙ no_fault ys (λ v among. each v (inr among))

one_zero : (b : Bool) → one_if b ≡ 0 → b ≡ false
one_zero true none = absurd (omega (arith, none))
one_zero false none = refl

none_below : (test : ℕ → Bool) (k : ℕ) → count_below test k ≡ 0 → (i : ℕ) → i < k → test i ≡ false
none_below test zero none i within = absurd (omega (arith, within))
none_below test (suc k) none i within = elim (cases_lt i k) [
  | inl before ↦ none_below test k (omega (arith, none)) i before
  | inr last ↦ (let same : k ≡ i = omega (arith, within, last) in subst (λ j. test j ≡ false) same (one_zero (test k) (omega (arith, none))))
]

below_none : (test : ℕ → Bool) (k : ℕ) → ((i : ℕ) → i < k → test i ≡ false) → count_below test k ≡ 0
below_none test zero each = refl
below_none test (suc k) each =
    let last : one_if (test k) ≡ 0 = ap one_if (each k (omega arith)) in
    let rest = below_none test k (λ i within. each i (omega (arith, within))) in
    omega (arith, last, rest)

judged_fault : (v : Verdict) → is_judged v ≡ false → is_fault v ≡ false
judged_fault verdict.Unknown is = refl
judged_fault verdict.Refused is = refl
judged_fault (verdict.Reads at is_end) is = refl
judged_fault (verdict.Extra handle) is = is
judged_fault (verdict.Differs at f) is = is

fault_differs : (place : ℕ) (v : Verdict) → differs_at place v ≡ true → is_fault v ≡ true
fault_differs place verdict.Unknown is = absurd (cc)
fault_differs place verdict.Refused is = absurd (cc)
fault_differs place (verdict.Reads at is_end) is = absurd (cc)
fault_differs place (verdict.Extra handle) is = absurd (cc)
fault_differs place (verdict.Differs at f) is = refl

-- the record that is asked for by handle 0 is the first
first_of : (es : List Entry) (handle place : ℕ) → handle ≡ 0 → place < length es → place_of es handle ≡ Some 0
first_of [] handle place is within = absurd (omega (arith, within))
first_of (e ∷ es) handle place is within =
    let meant : is_meant_by handle e ≡ true = ap (λ b. b || e.handle == handle) (eq-eqb handle 0 is) in
    place_here (is_meant_by handle) (e ∷ es) 0 (ap (λ b. cond (not b) (1 + position_or_len (is_meant_by handle) es) 0) meant) (omega arith)

flags_by : (b : Bool) → ◌≡◌ {A = ℕ} (if b then 5 else 4) (if b then 0 else 1) → ⊥
flags_by true same = cc
flags_by false same = cc

other_flag : (operation : ℕ) → flag_for operation true ≡ flag_for operation false → ⊥
other_flag operation same = flags_by (operation == 1) same

same_part : (p q : Part) → ◌≡◌ {A = Option PartAnswer} (Some (Ok p)) (Some (Ok q)) → p ≡ q
same_part p q same = cc

no_part : (code : ℕ) (p : Part) (t : Option PartAnswer) → t ≡ Some (Err code) → t ≡ Some (Ok p) → ⊥
no_part code p t is other = cc

was_read : (b : Bool) → not b ≡ false → b ≡ true
was_read true is = refl
was_read false is = absurd (cc)

ends_so : (b : Bool) → not b ≡ true → b ≡ false
ends_so true is = absurd (cc)
ends_so false is = refl

last_flag : (operation : ℕ) (left b : Bool) → flag_for operation true ≡ flag_for operation b → left ≡ not b → left ≡ false
last_flag operation left true flags is = is
last_flag operation left false flags is = absurd (other_flag operation flags)

not_false : (b : Bool) → false ≡ not b → b ≡ true
not_false true is = refl
not_false false is = cc

module _ (records : List Entry) (parts : List RecordPartValue) (verdicts : List Verdict) (are : AreVerdicts records parts (length parts) verdicts) where
  verdict_at : (i : ℕ) (x : RecordPartValue) → slice_get parts i ≡ Some x → (v : Verdict) × (slice_get verdicts i ≡ Some v) × IsVerdict records parts i x v
  verdict_at i x at =
      let within = slice_get_within parts i x at in
      let (v, there) = some_at verdicts i (omega (arith, within, are.as_many)) in
      (v, there, are.each i x v within at there)

  exchange_at : (v : Verdict) → IsAmong v verdicts → (i : ℕ) × (x : RecordPartValue) × (slice_get parts i ≡ Some x) × IsVerdict records parts i x v
  exchange_at v among =
      let (i, there) = index_of v verdicts among in
      let within = slice_get_within verdicts i v there in
      let (x, at) = some_at parts i (omega (arith, within, are.as_many)) in
      (i, x, at, are.each i x v (omega (arith, within, are.as_many)) at there)

  -- ---- one exchange

  module _ (i : ℕ) (x : RecordPartValue) (at : slice_get parts i ≡ Some x) where
    abbrev By : Option ℕ → Verdict → Type 0
    By place v = IsVerdictBy records (Begins records parts i) x place v

    same_place : (place other o : ℕ) → place_of records x.asked.handle ≡ Some place → Begins records parts i other o → place ≡ other
    same_place place other o is begins = same_Some place other (sym is ∙ begins_place records parts x begins at)

    told_so : (place o : ℕ) → place_of records x.asked.handle ≡ Some place → Begins records parts i place o → IsToldAt records place o x → IsAnsweredAsPlanned records parts i x
    told_so place o is begins told = record {
      unplanned = λ none. (let bad : Some place ≡ None = sym is ∙ none in absurd (cc));
      planned = λ other k begun. subst (λ p. (n : ℕ) × Begins records parts i p n × IsToldAt records p n x) (same_place place other k is begun) (o, begins, told);
    }

    answered : (p : Option ℕ) → place_of records x.asked.handle ≡ p → (v : Verdict) → is_fault v ≡ false → By p v → IsAnsweredAsPlanned records parts i x
    answered None is verdict.Unknown sound by = absurd by
    answered None is verdict.Refused sound by = record {
      unplanned = λ none. by;
      planned = λ place o begins. (let bad : None ≡ Some place = sym is ∙ begins_place records parts x begins at in absurd (cc));
    }
    answered None is (verdict.Reads there is_end) sound by = absurd by
    answered None is (verdict.Extra handle) sound by = absurd (cc)
    answered None is (verdict.Differs there f) sound by = absurd by
    answered (Some place) is verdict.Unknown sound by = record {
      unplanned = λ none. (let bad : Some place ≡ None = sym is ∙ none in absurd (cc));
      planned = λ other o begins. absurd (by o (subst (λ p. Begins records parts i p o) (sym (same_place place other o is begins)) begins));
    }
    answered (Some place) is verdict.Refused sound (o, begins, (refused, told)) = told_so place o is begins told
    answered (Some place) is (verdict.Reads there is_end) sound (o, begins, (same, (p, left, part, end))) = told_so place o is begins (told_of_part records place o x p left part)
    answered (Some place) is (verdict.Extra handle) sound by = absurd by
    answered (Some place) is (verdict.Differs there f) sound by = absurd (cc)

    sound_of : IsAnsweredAsPlanned records parts i x → (p : Option ℕ) → place_of records x.asked.handle ≡ p → (v : Verdict) → By p v → is_fault v ≡ false
    sound_of planned None is verdict.Unknown by = refl
    sound_of planned None is verdict.Refused by = refl
    sound_of planned None is (verdict.Reads there is_end) by = refl
    sound_of planned None is (verdict.Extra handle) (same, not_refused) = absurd (not_refused (planned.unplanned is))
    sound_of planned None is (verdict.Differs there f) by = absurd by
    sound_of planned (Some place) is verdict.Unknown by = refl
    sound_of planned (Some place) is verdict.Refused by = refl
    sound_of planned (Some place) is (verdict.Reads there is_end) by = refl
    sound_of planned (Some place) is (verdict.Extra handle) by = absurd by
    sound_of planned (Some place) is (verdict.Differs there f) ((o, begins, wrong), none) =
        let (other, begun, told) = planned.planned place o begins in
        absurd (none other begun told)

    compared_of : (p : Option ℕ) → place_of records x.asked.handle ≡ p → (v : Verdict) → is_judged v ≡ true → By p v → IsComparedAt records parts i x
    compared_of None is v judged by = inl is
    compared_of (Some place) is verdict.Unknown judged by = absurd (cc)
    compared_of (Some place) is verdict.Refused judged (o, begins, told) = inr (place, o, begins)
    compared_of (Some place) is (verdict.Reads there is_end) judged (o, begins, told) = inr (place, o, begins)
    compared_of (Some place) is (verdict.Extra handle) judged by = absurd by
    compared_of (Some place) is (verdict.Differs there f) judged ((o, begins, wrong), none) = inr (place, o, begins)

    judged_of : IsComparedAt records parts i x → (p : Option ℕ) → place_of records x.asked.handle ≡ p → (v : Verdict) → By p v → is_judged v ≡ true
    judged_of compared p is verdict.Refused by = refl
    judged_of compared p is (verdict.Reads there is_end) by = refl
    judged_of compared p is (verdict.Extra handle) by = refl
    judged_of compared p is (verdict.Differs there f) by = refl
    judged_of compared None is verdict.Unknown by = absurd by
    judged_of (inl none) (Some place) is verdict.Unknown by = (let bad : Some place ≡ None = sym is ∙ none in absurd (cc))
    judged_of (inr (other, o, begins)) (Some place) is verdict.Unknown by =
        absurd (by o (subst (λ p. Begins records parts i p o) (sym (same_place place other o is begins)) begins))

    ended : (place o : ℕ) (p : Part) → place_of records x.asked.handle ≡ Some place → Begins records parts i place o → IsPartAt records place o x p false → (v : Verdict) → By (Some place) v → reads_end place v ≡ true
    ended place o p is begins part verdict.Unknown by = absurd (by o begins)
    ended place o p is begins part verdict.Refused (k, begun, ((code, refused), told)) = absurd (no_part code p x.told refused part.told)
    ended place o p is begins part (verdict.Reads there is_end) (k, begun, (same, (q, left, other, end))) =
        let one : p ≡ q = same_part p q (sym part.told ∙ other.told) in
        let last : p.flag ≡ flag_for x.asked.operation true = part.is.flag ∙ ap (flag_for x.asked.operation) (not_false (length p.bytes == length (drop o part.entry.bytes)) part.left) in
        let so : left ≡ false = last_flag x.asked.operation left (length q.bytes == length (drop k other.entry.bytes)) (sym last ∙ ap (λ (r : Part). r.flag) one ∙ other.is.flag) other.left in
        both is_end (there == place) (end ∙ ap not so) (eq-eqb there place same)
    ended place o p is begins part (verdict.Extra handle) by = absurd by
    ended place o p is begins part (verdict.Differs there f) (wrong, none) = absurd (none o begins (told_of_part records place o x p false part))

    end_of : (place : ℕ) (p : Option ℕ) (v : Verdict) → reads_end place v ≡ true → By p v → IsReadToEnd records parts place
    end_of place p verdict.Unknown reads by = absurd (cc)
    end_of place p verdict.Refused reads by = absurd (cc)
    end_of place p (verdict.Extra handle) reads by = absurd (cc)
    end_of place p (verdict.Differs there f) reads by = absurd (cc)
    end_of place None (verdict.Reads there is_end) reads by = absurd by
    end_of place (Some q) (verdict.Reads there is_end) reads (o, begins, (same, (part, left, is, end))) =
        let here : q ≡ place = sym same ∙ eqb-true there place (both_right is_end (there == place) reads) in
        let whole : left ≡ false = ends_so left (sym end ∙ both_left is_end (there == place) reads) in
        subst (λ r. IsReadToEnd records parts r) here (i, o, x, part, at, begins, subst (λ b. IsPartAt records q o x part b) whole is)

  -- ---- all exchanges

  read_of : (place : ℕ) → IsReadToEnd records parts place → is_read verdicts place ≡ true
  read_of place (i, o, x, p, at, begins, part) =
      let (v, there, is) = verdict_at i x at in
      let named = begins_place records parts x begins at in
      any_of (reads_end place) verdicts v (among_at verdicts i v there)
      (ended i x at place o p named begins part v (subst (λ (q : Option ℕ). IsVerdictBy records (Begins records parts i) x q v) named is))

  read_is : (place : ℕ) → is_read verdicts place ≡ true → IsReadToEnd records parts place
  read_is place reads =
      let (v, among, is) = any_is (reads_end place) verdicts reads in
      let (i, x, at, by) = exchange_at v among in
      end_of i x at place (place_of records x.asked.handle) v is by

  pub reads_all : (missing_count verdicts (length records) ≡ 0) ↔ ((place : ℕ) → place < length records → IsReadToEnd records parts place)
  reads_all = (
    λ none place within. read_is place (was_read (is_read verdicts place) (none_below (λ p. not (is_read verdicts p)) (length records) none place within)),
    λ each. below_none (λ p. not (is_read verdicts p)) (length records) (λ place within. ap not (read_of place (each place within))),
  )

  unjudged : list_any is_judged verdicts ≡ false → (v : Verdict) → IsAmong v verdicts → is_judged v ≡ false
  unjudged is v among = elim (cases_Bool (is_judged v)) [
    | inl judged ↦ absurd (not_both (list_any is_judged verdicts) (any_of is_judged verdicts v among judged) is)
    | inr silent ↦ silent
  ]

  sound_by : (b : Bool) → list_any is_judged verdicts ≡ b → (if b then told_differences records parts verdicts else 0) ≡ 0 → (v : Verdict) → IsAmong v verdicts → is_fault v ≡ false
  sound_by true is none v among = none_fault verdicts (omega (arith, none)) v among
  sound_by false is none v among = judged_fault v (unjudged is v among)

  sound : record_differences records parts verdicts ≡ 0 → (v : Verdict) → IsAmong v verdicts → is_fault v ≡ false
  sound none v among = sound_by (list_any is_judged verdicts) refl none v among

  begun_judged : list_any begins_walk parts ≡ true → (place : ℕ) → place < length records → list_any is_judged verdicts ≡ true
  begun_judged begun place within =
      let (x, among, is) = any_is begins_walk parts begun in
      let (i, at) = index_of x parts among in
      let (v, there, by) = verdict_at i x at in
      let handle : x.asked.handle ≡ 0 = eqb-true x.asked.handle 0 (both_left (x.asked.handle == 0) (x.asked.operation == 1) is) in
      let operation : x.asked.operation ≡ 1 = eqb-true x.asked.operation 1 (both_right (x.asked.handle == 0) (x.asked.operation == 1) is) in
      let named = first_of records x.asked.handle place handle within in
      any_of is_judged verdicts v (among_at verdicts i v there)
      (judged_of i x at (inr (0, 0, First i 0 x at operation named)) (place_of records x.asked.handle) refl v by)

  count_by : (a b : Bool) → a ≡ true → b ≡ true → (if a then fault_count verdicts + (if b then unread_count verdicts (length records) else 0) else 0) ≡ 0 → unread_count verdicts (length records) ≡ 0
  count_by true true is_a is_b none = omega (arith, none)
  count_by true false is_a is_b none = absurd (cc)
  count_by false b is_a is_b none = absurd (cc)

  read_by : record_differences records parts verdicts ≡ 0 → (place : ℕ) (a b : Bool) → list_any (differs_at place) verdicts ≡ b → not (a || b) ≡ false → a ≡ true
  read_by none place true b is unread = refl
  read_by none place false true is unread =
      let (v, among, differs) = any_is (differs_at place) verdicts is in
      absurd (not_both (is_fault v) (fault_differs place v differs) (sound none v among))
  read_by none place false false is unread = absurd (cc)

  whole_of : record_differences records parts verdicts ≡ 0 → list_any begins_walk parts ≡ true → (place : ℕ) → place < length records → IsReadToEnd records parts place
  whole_of none begun place within =
      let judged = begun_judged begun place within in
      let count : unread_count verdicts (length records) ≡ 0 = count_by (list_any is_judged verdicts) (list_any begins_walk parts) judged begun none in
      read_is place (read_by none place (is_read verdicts place) (list_any (differs_at place) verdicts) refl (none_below (is_unread verdicts) (length records) count place within))

  pub told_is : record_differences records parts verdicts ≡ 0 → AreToldAsPlanned records parts
  told_is none = record {
    each = λ i x at.
        (let (v, there, by) = verdict_at i x at in
        answered i x at (place_of records x.asked.handle) refl v (sound none v (among_at verdicts i v there)) by);
    whole = whole_of none;
  }

  told_by : AreToldAsPlanned records parts → fault_count verdicts ≡ 0 → (a b : Bool) → list_any begins_walk parts ≡ b
      → (if a then fault_count verdicts + (if b then unread_count verdicts (length records) else 0) else 0) ≡ 0
  told_by told none true true begun =
      let rest : unread_count verdicts (length records) ≡ 0 = below_none (is_unread verdicts) (length records)
      (λ place within. ap (λ (r : Bool). not (r || list_any (differs_at place) verdicts)) (read_of place (told.whole begun place within))) in
      omega (arith, none, rest)
  told_by told none true false begun = omega (arith, none)
  told_by told none false b begun = refl

  pub told_of : AreToldAsPlanned records parts → record_differences records parts verdicts ≡ 0
  told_of told =
      let none : fault_count verdicts ≡ 0 =
      no_fault verdicts (λ v among. (let (i, x, at, is) = exchange_at v among in sound_of i x at (told.each i x at) (place_of records x.asked.handle) refl v is)) in
      told_by told none (list_any is_judged verdicts) (list_any begins_walk parts) refl

  pub judged_compares : (list_any is_judged verdicts ≡ true) ↔ ((i : ℕ) × (x : RecordPartValue) × (slice_get parts i ≡ Some x) × IsComparedAt records parts i x)
  judged_compares = (
    λ is.
        (let (v, among, judged) = any_is is_judged verdicts is in
        let (i, x, at, by) = exchange_at v among in
        (i, x, at, compared_of i x at (place_of records x.asked.handle) refl v judged by)),
    λ some.
        (let (i, x, at, compared) = some in
        let (v, there, by) = verdict_at i x at in
        any_of is_judged verdicts v (among_at verdicts i v there) (judged_of i x at compared (place_of records x.asked.handle) refl v by)),
  )

-- ---- the records of a node

module _ (f : NodeFacts) (recorded : AreRecorded f) where
  pub records_match : (difference_count f.recorded ≡ 0) ↔ AreToldAsPlanned f.records f.parts
  records_match = (
    λ none. told_is f.records f.parts f.verdicts recorded.judged (sym recorded.told.counted ∙ none),
    λ told. recorded.told.counted ∙ told_of f.records f.parts f.verdicts recorded.judged told,
  )

  pub records_compare : (has_compared f.recorded ≡ true) ↔ ((i : ℕ) × (x : RecordPartValue) × (slice_get f.parts i ≡ Some x) × IsComparedAt f.records f.parts i x)
  records_compare = (
    λ is. (judged_compares f.records f.parts f.verdicts recorded.judged).0 (sym recorded.told.compared ∙ is),
    λ compared. recorded.told.compared ∙ (judged_compares f.records f.parts f.verdicts recorded.judged).1 compared,
  )

  pub all_read : (missing_count f.verdicts (length f.records) ≡ 0) ↔ ((place : ℕ) → place < length f.records → IsReadToEnd f.records f.parts place)
  all_read = reads_all f.records f.parts f.verdicts recorded.judged
