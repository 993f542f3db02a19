-- What devices told of their terminus IDs.
use Rattle.std.{proofs.Common.{◌≡◌, ◌≢◌, ◌⊎◌, ℕ, ◌<◌, ◌+◌, ◌==◌, ◌||◌, not, Bool, true, false, List, [], ◌∷◌, ◌++◌, length, refl, ap, sym, ◌∙◌, subst, inl, inr, map, take, get_or, Result, Ok, Err}, specs.Prelude.{Option, Some, None, codes, option_to_list, if◌then◌else◌}, specs.Fmt.{decimal}, specs.List.{flat_map, list_any}, proofs.lemmas.Bool.{cases_Bool, eqb-true, eq-eqb}}
use Rattle.audited_captures.{specs.AsPlanned.{IsAmong}, specs.Counting.{difference_count, has_compared}, specs.Failures.{failed_lines}, specs.Identities.{told_lines}, specs.Lines.{LineValue, difference, note}, specs.Matching.{HasPlannedTid, IsFailure, SomeTellsTid, TellsOfTid}, specs.Tids.{AreTids, More, is_none, is_that, tells_tid, tid_failure, tid_line, tid_lines, tid_of, tid_words}, specs.Words.{word_value}, specs.declared.words.Word.{Word}, proofs.Booleans.{either, not_both, or_right}, proofs.FailureLaws.{compared_failed, failed_compared, failed_zero, remark_zero, zero_failed}, proofs.LineLaws.{compares_either, compares_left, compares_right, told_compared, told_some}, proofs.MatchLaws.{AllDiffer, all_flat, one_if, told_is, told_of, zero_both, zero_left, zero_right}, proofs.PlannedReadings.{any_is, any_of, flat_nil, flat_none, no_line}, proofs.WordLaws.{mapped_more}}

-- the next word of a list
pub next_tid : (eid : ℕ) (items : List Word) (i : ℕ) (item : Word) (old new : List (Result ℕ ℕ)) → i < length items → item ≡ get_or items i item
    → AreTids eid (map word_value (take i items)) old → new ≡ old ++ option_to_list (tid_of eid (map word_value (take i items)) (word_value item))
    → AreTids eid (map word_value (take (i + 1) items)) new
next_tid eid items i item old new within is are more =
    subst (λ ws. AreTids eid ws new) (sym (mapped_more word_value items i item within is))
    (subst (λ ts. AreTids eid (map word_value (take i items) ++ word_value item ∷ []) ts) (sym more) (More (map word_value (take i items)) old (word_value item) are))

-- ---- one answer

abbrev Answer : Type 0
Answer = Result ℕ ℕ

zero_untold : (tid : ℕ) → not (tid == 0) ≡ false → tid ≡ 0
zero_untold tid is = eqb-true tid 0 (by (tid == 0) is)
  where
    by : (b : Bool) → not b ≡ false → b ≡ true
    by true so = refl
    by false so = absurd (cc)

that_is : (planned : Option ℕ) (tid : ℕ) → is_that planned tid ≡ true → planned ≡ Some tid
that_is None tid is = absurd (cc)
that_is (Some p) tid is = ap Some (eqb-true p tid is)

that_of : (planned : Option ℕ) (tid : ℕ) → planned ≡ Some tid → is_that planned tid ≡ true
that_of planned tid is = ap (λ (o : Option ℕ). is_that o tid) is ∙ eq-eqb tid tid refl

none_is : (planned : Option ℕ) → is_none planned ≡ true → planned ≡ None
none_is None is = refl
none_is (Some p) is = absurd (cc)

none_not : (planned : Option ℕ) → planned ≢ None → is_none planned ≡ false
none_not None some = absurd (some refl)
none_not (Some p) some = refl

no_failure : (t : Answer) → tid_failure t ≡ [] → ¬ IsFailure t
no_failure (Ok tid) none = λ bad. bad
no_failure (Err code) none = λ bad. cc

failure_none : (t : Answer) → ¬ IsFailure t → tid_failure t ≡ []
failure_none (Ok tid) sound = refl
failure_none (Err code) sound = absurd (sound tt)

is_failure : (t : Answer) (c : ℕ) (cs : List ℕ) → tid_failure t ≡ c ∷ cs → IsFailure t
is_failure (Ok tid) c cs is = absurd (cc)
is_failure (Err code) c cs is = tt

failure_in : (t : Answer) (ts : List Answer) (c : ℕ) (cs ds : List ℕ) → tid_failure t ≡ ds → ((later : flat_map tid_failure ts ≡ c ∷ cs) → (u : Answer) × IsAmong u ts × IsFailure u)
    → ds ++ flat_map tid_failure ts ≡ c ∷ cs → (u : Answer) × IsAmong u (t ∷ ts) × IsFailure u
failure_in t ts c cs [] none later so = (let (u, among, bad) = later so in (u, inr among, bad))
failure_in t ts c cs (d ∷ ds) some later so = (t, inl refl, is_failure t d ds some)

some_failure : (ts : List Answer) (c : ℕ) (cs : List ℕ) → flat_map tid_failure ts ≡ c ∷ cs → (t : Answer) × IsAmong t ts × IsFailure t
some_failure [] c cs is = absurd (cc)
some_failure (t ∷ ts) c cs is = failure_in t ts c cs (tid_failure t) refl (λ later. some_failure ts c cs later) is

failures_some : (ts : List Answer) (t : Answer) → IsAmong t ts → IsFailure t → (c : ℕ) × (cs : List ℕ) × (flat_map tid_failure ts ≡ c ∷ cs)
failures_some ts t among bad = by (flat_map tid_failure ts) refl
  where
    by : (ds : List ℕ) → flat_map tid_failure ts ≡ ds → (c : ℕ) × (cs : List ℕ) × (flat_map tid_failure ts ≡ c ∷ cs)
    by [] none = absurd (no_failure t (flat_nil tid_failure ts none t among) bad)
    by (c ∷ cs) some = (c, cs, some)

module _ (name : List ℕ) (planned : Option ℕ) where
  abbrev text : ℕ → List ℕ
  text tid = name ++ (codes " tid " ++ (decimal tid ++ (codes " planned " ++ tid_words planned)))

  tid_all : (t : Answer) → AllDiffer (tid_line name planned t)
  tid_all (Ok tid) = one_if (tid == 0 || is_that planned tid) (text tid)
  tid_all (Err code) = refl

  tid_is : (t : Answer) → tid_line name planned t ≡ [] → HasPlannedTid planned t
  tid_is (Ok tid) none = elim (either (tid == 0) (is_that planned tid) (no_line (tid == 0 || is_that planned tid) (difference (text tid)) none)) [
    | inl zero ↦ inl (eqb-true tid 0 zero)
    | inr same ↦ inr (that_is planned tid same)
  ]
  tid_is (Err code) none = tt

  is_fine : (tid : ℕ) → HasPlannedTid planned (Ok tid) → (tid == 0 || is_that planned tid) ≡ true
  is_fine tid (inl zero) = ap (λ b. b || is_that planned tid) (eq-eqb tid 0 zero)
  is_fine tid (inr same) = or_right (tid == 0) (is_that planned tid) (that_of planned tid same)

  tid_none : (t : Answer) → HasPlannedTid planned t → tid_line name planned t ≡ []
  tid_none (Ok tid) has = ap (λ (b : Bool). if b then [] else difference (text tid) ∷ []) (is_fine tid has)
  tid_none (Err code) has = refl

  untold_tid : (t : Answer) → tells_tid t ≡ false → HasPlannedTid planned t
  untold_tid (Ok tid) untold = inl (zero_untold tid untold)
  untold_tid (Err code) untold = tt

  module _ (ts : List Answer) where
    abbrev tells : Bool
    tells = list_any tells_tid ts

    abbrev match_text : List ℕ
    match_text = name ++ (codes " tid match " ++ tid_words planned)

    abbrev unlike : List LineValue
    unlike = flat_map (tid_line name planned) ts

    abbrev told : List LineValue
    told = told_lines tells (note match_text) unlike

    abbrev remark : Bool
    remark = tells || is_none planned

    abbrev failed : Bool → List LineValue
    failed is_remark = failed_lines is_remark (name ++ codes " tid") (flat_map tid_failure ts)

    pub tids_are : difference_count (tid_lines name planned ts) ≡ 0 → (t : Answer) → IsAmong t ts → HasPlannedTid planned t
    tids_are zero t among = elim (told_is tells match_text unlike (all_flat (tid_line name planned) tid_all ts) (zero_left told (failed remark) zero)) [
      | inl untold ↦ elim (cases_Bool (tells_tid t)) [
        | inl says ↦ absurd (not_both tells (any_of tells_tid ts t among says) untold)
        | inr silent ↦ untold_tid t silent
      ]
      | inr none ↦ tid_is t (flat_nil (tid_line name planned) ts none t among)
    ]

    pub tid_told_are : difference_count (tid_lines name planned ts) ≡ 0 → (t : Answer) → IsAmong t ts → IsFailure t → SomeTellsTid ts ⊎ (planned ≡ None)
    tid_told_are zero t among bad = elim (cases_Bool remark) [
      | inl is ↦ elim (either tells (is_none planned) is) [
        | inl says ↦ inl (any_is tells_tid ts says)
        | inr none ↦ inr (none_is planned none)
      ]
      | inr counts ↦ (
          let last = zero_right told (failed remark) zero in
          let none = failed_zero (name ++ codes " tid") (flat_map tid_failure ts) (sym (ap (λ b. difference_count (failed b)) counts) ∙ last) in
          absurd (no_failure t (flat_nil tid_failure ts none t among) bad))
    ]

    is_a_remark : SomeTellsTid ts ⊎ (planned ≡ None) → remark ≡ true
    is_a_remark (inl some) = ap (λ b. b || is_none planned) (any_of tells_tid ts some.0 some.1 some.2)
    is_a_remark (inr none) = or_right tells (is_none planned) (ap is_none none)

    pub tids_of : ((t : Answer) → IsAmong t ts → HasPlannedTid planned t) → ((t : Answer) → IsAmong t ts → IsFailure t → SomeTellsTid ts ⊎ (planned ≡ None))
        → difference_count (tid_lines name planned ts) ≡ 0
    tids_of each sound =
        zero_both told (failed remark) (told_of tells match_text unlike (flat_none (tid_line name planned) ts (λ t among. tid_none t (each t among))))
        (elim (cases_Bool remark) [
          | inl is ↦ ap (λ b. difference_count (failed b)) is ∙ remark_zero (name ++ codes " tid") (flat_map tid_failure ts)
          | inr counts ↦ zero_failed remark (name ++ codes " tid") (flat_map tid_failure ts)
              (flat_none tid_failure ts (λ t among. failure_none t (λ bad. not_both remark (is_a_remark (sound t among bad)) counts)))
        ])

    pub tids_compared : has_compared (tid_lines name planned ts) ≡ true → (t : Answer) × IsAmong t ts × TellsOfTid planned t
    tids_compared is = elim (compares_either told (failed remark) is) [
      | inl here ↦ (let (t, among, says) = any_is tells_tid ts (told_some tells (note match_text) unlike here) in (t, among, inl says))
      | inr here ↦ (
          let (counts, c, cs, some) = failed_compared remark (name ++ codes " tid") (flat_map tid_failure ts) here in
          let (t, among, bad) = some_failure ts c cs some in
          (t, among, inr (bad, λ none. not_both remark (or_right tells (is_none planned) (ap is_none none)) counts)))
    ]

    says_compared : tells ≡ true → has_compared (tid_lines name planned ts) ≡ true
    says_compared says = compares_left told (failed remark) (told_compared tells match_text unlike says (all_flat (tid_line name planned) tid_all ts))

    pub compared_tids : (t : Answer) → IsAmong t ts → TellsOfTid planned t → has_compared (tid_lines name planned ts) ≡ true
    compared_tids t among (inl says) = says_compared (any_of tells_tid ts t among says)
    compared_tids t among (inr (bad, some)) = elim (cases_Bool tells) [
      | inl says ↦ says_compared says
      | inr silent ↦ (
          let (c, cs, there) = failures_some ts t among bad in
          let counts : remark ≡ false = ap (λ b. b || is_none planned) silent ∙ none_not planned some in
          compares_right told (failed remark) (ap (λ b. has_compared (failed b)) counts ∙ compared_failed (name ++ codes " tid") (flat_map tid_failure ts) c cs there))
    ]
