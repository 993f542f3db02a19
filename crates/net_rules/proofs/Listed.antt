-- Lists that give something to nodes, one after another.
use Rattle.std.{proofs.Common.{◌≡◌, ◌≢◌, ℕ, ◌+◌, ◌<◌, ◌≤◌, List, [], ◌∷◌, ◌++◌, length, map, Option, Some, None, option_map, unwrap_or, refl, sym, ◌∙◌, ap, subst, arith, inl, inr, true}, specs.Prelude.{slice_get, find, ◌==◌}, proofs.lemmas.Bool.{cases_lt, cases_Bool, eqb-true, eq-eqb}, proofs.lemmas.List.{length-map, nil_from_length}, proofs.lemmas.Option.{same_Some, none-some, slice_get_within}}
use Rattle.plan_values.{specs.declared.plan.Plan.{Plan}, specs.declared.certificate.NodeLevel.{NodeLevel}, specs.declared.certificate.NodePlaces.{NodePlaces}, specs.declared.certificate.RecordPlace.{RecordPlace}, specs.declared.terminus.PlannedRecord.{PlannedRecord}}
use Rattle.net_rules.{specs.declared.certifying.chains.ChainFault.{ChainFault}, specs.OwnerLoops.{IsLevel, AreLevels}, specs.RecordChains.{ArePlaces, IsBadChain}, specs.Certificates.{AreLevelsBefore, AreExactLevels, ArePlacesBefore, AreExactPlaces, NamesBadChain}, proofs.Beyond.{no_owner, no_records}, proofs.Filters.{find_cases}, proofs.OneOrder.{places_in}}
use Rattle.net_tables.{specs.Ownership.{level_given}, specs.Repositories.{records_of, places_given}, proofs.Elements.{in_push, element}}
use Rattle.net_rules.specs.declared.certify_error.CertifyError.TheVariants as error

module _ {X : Type 0} (key : X → ℕ) where
  abbrev found_at : List X → ℕ → Option X
  found_at xs n = find (λ x. key x == n) xs

  abbrev AreBelow : ℕ → List X → Type 0
  AreBelow n xs = (i : ℕ) (x : X) → slice_get xs i ≡ Some x → key x < n

  abbrev Ascend : List X → Type 0
  Ascend xs = (i j : ℕ) (x y : X) → i < j → slice_get xs i ≡ Some x → slice_get xs j ≡ Some y → key x < key y

  -- nothing is given to a node past all
  found_none : (xs : List X) (n m : ℕ) → AreBelow n xs → n ≤ m → found_at xs m ≡ None
  found_none xs n m below past = elim (find_cases (λ x. key x == m) xs) [
    | inl (none, fail) ↦ none
    | inr (i, x, is, passes, found) ↦ absurd (omega (arith, below i x is, eqb-true (key x) m passes))
  ]

  -- what comes last is found where nothing before it is
  found_last : (xs : List X) (y : X) → found_at xs (key y) ≡ None → found_at (xs ++ y ∷ []) (key y) ≡ Some y
  found_last [] y none = (let here : (key y == key y) ≡ true = eq-eqb (key y) (key y) refl in rw here refl)
  found_last (x ∷ xs) y none = elim (cases_Bool (key x == key y)) [
    | inl passes ↦ absurd (let one : found_at (x ∷ xs) (key y) ≡ Some x = rw passes refl in let clash : None ≡ Some x = sym none ∙ one in none-some x clash)
    | inr fails ↦ (let rest : found_at xs (key y) ≡ None = (let skipped : found_at (x ∷ xs) (key y) ≡ found_at xs (key y) = rw fails refl in sym skipped ∙ none) in rw fails (found_last xs y rest))
  ]

  -- and changes nothing for other nodes
  found_other : (xs : List X) (y : X) (m : ℕ) → key y ≢ m → found_at (xs ++ y ∷ []) m ≡ found_at xs m
  found_other [] y m differ = elim (cases_Bool (key y == m)) [
    | inl passes ↦ absurd (differ (eqb-true (key y) m passes))
    | inr fails ↦ rw fails refl
  ]
  found_other (x ∷ xs) y m differ = elim (cases_Bool (key x == m)) [
    | inl passes ↦ rw passes refl
    | inr fails ↦ rw fails (found_other xs y m differ)
  ]

  below_more : (xs : List X) (y : X) (n : ℕ) → AreBelow n xs → key y ≡ n → AreBelow (n + 1) (xs ++ y ∷ [])
  below_more xs y n below at i x is = elim (in_push xs y i x is) [
    | inl before ↦ omega (arith, below i x before)
    | inr (last, same) ↦ omega (arith, at, ap key same)
  ]

  below_still : (xs : List X) (n : ℕ) → AreBelow n xs → AreBelow (n + 1) xs
  below_still xs n below i x is = omega (arith, below i x is)

  ascend_more : (xs : List X) (y : X) (n : ℕ) → AreBelow n xs → key y ≡ n → Ascend xs → Ascend (xs ++ y ∷ [])
  ascend_more xs y n below at up i j x z less is is' = elim (in_push xs y j z is') [
    | inl before ↦ elim (in_push xs y i x is) [
      | inl earlier ↦ up i j x z less earlier before
      | inr (last, same) ↦ absurd (omega (arith, less, last, slice_get_within xs j z before))
    ]
    | inr (last, same) ↦ elim (in_push xs y i x is) [
      | inl earlier ↦ omega (arith, below i x earlier, at, ap key same)
      | inr (last', same') ↦ absurd (omega (arith, less, last, last'))
    ]
  ]

-- ---- levels

pub no_levels : (counts : List ℕ) → AreLevelsBefore counts 0 []
no_levels counts = record {
  levels = λ m k less. absurd (omega arith);
  some = λ i one is. absurd (none-some one is);
  within = λ i one is. absurd (none-some one is);
  ascend = λ i j one other less is. absurd (none-some one is);
}

pub level_pushed : (counts : List ℕ) (n : ℕ) (given : List NodeLevel) (one : NodeLevel) → AreLevelsBefore counts n given → one.node ≡ n → 0 < one.level → slice_get counts n ≡ Some one.level → AreLevelsBefore counts (n + 1) (given ++ one ∷ [])
level_pushed counts n given one is at high here = record {
  levels = λ m k less there. elim (cases_lt m n) [
    | inl earlier ↦ ap (λ o. unwrap_or (option_map (λ (x : NodeLevel). x.level) o) 0) (found_other (λ (x : NodeLevel). x.node) given one m (λ same. omega (arith, at, same, earlier))) ∙ is.levels m k earlier there
    | inr now ↦
        (let same : m ≡ n = omega (arith, less, now) in
        let none : find (λ (x : NodeLevel). x.node == one.node) given ≡ None = found_none (λ (x : NodeLevel). x.node) given n one.node is.within (omega (arith, at)) in
        let found = found_last (λ (x : NodeLevel). x.node) given one none in
        ap (λ j. level_given (given ++ one ∷ []) j) (same ∙ sym at) ∙ (ap (λ o. unwrap_or (option_map (λ (x : NodeLevel). x.level) o) 0) found ∙ same_Some one.level k (sym here ∙ (ap (λ j. slice_get counts j) (sym same) ∙ there))))
  ];
  some = λ i x there. elim (in_push given one i x there) [
    | inl before ↦ is.some i x before
    | inr (last, same) ↦ (let P : NodeLevel → Type 0 = λ y. 0 < y.level in subst P same high)
  ];
  within = below_more (λ (x : NodeLevel). x.node) given one n is.within at;
  ascend = ascend_more (λ (x : NodeLevel). x.node) given one n is.within at is.ascend;
}

pub level_skipped : (counts : List ℕ) (n : ℕ) (given : List NodeLevel) → AreLevelsBefore counts n given → slice_get counts n ≡ Some 0 → AreLevelsBefore counts (n + 1) given
level_skipped counts n given is here = record {
  levels = λ m k less there. elim (cases_lt m n) [
    | inl earlier ↦ is.levels m k earlier there
    | inr now ↦
        (let same : m ≡ n = omega (arith, less, now) in
        let none : find (λ (x : NodeLevel). x.node == m) given ≡ None = found_none (λ (x : NodeLevel). x.node) given n m is.within now in
        ap (λ o. unwrap_or (option_map (λ (x : NodeLevel). x.level) o) 0) none ∙ same_Some 0 k (sym here ∙ (ap (λ j. slice_get counts j) (sym same) ∙ there)))
  ];
  some = is.some;
  within = below_still (λ (x : NodeLevel). x.node) given n is.within;
  ascend = is.ascend;
}

-- all levels are given
pub levels_all : (plan : Plan) (counts : List ℕ) (given : List NodeLevel) → AreLevels plan counts → AreLevelsBefore counts (length counts) given → AreExactLevels plan given
levels_all plan counts given are is = record {
  levels = λ n. elim (cases_lt n (length counts)) [
    | inl within ↦
        (let count = element counts n within in
        let P : ℕ → Type 0 = IsLevel plan n in
        subst P (sym (is.levels n count.0 within count.1)) (are.exact n count.0 count.1))
    | inr past ↦
        (let none : find (λ (x : NodeLevel). x.node == n) given ≡ None = found_none (λ (x : NodeLevel). x.node) given (length counts) n is.within past in
        let low : level_given given n ≡ 0 = ap (λ o. unwrap_or (option_map (λ (x : NodeLevel). x.level) o) 0) none in
        let P : ℕ → Type 0 = IsLevel plan n in
        subst P (sym low) (n, refl, λ owner owned. no_owner plan n owner (omega (arith, past, are.long)) owned))
  ];
  some = is.some;
  within = λ i one there. omega (arith, is.within i one there, are.long);
  ascend = is.ascend;
}

-- ---- places

pub no_places : (plan : Plan) → ArePlacesBefore plan 0 []
no_places plan = record {
  places = λ m less. absurd (omega arith);
  some = λ i one is. absurd (none-some one is);
  within = λ i one is. absurd (none-some one is);
  ascend = λ i j one other less is. absurd (none-some one is);
}

pub places_pushed : (plan : Plan) (n : ℕ) (given : List NodePlaces) (one : NodePlaces) → ArePlacesBefore plan n given → one.node ≡ n → ArePlaces (records_of plan n) (map (λ p. p.value) one.places.items)
    → 0 < length (records_of plan n) → ArePlacesBefore plan (n + 1) (given ++ one ∷ [])
unfolding places_in
places_pushed plan n given one is at are some = record {
  places = λ m less. elim (cases_lt m n) [
    | inl earlier ↦
        (let P : List ℕ → Type 0 = ArePlaces (records_of plan m) in
        subst P (sym (ap places_in (found_other (λ (x : NodePlaces). x.node) given one m (λ same. omega (arith, at, same, earlier))))) (is.places m earlier))
    | inr now ↦
        (let same : m ≡ n = omega (arith, less, now) in
        let none : find (λ (x : NodePlaces). x.node == one.node) given ≡ None = found_none (λ (x : NodePlaces). x.node) given n one.node is.within (omega (arith, at)) in
        let found = found_last (λ (x : NodePlaces). x.node) given one none in
        let here : places_given (given ++ one ∷ []) m ≡ map (λ p. p.value) one.places.items = ap (λ j. places_given (given ++ one ∷ []) j) (same ∙ sym at) ∙ ap places_in found in
        let P : ℕ → Type 0 = λ j. ArePlaces (records_of plan j) (map (λ p. p.value) one.places.items) in
        let Q : List ℕ → Type 0 = ArePlaces (records_of plan m) in
        subst Q (sym here) (subst P (sym same) are))
  ];
  some = λ i x there. elim (in_push given one i x there) [
    | inl before ↦ is.some i x before
    | inr (last, same) ↦ (let P : NodePlaces → Type 0 = λ y. 0 < length y.places.items in
        subst P same (omega (arith, some, are.0, length-map one.places.items (λ (p : RecordPlace). p.value))))
  ];
  within = below_more (λ (x : NodePlaces). x.node) given one n is.within at;
  ascend = ascend_more (λ (x : NodePlaces). x.node) given one n is.within at is.ascend;
}

-- no records need no places
unplaced : (plan : Plan) (n m : ℕ) (given : List NodePlaces) → ((i : ℕ) (one : NodePlaces) → slice_get given i ≡ Some one → one.node < n) → n ≤ m → records_of plan m ≡ [] → ArePlaces (records_of plan m) (places_given given m)
unfolding places_in
unplaced plan n m given within past none =
    let nowhere : find (λ (x : NodePlaces). x.node == m) given ≡ None = found_none (λ (x : NodePlaces). x.node) given n m within past in
    let P : List ℕ → Type 0 = ArePlaces (records_of plan m) in
    let places : places_given given m ≡ [] = ap places_in nowhere in
    subst P (sym places) (rw none (refl, λ j r is. absurd (none-some r is)))

pub places_skipped : (plan : Plan) (n : ℕ) (given : List NodePlaces) → ArePlacesBefore plan n given → records_of plan n ≡ [] → ArePlacesBefore plan (n + 1) given
places_skipped plan n given is none = record {
  places = λ m less. elim (cases_lt m n) [
    | inl earlier ↦ is.places m earlier
    | inr now ↦
        (let same : n ≡ m = omega (arith, less, now) in
        let P : ℕ → Type 0 = λ j. records_of plan j ≡ [] in
        unplaced plan n m given is.within now (subst P same none))
  ];
  some = is.some;
  within = below_still (λ (x : NodePlaces). x.node) given n is.within;
  ascend = is.ascend;
}

pub empty_skipped : (plan : Plan) (n : ℕ) (given : List NodePlaces) (records : List PlannedRecord) → records ≡ records_of plan n → length records ≡ 0 → ArePlacesBefore plan n given → ArePlacesBefore plan (n + 1) given
empty_skipped plan n given records are empty is = places_skipped plan n given is (sym are ∙ nil_from_length records empty)

-- all places are given
pub places_all : (plan : Plan) (given : List NodePlaces) → ArePlacesBefore plan (length plan.nodes.items) given → AreExactPlaces plan given
places_all plan given is = record {
  places = λ n. elim (cases_lt n (length plan.nodes.items)) [
    | inl within ↦ is.places n within
    | inr past ↦ unplaced plan (length plan.nodes.items) n given is.within past (no_records plan n past)
  ];
  some = is.some;
  within = is.within;
  ascend = is.ascend;
}

-- a chain that is bad is the first where all nodes before have places
pub bad_chain_first : (plan : Plan) (node : ℕ) (given : List NodePlaces) (kind : ChainFault) (entry : ℕ) → ArePlacesBefore plan node given → IsBadChain (records_of plan node) kind entry → NamesBadChain plan (error.BadChain node kind entry)
bad_chain_first plan node given kind entry is bad = (bad, λ n less. (places_given given n, is.places n less))
