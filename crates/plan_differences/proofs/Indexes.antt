-- Facts that are listed by words.
use Rattle.std.{proofs.Common.{◌≡◌, ◌≢◌, inl, inr, ◌<◌, ℕ, ◌+◌, Bool, true, false, cond, List, [], ◌∷◌, ◌++◌, length, map, take, get_or, subst, sym, ap, ◌∙◌}, specs.Prelude.{◌↔◌, Contains, if◌then◌else◌}, specs.List.{filter}, specs.Cmp.Lexicographic.{bytes_decides}, specs.Str.{bytes_eq}, proofs.lemmas.Bool.{false≢true}, proofs.lemmas.List.{map-append}, proofs.lemmas.List.Elements.{All-contains, All-contains_itself, All-filter, Contains-append_cases, Contains-append_right, Contains-push_cases, filter_more, filter_passes}}
use Rattle.plan_differences.{specs.declared.fact.Fact.{Fact}, specs.Facts.{FactValue, fact_value}, specs.Indexes.{of_words}, proofs.Items.{contains_head, contains_map, contains_none, map_contains, take_read}}

-- one fact more is listed for its own words
pub listed_more : (text : FactValue → List ℕ) (facts : List Fact) (k : ℕ) (f : Fact) (words own : List ℕ) (old new : List Fact) → k < length facts → f ≡ get_or facts k f → own ≡ text (fact_value f)
    → new ≡ old ++ (if bytes_eq words own then f ∷ [] else []) → old ≡ of_words text (take k facts) words → new ≡ of_words text (take (k + 1) facts) words
listed_more text facts k f words own old new within is its grown before =
    grown ∙ (ap (λ xs. xs ++ cond (bytes_eq words own) (f ∷ []) []) before ∙ (ap (λ w. of_words text (take k facts) words ++ cond (bytes_eq words w) (f ∷ []) []) its
    ∙ (ap (λ g. of_words text (take k facts) words ++ cond (bytes_eq words (text (fact_value g))) (g ∷ []) []) is ∙ sym (filter_more (λ g. bytes_eq words (text (fact_value g))) facts k f within))))

at_front : {A : Type 0} (b : Bool) (x : A) (xs : List A) → b ≡ true → Contains (cond b (x ∷ xs) xs) x
at_front true x xs is = contains_head x xs
at_front false x xs is = absurd (false≢true is)

behind : {A : Type 0} (b : Bool) (x y : A) (xs : List A) → Contains xs y → Contains (cond b (x ∷ xs) xs) y
behind true x y xs there = Contains-append_right (x ∷ []) xs y there
behind false x y xs there = there

-- what passes is kept
kept : {A : Type 0} (p : A → Bool) (xs : List A) (y : A) → p y ≡ true → Contains xs y → Contains (filter p xs) y
kept p [] y passes there = absurd (contains_none y there)
kept p (x ∷ xs) y passes there = elim (Contains-append_cases (x ∷ []) xs y there) [
  | inl first ↦ elim (Contains-push_cases [] x y first) [
    | inl h ↦ absurd (contains_none y h)
    | inr same ↦ subst (Contains (filter p (x ∷ xs))) same (at_front (p x) x (filter p xs) (ap p same ∙ passes))
  ]
  | inr later ↦ behind (p x) x y (filter p xs) (kept p xs y passes later)
]

-- just the facts of the words are among them
pub has_words : (text : FactValue → List ℕ) (facts : List Fact) (words : List ℕ) (f : Fact) → Contains (of_words text facts words) f ↔ (Contains facts f × (text (fact_value f) ≡ words))
has_words text facts words f = (
  λ there. (
    All-contains (Contains facts) (of_words text facts words) f (All-filter (λ g. bytes_eq words (text (fact_value g))) (Contains facts) facts (All-contains_itself facts)) there,
    sym ((bytes_decides words (text (fact_value f))).0
        (All-contains (λ g. bytes_eq words (text (fact_value g)) ≡ true) (of_words text facts words) f (filter_passes (λ g. bytes_eq words (text (fact_value g))) facts) there)),
  ),
  λ h. kept (λ g. bytes_eq words (text (fact_value g))) facts f ((bytes_decides words (text (fact_value f))).1 (sym h.1)) h.0,
)

-- a fact is one of a list just where it is one of those of its own words
pub among_its_words : (text : FactValue → List ℕ) (facts : List Fact) (v : FactValue) → Contains (map fact_value (of_words text facts (text v))) v ↔ Contains (map fact_value facts) v
among_its_words text facts v = (
  λ there. (let h = map_contains fact_value (of_words text facts (text v)) v there in
      subst (Contains (map fact_value facts)) h.2 (contains_map fact_value facts h.0 ((has_words text facts (text v) h.0).0 h.1).0)),
  λ there. (let h = map_contains fact_value facts v there in
      subst (Contains (map fact_value (of_words text facts (text v)))) h.2 (contains_map fact_value (of_words text facts (text v)) h.0 ((has_words text facts (text v) h.0).1 (h.1, ap text h.2)))),
)

-- the values of the first facts, and of one more
pub values_more : (facts : List Fact) (k : ℕ) (f : Fact) → k < length facts → f ≡ get_or facts k f → map fact_value (take (k + 1) facts) ≡ map fact_value (take k facts) ++ fact_value f ∷ []
values_more facts k f within is = ap (map fact_value) (take_read facts k f within is) ∙ map-append fact_value (take k facts) (f ∷ [])

-- none of the first facts is this one, nor is the next
pub none_more : (facts : List Fact) (k : ℕ) (f : Fact) (v : FactValue) → k < length facts → f ≡ get_or facts k f → fact_value f ≢ v
    → ¬ Contains (map fact_value (take k facts)) v → ¬ Contains (map fact_value (take (k + 1) facts)) v
none_more facts k f v within is other none there =
    elim (Contains-push_cases (map fact_value (take k facts)) (fact_value f) v (subst (λ vs. Contains vs v) (values_more facts k f within is) there)) [
      | inl before ↦ none before
      | inr same ↦ other same
    ]
