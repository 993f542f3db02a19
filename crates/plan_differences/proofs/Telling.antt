-- What is told of the facts of two plans.
use Rattle.std.{proofs.Common.{◌≡◌, inl, inr, ◌<◌, ◌≤◌, ℕ, ◌+◌, List, [], ◌∷◌, ◌++◌, length, map, take, get_or, subst, sym, ap, ◌∙◌, arith}, specs.Prelude.{◌↔◌, All, Contains}, specs.List.{flat_map}, proofs.lemmas.List.{flat_map_more, length-append, length-map, map-append, nil_from_length}, proofs.lemmas.List.Elements.{All-append, All-cons, All-contains_itself, All-map, All-nil, All-weaker, Contains-append_left, Contains-append_right, Contains-push, Contains-push_cases}}
use Rattle.plan_differences.{specs.declared.difference.Difference.{Difference}, specs.declared.difference.Difference.TheVariants.{Removed, Changed, Added}, specs.declared.difference.Side.{Side}, specs.declared.difference.Side.TheVariants.{Old, New}, specs.declared.fact.Fact.{Fact}, specs.DifferenceLines.{thing_text}, specs.Differences.{AreDifferences, AreOfOne, AreOnlyIn, IsDifference, IsOnlyIn, alike, of_fact, told_of}, specs.Facts.{FactValue, fact_value}, proofs.Indexes.{has_words}, proofs.Items.{contains_head, contains_none, take_read}}

-- ---- facts that only one plan says

pub none_only : (these : List Fact) (those : List FactValue) → AreOnlyIn (map fact_value (take 0 these)) those []
none_only these those v = (λ there. absurd (contains_none v there), λ h. absurd (contains_none v h.0))

module _ (these those : List FactValue) (only : List Fact) (f : Fact) (are : AreOnlyIn these those only) where
  -- one fact more, which those say too
  pub only_kept : Contains those (fact_value f) → AreOnlyIn (these ++ fact_value f ∷ []) those only
  only_kept there v = (
    λ found. (Contains-append_left these (fact_value f ∷ []) v ((are v).0 found).0, ((are v).0 found).1),
    λ h. elim (Contains-push_cases these (fact_value f) v h.0) [
      | inl before ↦ (are v).1 (before, h.1)
      | inr same ↦ absurd (h.1 (subst (Contains those) same there))
    ],
  )

  -- one fact more, which those don't say
  pub only_more : ¬ Contains those (fact_value f) → AreOnlyIn (these ++ fact_value f ∷ []) those (only ++ f ∷ [])
  only_more not v = (
    λ found. elim (Contains-push_cases (map fact_value only) (fact_value f) v (subst (λ vs. Contains vs v) grown found)) [
      | inl before ↦ (Contains-append_left these (fact_value f ∷ []) v ((are v).0 before).0, ((are v).0 before).1)
      | inr same ↦ subst (IsOnlyIn (these ++ fact_value f ∷ []) those) same (Contains-push these (fact_value f), not)
    ],
    λ h. subst (λ vs. Contains vs v) (sym grown) (elim (Contains-push_cases these (fact_value f) v h.0) [
      | inl before ↦ Contains-append_left (map fact_value only) (fact_value f ∷ []) v ((are v).1 (before, h.1))
      | inr same ↦ subst (Contains (map fact_value only ++ fact_value f ∷ [])) same (Contains-push (map fact_value only) (fact_value f))
    ]),
  )
    where
      grown : map fact_value (only ++ f ∷ []) ≡ map fact_value only ++ fact_value f ∷ []
      grown = map-append fact_value only (f ∷ [])

-- ---- what is told of them

all_flat_map : {A B : Type 0} (P : B → Type 0) (h : A → List B) (xs : List A) → ((x : A) → Contains xs x → All P (h x)) → All P (flat_map h xs)
all_flat_map P h [] each = All-nil P
all_flat_map P h (x ∷ xs) each = All-append P (h x) (flat_map h xs) (each x (contains_head x xs)) (all_flat_map P h xs (λ y there. each y (Contains-append_right (x ∷ []) xs y there)))

long_flat_map : {A B : Type 0} (h : A → List B) (xs : List A) → ((x : A) → 0 < length (h x)) → length xs ≤ length (flat_map h xs)
long_flat_map h [] each = omega arith
long_flat_map h (x ∷ xs) each = omega (arith, each x, long_flat_map h xs each, length-append (h x) (flat_map h xs))

module _ (gone come : List Fact) (f : Fact) where
  old_so : (others : List Fact) → Contains gone f → ((g : Fact) → Contains others g ↔ (Contains come g × AreOfOne g f)) → All (IsDifference gone come) (of_fact Old f others)
  old_so [] here are = All-cons (IsDifference gone come) (Removed f) [] (here, λ g there same. contains_none g ((are g).1 (there, same))) (All-nil (IsDifference gone come))
  old_so (g ∷ gs) here are =
      All-map (IsDifference gone come) (Changed f) (g ∷ gs)
      (All-weaker (Contains (g ∷ gs)) (λ h. IsDifference gone come (Changed f h)) (λ h there. (here, ((are h).0 there).0, sym ((are h).0 there).1)) (g ∷ gs) (All-contains_itself (g ∷ gs)))

  new_so : (others : List Fact) → Contains come f → ((g : Fact) → Contains others g ↔ (Contains gone g × AreOfOne g f)) → All (IsDifference gone come) (of_fact New f others)
  new_so [] here are = All-cons (IsDifference gone come) (Added f) [] (here, λ g there same. contains_none g ((are g).1 (there, same))) (All-nil (IsDifference gone come))
  new_so (g ∷ gs) here are = All-nil (IsDifference gone come)

-- what is told of one fact more
pub told_more : (side : Side) (facts others : List Fact) (k : ℕ) (f : Fact) (old made : List Difference) → k < length facts → f ≡ get_or facts k f → made ≡ of_fact side f (alike others f)
    → old ≡ told_of side (take k facts) others → old ++ made ≡ told_of side (take (k + 1) facts) others
told_more side facts others k f old made within is its before =
    ap (λ xs. xs ++ made) before ∙ (ap (λ xs. told_of side (take k facts) others ++ xs) its
    ∙ (flat_map_more (λ g. of_fact side g (alike others g)) [] (take k facts) f ∙ ap (λ xs. told_of side xs others) (sym (take_read facts k f within is))))

some_told : (f : Fact) (others : List Fact) → 0 < length (of_fact Old f others)
some_told f [] = omega arith
some_told f (g ∷ gs) = omega (arith, length-map (g ∷ gs) (Changed f))

pub all_told : (olds news : List FactValue) (gone come : List Fact) → AreOnlyIn olds news gone → AreOnlyIn news olds come → AreDifferences olds news (told_of Old gone come ++ told_of New come gone)
all_told olds news gone come one other = record {
  gone = gone;
  come = come;
  are_gone = one;
  have_come = other;
  each = All-append (IsDifference gone come) (told_of Old gone come) (told_of New come gone)
      (all_flat_map (IsDifference gone come) (λ f. of_fact Old f (alike come f)) gone (λ f here. old_so gone come f (alike come f) here (has_words thing_text come (thing_text (fact_value f)))))
      (all_flat_map (IsDifference gone come) (λ g. of_fact New g (alike gone g)) come (λ g here. new_so gone come g (alike gone g) here (has_words thing_text gone (thing_text (fact_value g)))));
  none = λ nothing. none_so gone (no_gone nothing) nothing;
}
  where
    no_gone : told_of Old gone come ++ told_of New come gone ≡ [] → gone ≡ []
    no_gone nothing = nil_from_length gone (omega (arith, ap length nothing, length-append (told_of Old gone come) (told_of New come gone), long_flat_map (λ f. of_fact Old f (alike come f)) gone (λ f. some_told f (alike come f))))

    none_so : (left : List Fact) → left ≡ [] → told_of Old left come ++ told_of New come left ≡ [] → (left ≡ []) × (come ≡ [])
    none_so [] none nothing = (none, nil_from_length come (omega (arith, ap length nothing, long_flat_map (λ g. of_fact New g (alike [] g)) come (λ g. omega arith))))
    none_so (f ∷ fs) none nothing = absurd (omega (arith, ap length none))
