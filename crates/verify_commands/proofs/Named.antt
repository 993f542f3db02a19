-- Names of runs, one after another.
use Rattle.std.{proofs.Common.{◌≡◌, ◌≢◌, ℕ, ◌+◌, ◌<◌, List, [], ◌∷◌, ◌++◌, length, get_or, take, sym, ◌∙◌, ap, subst, inl, inr, arith, map, codes, string_bytes, append_assoc}, specs.Prelude.{Contains, IfOk, Result, Ok, Err, String}, proofs.lemmas.Bool.{cases_lt}, proofs.lemmas.List.{append_cancel_right, get_or-map, length-map, same_from_push, take_more}, proofs.lemmas.List.Elements.{All-push, All-weaker, All-contains, Contains-append_left, Contains-push, Contains-push_cases, Contains-get_or}, proofs.lemmas.List.Quantifiers.{all_pairs_push}, specs.List.Sorted.{IsPermutation}, proofs.lemmas.List.Sorted.{All-permutation, Contains-permutation}}
use Rattle.verify_commands.specs.Runs.{AddsOnce, AddsStem, AreNames, AreRuns, AreStems, HasFileOf, IsFileOf}

module _ (files names : List (List ℕ)) (file : List ℕ) (before : AreStems files names) where
  has_more : (name : List ℕ) → HasFileOf files name → HasFileOf (files ++ file ∷ []) name
  has_more name (it, there, is) = (it, Contains-append_left files (file ∷ []) it there, is)

  pub one_stem : (stem : List ℕ) → IsFileOf stem file → ((name : List ℕ) → IsFileOf name file → name ≡ stem) → AreStems (files ++ file ∷ []) (names ++ stem ∷ [])
  one_stem stem is only = record {
    sound = All-push (HasFileOf (files ++ file ∷ [])) names stem (All-weaker (HasFileOf files) (HasFileOf (files ++ file ∷ [])) has_more names before.sound)
        (file, Contains-push files file, is);
    complete = λ name has. elim (Contains-push_cases files file has.0 has.1) [
      | inl old ↦ Contains-append_left names (stem ∷ []) name (before.complete name (has.0, old, has.2))
      | inr new ↦ subst (Contains (names ++ stem ∷ [])) (sym (only name (subst (IsFileOf name) (sym new) has.2))) (Contains-push names stem)
    ];
  }

  pub no_stem : ((name : List ℕ) → ¬ IsFileOf name file) → AreStems (files ++ file ∷ []) names
  no_stem none = record {
    sound = All-weaker (HasFileOf files) (HasFileOf (files ++ file ∷ [])) has_more names before.sound;
    complete = λ name has. elim (Contains-push_cases files file has.0 has.1) [
      | inl old ↦ before.complete name (has.0, old, has.2)
      | inr new ↦ absurd (none name (subst (IsFileOf name) (sym new) has.2))
    ];
  }

-- a file is of one run at most
other_ending : (a b : List ℕ) → a ++ codes ".json" ≡ b ++ codes ".txt" → ⊥
other_ending a b same =
    let last = same_from_push (a ++ codes ".jso") (b ++ codes ".tx") 110 116 (append_assoc a (codes ".jso") (110 ∷ []) ∙ (same ∙ sym (append_assoc b (codes ".tx") (116 ∷ [])))) in
    omega (arith, last.1)

one_run : (file a b : List ℕ) → IsFileOf a file → IsFileOf b file → a ≡ b
one_run file a b (inl x) (inl y) = append_cancel_right a b (codes ".json") (sym x ∙ y)
one_run file a b (inl x) (inr y) = absurd (other_ending a b (sym x ∙ y))
one_run file a b (inr x) (inl y) = absurd (other_ending b a (sym y ∙ x))
one_run file a b (inr x) (inr y) = append_cancel_right a b (codes ".txt") (sym x ∙ y)

pub stem_more : (files old new : List (List ℕ)) (file : List ℕ) → AreStems files old → AddsStem file old new → AreStems (files ++ file ∷ []) new
stem_more files old new file before (inl (stem, is, same)) =
    subst (AreStems (files ++ file ∷ [])) (sym same) (one_stem files old file before stem is (λ name other. one_run file name stem other is))
stem_more files old new file before (inr (none, same)) = subst (AreStems (files ++ file ∷ [])) (sym same) (no_stem files old file before none)

-- ---- texts in a list of strings

module _ {Z : Type 0} (names : List (String Z)) (k : ℕ) (it : String Z) (within : k < length names) (is : it ≡ get_or names k it) where
  pub text_at : (d : List ℕ) → get_or (map string_bytes names) k d ≡ string_bytes it
  text_at d = get_or-map string_bytes names k it d within ∙ ap string_bytes (sym is)

  inside : k < length (map string_bytes names)
  inside = omega (arith, within, length-map names (string_bytes {Z = Z}))

  pub one_more : take (k + 1) (map string_bytes names) ≡ take k (map string_bytes names) ++ string_bytes it ∷ []
  one_more = take_more (map string_bytes names) k (string_bytes it) inside ∙ ap (λ x. take k (map string_bytes names) ++ x ∷ []) (text_at (string_bytes it))

  pub found_at : Contains (map string_bytes names) (string_bytes it)
  found_at = (k, inside, text_at (string_bytes it))

  pub not_at : (name : List ℕ) → string_bytes it ≢ name → ((j : ℕ) (d : List ℕ) → j < k → get_or (map string_bytes names) j d ≢ name)
      → (j : ℕ) (d : List ℕ) → j < k + 1 → get_or (map string_bytes names) j d ≢ name
  not_at name other before j d less same = elim (cases_lt j k) [
    | inl lt ↦ before j d lt same
    | inr past ↦ (let here : j ≡ k = omega (arith, less, past) in other (sym (text_at d) ∙ subst (λ i. get_or (map string_bytes names) i d ≡ name) here same))
  ]

-- the same in another order
pub stems_again : (files names other : List (List ℕ)) → IsPermutation names other → AreStems files names → AreStems files other
stems_again files names other same are = record {
  sound = All-permutation (HasFileOf files) names other same are.sound;
  complete = λ name has. Contains-permutation names other name same (are.complete name has);
}

-- each once
pub runs_once : (files names given : List (List ℕ)) → AreStems files names → AreNames names given → AreRuns files given
runs_once files names given are once = record {
  stems = record {
    sound = All-weaker (Contains names) (HasFileOf files) (λ name there. All-contains (HasFileOf files) names name are.sound there) given once.sound;
    complete = λ name has. All-contains (Contains given) names name once.complete (are.complete name has);
  };
  once = once.once;
}

module _ (names old new : List (List ℕ)) (name : List ℕ) (before : AreNames names old) where
  pub once_more : AddsOnce name old new → AreNames (names ++ name ∷ []) new
  once_more (inl (there, same)) = subst (AreNames (names ++ name ∷ [])) (sym same) (record {
    sound = All-weaker (Contains names) (Contains (names ++ name ∷ [])) (λ n is. Contains-append_left names (name ∷ []) n is) old before.sound;
    complete = All-push (Contains old) names name before.complete there;
    once = before.once;
  })
  once_more (inr (not, same)) = subst (AreNames (names ++ name ∷ [])) (sym same) (record {
    sound = All-push (Contains (names ++ name ∷ [])) old name
        (All-weaker (Contains names) (Contains (names ++ name ∷ [])) (λ n is. Contains-append_left names (name ∷ []) n is) old before.sound) (Contains-push names name);
    complete = All-push (Contains (old ++ name ∷ [])) names name
        (All-weaker (Contains old) (Contains (old ++ name ∷ [])) (λ n is. Contains-append_left old (name ∷ []) n is) names before.complete) (Contains-push old name);
    once = all_pairs_push (λ a b. a ≢ b) old name before.once (λ k d within same. not (subst (Contains old) same (Contains-get_or old k d within)));
  })

pub runs_told : {T E : Type 0} (text : T → List (List ℕ)) (files stems : List (List ℕ)) (r : Result T E) → AreStems files stems → IfOk r (λ t. AreNames stems (text t))
    → IfOk r (λ t. AreRuns files (text t))
runs_told text files stems (Ok t) are once = runs_once files stems (text t) are once
runs_told text files stems (Err e) are once = tt
