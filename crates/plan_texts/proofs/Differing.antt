-- Where two lists of lines differ first.
use Rattle.std.{proofs.Common.{◌≡◌, ◌≢◌, ℕ, ◌+◌, ◌<◌, ◌≤◌, List, [], ◌∷◌, ◌++◌, length, map, take, get_or, Some, None, Bool, true, false, not, Bor, refl, sym, ◌∙◌, ap, min, zero, suc, true≢false, ◌⊎◌, inl, inr, arith}, specs.Prelude.{slice_get, option_map}, specs.Str.{bytes_eq}, proofs.lemmas.List.{map_more, length-map, take_all, take-map}, proofs.lemmas.Option.{slice_get-map, slice_get-get_or, slice_get_cases}, proofs.lemmas.Slice.Eq.{bytes_eq-Decides}}
use Rattle.plan_texts.specs.DifferenceLines.{DifferFirstAt}

not_not : (b : Bool) → false ≡ not b → b ≡ true
not_not true e = refl
not_not false e = e

abbrev texts : List (Bor (List ℕ)) → List (List ℕ)
texts lines = map (λ line. line.now) lines

-- what stands at an index
line_at : (lines : List (Bor (List ℕ))) (i : ℕ) (d : Bor (List ℕ)) → i < length lines → slice_get (texts lines) i ≡ Some (get_or lines i d).now
line_at lines i d within = slice_get-map (λ line. line.now) lines i ∙ ap (option_map (λ line. line.now)) (slice_get-get_or lines i d within)

some_same : (a b : List ℕ) → Some a ≡ Some b → a ≡ b
some_same a b is = ap (λ o. elim o [ Some x ↦ x | None ↦ [] ]) is

module _ (ws cs : List (Bor (List ℕ))) (i : ℕ) (d : Bor (List ℕ)) (before : take i (texts ws) ≡ take i (texts cs)) where
  pub differ_here : i < length ws → i < length cs → true ≡ not (bytes_eq (get_or ws i d).now (get_or cs i d).now) → DifferFirstAt (texts ws) (texts cs) i
  differ_here in_ws in_cs ne = record {
    before = before;
    there = λ same. differ (some_same _ _ (sym (line_at ws i d in_ws) ∙ (same ∙ line_at cs i d in_cs)));
  }
    where
      differ : (get_or ws i d).now ≢ (get_or cs i d).now
      differ same = true≢false (ne ∙ ap not ((bytes_eq-Decides (get_or ws i d).now (get_or cs i d).now).1 same))

  pub same_here : i < length ws → i < length cs → false ≡ not (bytes_eq (get_or ws i d).now (get_or cs i d).now) → take (i + 1) (texts ws) ≡ take (i + 1) (texts cs)
  same_here in_ws in_cs eq =
      more ws in_ws ∙ (ap (λ l. l ++ (get_or ws i d).now ∷ []) before ∙ (ap (λ x. take i (texts cs) ++ x ∷ []) same ∙ sym (more cs in_cs)))
    where
      more : (lines : List (Bor (List ℕ))) → i < length lines → take (i + 1) (texts lines) ≡ take i (texts lines) ++ (get_or lines i d).now ∷ []
      more lines within =
          take-map (λ line. line.now) (i + 1) lines ∙ (map_more (λ line. line.now) lines i d within
          ∙ ap (λ l. l ++ (get_or lines i d).now ∷ []) (sym (take-map (λ line. line.now) i lines)))

      same : (get_or ws i d).now ≡ (get_or cs i d).now
      same = (bytes_eq-Decides (get_or ws i d).now (get_or cs i d).now).0 (not_not (bytes_eq (get_or ws i d).now (get_or cs i d).now) eq)

-- the common beginning of two lists of lines is one of them
module _ (ws cs : List (Bor (List ℕ))) (i : ℕ) (before : take i (texts ws) ≡ take i (texts cs)) where
  pub differ_behind : i ≡ min (length ws) (length cs) → (length ws ≡ length cs → ⊥) → DifferFirstAt (texts ws) (texts cs) i
  differ_behind end apart = record { before = before; there = λ same. apart (ends same) }
    where
      ends : slice_get (texts ws) i ≡ slice_get (texts cs) i → length ws ≡ length cs
      ends same = at_ends (slice_get_cases (texts ws) i).1 (slice_get_cases (texts cs) i).1
        where
          at_ends : ((x : List ℕ) × (i < length (texts ws)) × (slice_get (texts ws) i ≡ Some x) × (get_or (texts ws) i x ≡ x)) ⊎ ((length (texts ws) ≤ i) × (slice_get (texts ws) i ≡ None))
              → ((x : List ℕ) × (i < length (texts cs)) × (slice_get (texts cs) i ≡ Some x) × (get_or (texts cs) i x ≡ x)) ⊎ ((length (texts cs) ≤ i) × (slice_get (texts cs) i ≡ None))
              → length ws ≡ length cs
          at_ends (inl (x, in_ws, w, _)) (inl (y, in_cs, c, _)) = omega (arith, end, in_ws, in_cs, length-map ws (λ line. line.now), length-map cs (λ line. line.now))
          at_ends (inl (x, in_ws, w, _)) (inr (past, c)) = let bad : Some x ≡ None = sym w ∙ (same ∙ c) in absurd (cc)
          at_ends (inr (past, w)) (inl (y, in_cs, c, _)) = let bad : Some y ≡ None = sym c ∙ (sym same ∙ w) in absurd (cc)
          at_ends (inr (past_ws, w)) (inr (past_cs, c)) = omega (arith, end, past_ws, past_cs, length-map ws (λ line. line.now), length-map cs (λ line. line.now))

  pub same_all : i ≡ min (length ws) (length cs) → length ws ≡ length cs → texts ws ≡ texts cs
  same_all end same =
      let in_ws : length (texts ws) ≤ i = omega (arith, end, same, length-map ws (λ line. line.now)) in
      let in_cs : length (texts cs) ≤ i = omega (arith, end, same, length-map cs (λ line. line.now)) in
      sym (take_all i (texts ws) in_ws) ∙ (before ∙ take_all i (texts cs) in_cs)
