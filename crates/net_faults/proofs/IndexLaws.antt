-- The first places of keys, as far as they were looked at.
use Rattle.std.{proofs.Common.{◌≡◌, ◌≢◌, ℕ, ◌+◌, ◌<◌, ◌≤◌, List, length, Option, Some, None, sym, ◌∙◌, ap, refl, arith, subst, inl, inr, MatchOption, Bool, true, not}, specs.Prelude.{slice_get, is_some}, proofs.lemmas.Bool.{cases_lt, cases_eq, true≢false}, proofs.lemmas.Option.{same_Some, slice_get_within}}
use Rattle.net_rules.specs.RecordChains.{IsFirstIndexOf}
use Rattle.net_faults.{specs.declared.key_index.KeyIndex.{KeyIndex}, specs.Chains.{IsIndexOf, found_in}}

-- what the index says of a key, after so many of them
abbrev pub SaysBelow : List ℕ → ℕ → ℕ → Option ℕ → Type 0
SaysBelow keys count key place = MatchOption place ((i : ℕ) → i < count → slice_get keys i ≢ Some key) (λ p. (p < count) × IsFirstIndexOf keys key p)

abbrev pub IsIndexBelow : List ℕ → ℕ → KeyIndex → Type 0
IsIndexBelow keys count index = (key : ℕ) → SaysBelow keys count key (found_in index key)

module _ (keys : List ℕ) (count key : ℕ) where
  -- a place that is known stays
  says_had : (place : ℕ) → SaysBelow keys count key (Some place) → SaysBelow keys (count + 1) key (Some place)
  says_had place h = (omega (arith, h.0), h.1)

  says_kept : (place : Option ℕ) → slice_get keys count ≢ Some key → SaysBelow keys count key place → SaysBelow keys (count + 1) key place
  says_kept None other none = λ i lt is. elim (cases_lt i count) [
    | inl less ↦ none i less is
    | inr last ↦ (let same : i ≡ count = omega arith in other (ap (λ k. slice_get keys k) (sym same) ∙ is))
  ]
  says_kept (Some place) other h = says_had place h

  -- and a key without one gets this one
  says_new : slice_get keys count ≡ Some key → SaysBelow keys count key None → SaysBelow keys (count + 1) key (Some count)
  says_new here none = (omega arith, (here, λ i less. none i less))

pub is_none_tells : (o : Option ℕ) (b : Bool) → is_some o ≡ not b → b ≡ true → o ≡ None
is_none_tells None b agree is = refl
is_none_tells (Some x) b agree is = absurd (true≢false (agree ∙ ap not is))

module _ (keys : List ℕ) (count key : ℕ) (index : KeyIndex) (below : IsIndexBelow keys count index) (here : slice_get keys count ≡ Some key) where
  -- the key had no place
  pub index_new : (new : KeyIndex) → found_in index key ≡ None → found_in new key ≡ Some count → ((other : ℕ) → key ≢ other → found_in new other ≡ found_in index other)
      → IsIndexBelow keys (count + 1) new
  index_new new none this others q = elim (cases_eq key q) [
    | inl same ↦ (
        let P : Option ℕ → Type 0 = λ o. SaysBelow keys count key o in
        let Q : Option ℕ → Type 0 = λ o. SaysBelow keys (count + 1) key o in
        let R : ℕ → Type 0 = λ k. SaysBelow keys (count + 1) k (found_in new k) in
        subst R same (subst Q (sym this) (says_new keys count key here (subst P none (below key)))))
    | inr other ↦ (
        let Q : Option ℕ → Type 0 = λ o. SaysBelow keys (count + 1) q o in
        subst Q (sym (others q other)) (says_kept keys count q (found_in index q) (λ is. other (same_Some key q (sym here ∙ is))) (below q)))
  ]

  -- the key had one
  pub index_kept : found_in index key ≢ None → IsIndexBelow keys (count + 1) index
  index_kept had q = elim (cases_eq key q) [
    | inl same ↦ (let R : ℕ → Type 0 = λ k. SaysBelow keys (count + 1) k (found_in index k) in subst R same (by (found_in index key) refl))
    | inr other ↦ says_kept keys count q (found_in index q) (λ is. other (same_Some key q (sym here ∙ is))) (below q)
  ]
    where
      by : (o : Option ℕ) → found_in index key ≡ o → SaysBelow keys (count + 1) key (found_in index key)
      by None e = absurd (had e)
      by (Some p) e =
          let P : Option ℕ → Type 0 = λ o. SaysBelow keys count key o in
          let Q : Option ℕ → Type 0 = λ o. SaysBelow keys (count + 1) key o in
          subst Q (sym e) (says_had keys count key p (subst P e (below key)))

says_all : (keys : List ℕ) (count key : ℕ) (o : Option ℕ) → length keys ≤ count → SaysBelow keys count key o → MatchOption o ((i : ℕ) → slice_get keys i ≢ Some key) (IsFirstIndexOf keys key)
says_all keys count key None long none = λ i is. none i (omega (arith, slice_get_within keys i key is)) is
says_all keys count key (Some p) long h = h.1

pub index_done : (keys : List ℕ) (count : ℕ) (index : KeyIndex) → length keys ≤ count → IsIndexBelow keys count index → IsIndexOf keys index
index_done keys count index long below key = says_all keys count key (found_in index key) long (below key)
