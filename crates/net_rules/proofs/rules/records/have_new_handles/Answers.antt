use Rattle.std.{proofs.Common.{ℕ, List, ◌∷◌, sym, subst, refl}, specs.List.Sorted.{IsStrictlyIncreasing, IsPermutation, IsNonDecreasing}, proofs.lemmas.List.Sorted.{IsNonDecreasingBy-from_sort}}
use Rattle.net_rules.{proofs.Handles.{handles_of}, proofs.NewHandles.{apart_new, new_apart}}
use Rattle.pdr_repository.proofs.Ascending.{ascending_apart, sorted_apart, apart_sorted}
use Rattle.net_rules.proofs.rules.records.have_new_handles.Goals as goal

pub returns-then-ascend : goal.returns-then-ascend
returns-then-ascend c =
    let records = c.args.records.now in
    let rise : IsStrictlyIncreasing (0 ∷ handles_of records) = subst (λ (hs : List ℕ). IsStrictlyIncreasing (0 ∷ hs)) c.in_ok-handles.ensures (subst (λ (hs : List ℕ). IsStrictlyIncreasing (0 ∷ hs)) c.deref.ensures.value (c.ascend.ensures.0 c.if-ascend.true)) in
    (λ _. apart_new records (ascending_apart (handles_of records) rise), λ _. refl)

pub returns : goal.returns
returns c =
    let records = c.args.records.now in
    let sorted = c.sort_unstable.new.self.items in
    let moved : IsPermutation (handles_of records) sorted = subst (λ (hs : List ℕ). IsPermutation hs sorted) c.in_ok-handles.ensures c.sort_unstable.ensures.permutation in
    let R : List ℕ → Type 0 = λ hs. IsStrictlyIncreasing (0 ∷ hs) in
    let rises : IsNonDecreasing sorted = IsNonDecreasingBy-from_sort (λ (x : ℕ). x) sorted c.sort_unstable.ensures.sorted in (
      λ h. apart_new records (sorted_apart (handles_of records) sorted moved (subst R c.deref-2.ensures.value (c.ascend-2.ensures.0 h))),
      λ new. c.ascend-2.ensures.1 (subst R (sym c.deref-2.ensures.value) (apart_sorted (handles_of records) sorted moved rises (new_apart records new))),
    )
