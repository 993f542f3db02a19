use Rattle.std.{proofs.Common.{ℕ, List, ◌∷◌, ◌≡◌, length, sym, ap, subst, ◌∙◌}, specs.List.Sorted.{IsStrictlyIncreasing, IsPermutation, IsNonDecreasing}, proofs.lemmas.List.Sorted.{IsNonDecreasingBy-from_sort}}
use Rattle.arrayvec.proofs.ArrayVecLemmas.{items-with_items}
use Rattle.pdr_repository.{proofs.LawfulLists.{handles_of}, proofs.Ascending.{sorted_apart, apart_sorted}}
use Rattle.pdr_repository.proofs.lawful_list.have_distinct_handles.Goals as goal

pub returns : goal.returns
returns c =
    let records = c.args.records.now in
    let sorted = c.sort_unstable.new.self in
    let before : c.as_mut_slice.result.now ≡ handles_of records = c.as_mut_slice.ensures.value ∙ c.handles_of-handles.ensures in
    let moved : IsPermutation (handles_of records) sorted = subst (λ (hs : List ℕ). IsPermutation hs sorted) before c.sort_unstable.ensures.permutation in
    let long : length sorted ≡ length c.handles_of-handles.result.items = c.sort_unstable.ensures.len ∙ ap length c.as_mut_slice.ensures.value in
    let read = c.as_slice.ensures.value ∙ items-with_items c.handles_of-handles.result sorted long in
    let R : List ℕ → Type 0 = λ hs. IsStrictlyIncreasing (0 ∷ hs) in
    let rises : IsNonDecreasing sorted = IsNonDecreasingBy-from_sort (λ (x : ℕ). x) sorted c.sort_unstable.ensures.sorted in (
      λ h. sorted_apart (handles_of records) sorted moved (subst R read (c.ascend.ensures.0 h)),
      λ apart. c.ascend.ensures.1 (subst R (sym read) (apart_sorted (handles_of records) sorted moved rises apart)),
    )
