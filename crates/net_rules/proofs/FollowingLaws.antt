-- What is found by halving among items that follow one another.
use Rattle.std.{proofs.Common.{◌≡◌, ℕ, ◌-◌, ◌<◌, ◌≤◌, List, length, get_or, Some, true, false, arith, inl, inr, subst}, specs.List.{AllWithin}, specs.List.Sorted.{IsNonDecreasingBy, IsPartitionedBy}, proofs.Math.Dec.{leb}, proofs.lemmas.Bool.{cases_lt}, proofs.lemmas.Bool.Decides.{nat_tests}, proofs.lemmas.List.Sorted.{IsPartitionedBy-leb}, proofs.lemmas.Option.{slice_get_within, slice_get-get_or, get_or_from_slice_get}, specs.Prelude.{slice_get}}
use Rattle.net_tables.{specs.Routing.{OfItem}, proofs.Elements.{element}}
use Rattle.net_rules.specs.Following.{Follow, EndedBy}

low_test : (n e : ℕ) → leb n e ≡ true → n ≤ e
low_test n e h = grind (arith, nat_tests)

high_test : (n e : ℕ) → leb n e ≡ false → e < n
high_test n e h = grind (arith, nat_tests)

module _ {A : Type 0} (first past : A → ℕ) (grows : (x : A) → first x ≤ past x) (items : List A) (follow : Follow first past items) where
  rise : IsNonDecreasingBy past items
  rise i j d le lt = elim (cases_lt i j) [
    | inl less ↦ (
        let one = slice_get-get_or items i d (omega arith) in
        let other = slice_get-get_or items j d lt in
        let apart = follow i j (get_or items i d) (get_or items j d) less one other in
        let longer = grows (get_or items j d) in
        omega arith)
    | inr past' ↦ (let same : i ≡ j = omega arith in rw same (omega arith))
  ]

  pub parted : (e : ℕ) → IsPartitionedBy (λ x. leb (past x) e) items
  parted e = IsPartitionedBy-leb past items e rise

  pub ended_by : (e count : ℕ) → count ≤ length items → AllWithin (λ x. leb (past x) e ≡ true) items 0 count → AllWithin (λ x. leb (past x) e ≡ false) items count (length items)
      → EndedBy past items e count
  ended_by e count within low high = record {
    within = within;
    ended = λ k lt x is.
        let P : A → Type 0 = λ y. leb (past y) e ≡ true in
        low_test (past x) e (subst P (get_or_from_slice_get items k x x is) (low k x (omega arith) lt));
    left = λ k le x is.
        let P : A → Type 0 = λ y. leb (past y) e ≡ false in
        high_test (past x) e (subst P (get_or_from_slice_get items k x x is) (high k x le (slice_get_within items k x is)));
  }

  -- so many are ended where the last of them is, and the next one isn't
  pub ended_at : (e count : ℕ) → count ≤ length items → (0 < count → OfItem items (count - 1) (λ x. past x ≤ e)) → OfItem items count (λ x. e < past x) → EndedBy past items e count
  ended_at e count within last next = record {
    within = within;
    ended = λ k lt x is.
        let one = element items (count - 1) (omega arith) in
        let low = last (omega arith) one.0 one.1 in
        elim (cases_lt k (count - 1)) [
          | inl before ↦ (
              let apart = follow k (count - 1) x one.0 before is one.1 in
              let longer = grows one.0 in
              omega arith)
          | inr after ↦ (
              let same : k ≡ count - 1 = omega arith in
              let P : ℕ → Type 0 = λ i. slice_get items i ≡ Some x in
              last (omega arith) x (subst P same is))
        ];
    left = λ k le x is. elim (cases_lt count k) [
      | inl after ↦ (
          let inside = slice_get_within items k x is in
          let one = element items count (omega arith) in
          let high = next one.0 one.1 in
          let apart = follow count k one.0 x after one.1 is in
          let longer = grows x in
          omega arith)
      | inr last' ↦ (
          let same : k ≡ count = omega arith in
          let P : ℕ → Type 0 = λ i. slice_get items i ≡ Some x in
          next x (subst P same is))
    ];
  }
