-- The rank that ranges give an endpoint ID, where they follow one another.
use Rattle.std.{proofs.Common.{◌≡◌, ◌≢◌, ℕ, ◌<◌, ◌≤◌, List, true, false, Option, None, Some, refl, sym, ◌∙◌, ap, subst, arith, inl, inr}, specs.Prelude.{slice_get, find, option_map, unwrap_or}, proofs.lemmas.Bool.{cases_lt}, proofs.lemmas.Bool.Decides.{nat_tests}, proofs.lemmas.Option.{same_Some, none-some, slice_get_within}}
use Rattle.plan_values.specs.declared.certificate.RankRange.{RankRange}
use Rattle.net_tables.{specs.Ranks.{rank_in, is_in_range}, proofs.Elements.{element}}
use Rattle.net_rules.{specs.Following.{EndedBy}, specs.Stretches.{IsAlong}, specs.RanksByEid.{range_past, RangesFollow}, proofs.Filters.{find_cases}}

abbrev pub Has : RankRange → ℕ → Type 0
Has range e = (range.first.value ≤ e) × (e < range_past range)

has_by_test : (range : RankRange) (e : ℕ) → is_in_range range e ≡ true → Has range e
has_by_test range e test = grind (arith, nat_tests)

test_by_has : (range : RankRange) (e : ℕ) → is_in_range range e ≡ false → Has range e → ⊥
test_by_has range e test has = grind (arith, nat_tests)

rank_found : (ranges : List RankRange) (e : ℕ) (range : RankRange) → find (λ (r : RankRange). is_in_range r e) ranges ≡ Some range → rank_in ranges e ≡ range.rank
rank_found ranges e range is = ap (λ (o : Option RankRange). unwrap_or (option_map (λ (r : RankRange). r.rank) o) 0) is

rank_not_found : (ranges : List RankRange) (e : ℕ) → find (λ (r : RankRange). is_in_range r e) ranges ≡ None → rank_in ranges e ≡ 0
rank_not_found ranges e is = ap (λ (o : Option RankRange). unwrap_or (option_map (λ (r : RankRange). r.rank) o) 0) is

module _ (ranges : List RankRange) (follow : RangesFollow ranges) where
  -- ranges that have one endpoint ID are one
  same_range : (i j e : ℕ) (one other : RankRange) → slice_get ranges i ≡ Some one → slice_get ranges j ≡ Some other → Has one e → Has other e → one ≡ other
  same_range i j e one other is is' has has' = elim (cases_lt i j) [
    | inl before ↦ (let apart = follow i j one other before is is' in absurd (omega arith))
    | inr le ↦ elim (cases_lt j i) [
      | inl after ↦ (let apart = follow j i other one after is' is in absurd (omega arith))
      | inr le' ↦ (
          let same : i ≡ j = omega arith in
          let P : ℕ → Type 0 = λ k. slice_get ranges k ≡ Some one in
          same_Some one other (sym (subst P same is) ∙ is'))
    ]
  ]

  -- of the range that has it
  pub rank_within : (i e : ℕ) (range : RankRange) → slice_get ranges i ≡ Some range → Has range e → rank_in ranges e ≡ range.rank
  rank_within i e range is has = elim (find_cases (λ (r : RankRange). is_in_range r e) ranges) [
    | inl (none, fails) ↦ absurd (test_by_has range e (fails i range is) has)
    | inr (j, other, is', passes, found) ↦ (
        let one = same_range j i e other range is' is (has_by_test other e passes) has in
        rank_found ranges e other found ∙ ap (λ (r : RankRange). r.rank) one)
  ]

  -- and none between two ranges, before the first or after the last
  pub rank_between : (d count e : ℕ) → EndedBy range_past ranges d count → d ≤ e → ((range : RankRange) → slice_get ranges count ≡ Some range → e < range.first.value)
      → rank_in ranges e ≡ 0
  rank_between d count e by le next = elim (find_cases (λ (r : RankRange). is_in_range r e) ranges) [
    | inl (none, fails) ↦ rank_not_found ranges e none
    | inr (j, other, is, passes, found) ↦ (
        let has = has_by_test other e passes in
        elim (cases_lt j count) [
          | inl before ↦ (let low = by.ended j before other is in absurd (omega arith))
          | inr after ↦ (
              let inside = slice_get_within ranges j other is in
              let y = element ranges count (omega arith) in
              let high = next y.0 y.1 in
              elim (cases_lt count j) [
                | inl past ↦ (let apart = follow count j y.0 other past y.1 is in absurd (omega arith))
                | inr le' ↦ (
                    let same : j ≡ count = omega arith in
                    let P : ℕ → Type 0 = λ k. slice_get ranges k ≡ Some other in
                    let top = next other (subst P same is) in
                    absurd (omega arith))
              ])
        ])
  ]

  pub along_within : (i d end rank : ℕ) (range : RankRange) → slice_get ranges i ≡ Some range → Has range d → end ≡ range_past range → rank ≡ range.rank
      → IsAlong (rank_in ranges) d end rank
  along_within i d end rank range is has past same =
      (omega arith, λ e from before. rank_within i e range is (omega arith, omega arith) ∙ sym same)

  module _ (d count : ℕ) (by : EndedBy range_past ranges d count) where
    pub along_before : (range : RankRange) → slice_get ranges count ≡ Some range → d < range.first.value → IsAlong (rank_in ranges) d range.first.value 0
    along_before range is past = (
      past,
      λ e from before. rank_between d count e by from (λ other there. (
          let P : RankRange → Type 0 = λ r. e < r.first.value in
          subst P (same_Some range other (sym is ∙ there)) before)),
    )

    pub along_after : slice_get ranges count ≡ None → d < 256 → IsAlong (rank_in ranges) d 256 0
    along_after none small = (small, λ e from before. rank_between d count e by from (λ other there. absurd (none-some other (sym none ∙ there))))

-- where a rank is given, a range has the endpoint ID
pub ranked_by : (ranges : List RankRange) (e : ℕ) → rank_in ranges e ≢ 0 → (k : ℕ) × (range : RankRange) × (slice_get ranges k ≡ Some range) × Has range e
ranked_by ranges e some = elim (find_cases (λ (r : RankRange). is_in_range r e) ranges) [
  | inl (none, fails) ↦ absurd (some (rank_not_found ranges e none))
  | inr (j, range, is, passes, found) ↦ (j, range, is, has_by_test range e passes)
]
