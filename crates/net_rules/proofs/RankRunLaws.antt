-- The longest runs of ranks, one stretch of EIDs of one rank added after another.
use Rattle.std.{proofs.Common.{◌≡◌, ℕ, ◌+◌, ◌-◌, ◌<◌, ◌≤◌, ◌≢◌, List, [], ◌∷◌, ◌++◌, length, get_or, Some, sym, ◌∙◌, ap, subst, arith, inl, inr}, specs.Prelude.{slice_get, slice_set}, proofs.lemmas.Bool.{cases_lt, cases_eq}, proofs.lemmas.Bool.Decides.{nat_tests}, proofs.lemmas.Option.{slice_get_within, slice_get-get_or, get_or_from_slice_get, same_Some}, proofs.lemmas.List.{length_push, length-set}}
use Rattle.plan_values.specs.declared.certificate.RankRange.{RankRange}
use Rattle.net_rules.specs.RankRuns.{LiesIn, IsLongestRun, AreLongestRuns, below, Precedes, Continues}
use Rattle.net_tables.proofs.Elements.{push_left, push_last, in_push, set_there, set_other, in_set}

pub below_here : (bound : ℕ) (ranks : ℕ → ℕ) (e : ℕ) → e < bound → below bound ranks e ≡ ranks e
below_here bound ranks e lt = grind (arith, nat_tests)

pub below_past : (bound : ℕ) (ranks : ℕ → ℕ) (e : ℕ) → bound ≤ e → below bound ranks e ≡ 0
below_past bound ranks e le = grind (arith, nat_tests)

below_some : (bound : ℕ) (ranks : ℕ → ℕ) (e : ℕ) → 0 < below bound ranks e → e < bound
below_some bound ranks e some = elim (cases_lt e bound) [ inl lt ↦ lt | inr le ↦ absurd (omega (arith, below_past bound ranks e le, some)) ]

pub runs_same : (f g : ℕ → ℕ) (ranges : List RankRange) → ((e : ℕ) → f e ≡ g e) → AreLongestRuns f ranges → AreLongestRuns g ranges
runs_same f g ranges same h = record {
  runs = λ i range is. let run = h.runs i range is in record {
    same = λ e lies. sym (same e) ∙ run.same e lies;
    before = λ e is_before is. run.before e is_before (same e ∙ is);
    after = λ is. run.after (same (range.first.value + range.size) ∙ is);
  };
  ascend = h.ascend;
  all = λ e some. h.all e (omega (arith, same e, some));
}

-- The ranges of the EIDs below e, and the rank of those from e up to the one before f.
module _ (ranks : ℕ → ℕ) (e f rank : ℕ) (ranges : List RankRange) (filled : e < f) (level : (d : ℕ) → e ≤ d → d < f → ranks d ≡ rank) (h : AreLongestRuns (below e ranks) ranges) where
  ends_by : (i : ℕ) (range : RankRange) → slice_get ranges i ≡ Some range → range.first.value + range.size ≤ e
  ends_by i range is =
      let run = h.runs i range is in
      let last = range.first.value + range.size - 1 in
      let same = run.same last (omega (arith, range.some), omega (arith, range.some)) in
      omega (arith, range.some, below_some e ranks last (omega (arith, same, range.ranked)))

  ends_last : (i : ℕ) (range : RankRange) → slice_get ranges i ≡ Some range → range.first.value + range.size ≡ e → i ≡ length ranges - 1
  ends_last i range is ends =
      let within = slice_get_within ranges i range is in
      elim (cases_lt (i + 1) (length ranges)) [
        | inr past ↦ omega arith
        | inl more ↦ (
            let next = slice_get-get_or ranges (i + 1) range more in
            let other = get_or ranges (i + 1) range in
            absurd (omega (arith, h.ascend i (i + 1) range other (omega arith) is next, other.some, ends_by (i + 1) other next, ends)))
      ]

  old_same : (d : ℕ) → d < e → below e ranks d ≡ below f ranks d
  old_same d lt = below_here e ranks d lt ∙ sym (below_here f ranks d (omega (arith, filled)))

  pub skipped : rank ≡ 0 → AreLongestRuns (below f ranks) ranges
  skipped none = runs_same (below e ranks) (below f ranks) ranges (λ d. elim (cases_lt d e) [
    | inl lt ↦ old_same d lt
    | inr le ↦ elim (cases_lt d f) [
      | inl inside ↦ below_past e ranks d le ∙ sym (below_here f ranks d inside ∙ (level d le inside ∙ none))
      | inr past ↦ below_past e ranks d le ∙ sym (below_past f ranks d past)
    ]
  ]) h

  old_run : (i : ℕ) (range : RankRange) → slice_get ranges i ≡ Some range → (range.first.value + range.size ≡ e → range.rank ≢ rank) → IsLongestRun (below f ranks) range
  old_run i range is apart =
      let run = h.runs i range is in
      let ends = ends_by i range is in
      let end = range.first.value + range.size in
      record {
        same = λ d lies. sym (old_same d (omega (arith, lies.1, ends))) ∙ run.same d lies;
        before = λ d is_before there. run.before d is_before (old_same d (omega (arith, ends, range.some, is_before)) ∙ there);
        after = λ there. elim (cases_lt end e) [
          | inl lt ↦ run.after (old_same end lt ∙ there)
          | inr le ↦ (
              let inside : end < f = omega (arith, ends, filled) in
              apart (omega (arith, ends, le)) (sym there ∙ (below_here f ranks end inside ∙ level end le inside)))
        ];
      }

  -- a range of the EIDs from e on is added
  module _ (new : RankRange) (first : new.first.value ≡ e) (its_rank : new.rank ≡ rank) (end : new.first.value + new.size ≡ f) (apart : ¬ Continues ranges e rank) where
    new_run : IsLongestRun (below f ranks) new
    unfolding Precedes
    new_run = record {
      same = λ d lies.
          let inside : d < f = omega (arith, lies.1, end) in
          below_here f ranks d inside ∙ (level d (omega (arith, lies.0, first)) inside ∙ sym its_rank);
      before = λ d is_before there.
          let lt : d < e = omega (arith, is_before, first) in
          let old_rank : below e ranks d ≡ rank = old_same d lt ∙ (there ∙ its_rank) in
          let found = h.all d (omega (arith, old_rank, its_rank, new.ranked)) in
          let range = found.1 in
          let ends : range.first.value + range.size ≡ e = omega (arith, ends_by found.0 range found.2, found.3.1, is_before, first) in
          apart (range, ap (λ k. slice_get ranges k) (sym (ends_last found.0 range found.2 ends)) ∙ found.2, (sym ((h.runs found.0 range found.2).same d found.3) ∙ old_rank, ends));
      after = λ there. omega (arith, below_past f ranks (new.first.value + new.size) (omega (arith, end)), there, new.ranked);
    }

    pub pushed : AreLongestRuns (below f ranks) (ranges ++ new ∷ [])
    unfolding Precedes
    pushed = record {
      runs = λ i range is. elim (in_push ranges new i range is) [
        | inl old ↦ old_run i range old (λ ends same. apart (range, ap (λ k. slice_get ranges k) (sym (ends_last i range old ends)) ∙ old, (same, ends)))
        | inr (at, same) ↦ subst (λ r. IsLongestRun (below f ranks) r) same new_run
      ];
      ascend = λ i j one other lt is is'. elim (in_push ranges new i one is) [
        | inl old ↦ elim (in_push ranges new j other is') [
          | inl old' ↦ h.ascend i j one other lt old old'
          | inr (at, same) ↦ omega (arith, ends_by i one old, first, ap (λ (r : RankRange). r.first.value) same)
        ]
        | inr (at, same) ↦ absurd (omega (arith, at, lt, slice_get_within (ranges ++ new ∷ []) j other is', length_push ranges new))
      ];
      all = λ d positive. elim (cases_lt d e) [
        | inl lt ↦ (let found = h.all d (omega (arith, old_same d lt, positive)) in (found.0, found.1, push_left ranges new found.0 found.1 found.2, found.3))
        | inr le ↦ (length ranges, new, push_last ranges new, (omega (arith, le, first), omega (arith, end, below_some f ranks d positive)))
      ];
    }

  -- the last range is made longer by the EIDs from e on
  module _ (last new : RankRange) (is_last : slice_get ranges (length ranges - 1) ≡ Some last) (precedes : Precedes last e rank)
      (first : new.first.value ≡ last.first.value) (its_rank : new.rank ≡ last.rank) (end : new.first.value + new.size ≡ f) where
    same_rank : last.rank ≡ rank
    unfolding Precedes
    same_rank = precedes.0

    ends : last.first.value + last.size ≡ e
    unfolding Precedes
    ends = precedes.1

    longer_run : IsLongestRun (below f ranks) new
    longer_run =
        let run = h.runs (length ranges - 1) last is_last in
        record {
          same = λ d lies. elim (cases_lt d e) [
            | inl before ↦ sym (old_same d before) ∙ (run.same d (omega (arith, lies.0, first), omega (arith, before, ends)) ∙ sym its_rank)
            | inr le ↦ (let inside : d < f = omega (arith, lies.1, end) in below_here f ranks d inside ∙ (level d le inside ∙ (sym same_rank ∙ sym its_rank)))
          ];
          before = λ d is_before there. run.before d (is_before ∙ first) (old_same d (omega (arith, ends, is_before, first, last.some)) ∙ (there ∙ its_rank));
          after = λ there. omega (arith, below_past f ranks (new.first.value + new.size) (omega (arith, end)), there, new.ranked);
        }

    pub extended : AreLongestRuns (below f ranks) (slice_set ranges (length ranges - 1) new)
    extended =
        let p = length ranges - 1 in
        let lt : p < length ranges = slice_get_within ranges p last is_last in
        record {
          runs = λ i range is. elim (in_set ranges new p i range lt is) [
            | inl (other, old) ↦ old_run i range old (λ at same. other (ends_last i range old at))
            | inr (at, same) ↦ subst (λ r. IsLongestRun (below f ranks) r) same longer_run
          ];
          ascend = λ i j one other less is is'. elim (in_set ranges new p i one lt is) [
            | inl (_, old) ↦ elim (in_set ranges new p j other lt is') [
              | inl (_, old') ↦ h.ascend i j one other less old old'
              | inr (at, same) ↦ (
                  let there : slice_get ranges j ≡ Some last = ap (λ k. slice_get ranges k) at ∙ is_last in
                  omega (arith, h.ascend i j one last less old there, first, ap (λ (r : RankRange). r.first.value) same))
            ]
            | inr (at, same) ↦ absurd (omega (arith, at, less, slice_get_within (slice_set ranges p new) j other is', length-set ranges p new))
          ];
          all = λ d positive. elim (cases_lt d e) [
            | inl before ↦ (
                let found = h.all d (omega (arith, old_same d before, positive)) in
                elim (cases_eq found.0 p) [
                  | inl at ↦ (
                      let same : found.1 ≡ last = same_Some found.1 last (sym found.2 ∙ (ap (λ k. slice_get ranges k) at ∙ is_last)) in
                      let lies : LiesIn last d = subst (λ r. LiesIn r d) same found.3 in
                      (p, new, set_there ranges new p lt, (omega (arith, lies.0, first), omega (arith, before, end, filled))))
                  | inr other ↦ (found.0, found.1, set_other ranges new p found.0 found.1 other found.2, found.3)
                ])
            | inr le ↦ (p, new, set_there ranges new p lt, (omega (arith, le, ends, first), omega (arith, end, below_some f ranks d positive)))
          ];
        }

pub precedes_ends : (range : RankRange) (e rank : ℕ) → Precedes range e rank → range.first.value + range.size ≡ e
unfolding Precedes
precedes_ends range e rank precedes = precedes.1

-- what is read at the last place is the last range
pub read_last : (ranges : List RankRange) (place : ℕ) (read last : RankRange) → read ≡ get_or ranges place read → place ≡ length ranges - 1 → slice_get ranges (length ranges - 1) ≡ Some last → read ≡ last
read_last ranges place read last is at is_last = is ∙ get_or_from_slice_get ranges place last read (ap (λ k. slice_get ranges k) at ∙ is_last)
