-- From one stretch of EIDs to the next, and from all of them to the certificate.
use Rattle.std.{proofs.Common.{◌≡◌, ℕ, ◌+◌, ◌<◌, ◌≤◌, List, [], length, Some, refl, sym, ◌∙◌, ap, subst, arith, inl, inr, ◌⊎◌, true, filter, nat_le, nat_lt}, specs.Prelude.{slice_get, ◌==◌}, proofs.lemmas.Bool.{cases_lt, cases_eq, and_parts, ltb-true, ltb-false, leb-true, eqb-true, eq-eqb, lt-ltb, le-leb, and_from, false≢true, cases_Bool}, proofs.lemmas.Option.{slice_get_within, same_Some, none-some}, proofs.lemmas.List.{nil_from_length}}
use Rattle.plan_values.{specs.declared.plan.Plan.{Plan}, specs.declared.certificate.RankRange.{RankRange}, specs.declared.certificate.NodeRanks.{NodeRanks}}
use Rattle.net_tables.{specs.Routing.{MovesTo}, specs.Ranks.{rank_given, rank_in, is_in_range}, specs.Rows.{RowsAreApart, RowsAreInRange}, proofs.Elements.{element}}
use Rattle.net_rules.{specs.Circles.{EndsAfter, HasNoCircle, AreMovesToEnds}, specs.RoutingLoops.{IsRank}, specs.RankRuns.{AreLongestRuns, below, AreNone, AreGrown}, specs.MovingAlike.{MoveAlike}, specs.Certificates.{AreRanksOf, AreRankedBelow, AreRoutedBelow, AreExactRanks, has_ranges}, proofs.Circling.{circle_in}, proofs.SameMoves.{EndsAfter-same, HasNoCircle-same}, proofs.Filters.{find_cases, in_filter, to_filter, filter_pairs}, proofs.RankRunLaws.{below_here, below_past, runs_same}, proofs.EidMoves.{moves_within, unmoved_rank, unmoved_circle, rank_only, rank_from_ends}}

-- no ranges are the longest runs where nothing has a rank
none_longest : (ranks : ℕ → ℕ) → ((e : ℕ) → ranks e ≡ 0) → AreLongestRuns ranks []
none_longest ranks none = record {
  runs = λ i range is. absurd (none-some range is);
  ascend = λ i j one other lt is. absurd (none-some one is);
  all = λ e some. absurd (omega (arith, none e, some));
}

-- Ranks of so many nodes, of which each node and EID has one at most; it is 0 for EIDs that no row can cover, and beyond
-- the nodes.
module _ (IsRankOf : ℕ → ℕ → ℕ → Type 0) (count : ℕ) (only : (n e k l : ℕ) → IsRankOf n e k → IsRankOf n e l → k ≡ l)
    (outside : (n e : ℕ) → (e < 8) ⊎ (255 ≤ e) → IsRankOf n e 0) (beyond : (n e : ℕ) → count ≤ n → IsRankOf n e 0) where
  pub ranked_start : (given : List NodeRanks) → AreNone count given → AreRankedBelow IsRankOf count 8 given
  ranked_start given none = record {
    long = none.0;
    node = λ n one is. (none.1 n one is).0;
    ranked = λ n d lt low. (0, outside n d (inl low));
    runs = λ n one ranks is right.
        let P : List RankRange → Type 0 = AreLongestRuns (below 8 ranks) in
        subst P (sym (none.1 n one is).1) (none_longest (below 8 ranks) (λ d. elim (cases_lt d 8) [
          | inl low ↦ below_here 8 ranks d low ∙ only n d (ranks d) 0 (right d low) (outside n d (inl low))
          | inr high ↦ below_past 8 ranks d high
        ]));
  }

  pub ranked_step : (first last : ℕ) (given more : List NodeRanks) (counts : List ℕ) → first ≤ last → length counts ≡ count
      → ((n k e : ℕ) → slice_get counts n ≡ Some k → first ≤ e → e ≤ last → IsRankOf n e k)
      → AreRankedBelow IsRankOf count first given → AreGrown first last counts given more → AreRankedBelow IsRankOf count (last + 1) more
  ranked_step first last given more counts ordered long alike ranked grown =
      let old = λ (n : ℕ) (one : NodeRanks) (is : slice_get more n ≡ Some one). element given n (omega (arith, slice_get_within more n one is, grown.0)) in
      let its = λ (n : ℕ) (lt : n < count). element counts n (omega (arith, long, lt)) in
      let within = λ (n : ℕ) (one : NodeRanks) (is : slice_get more n ≡ Some one). (let lt : n < count = omega (arith, slice_get_within more n one is, grown.0, ranked.long) in lt) in
      let step = λ (n : ℕ) (one : NodeRanks) (is : slice_get more n ≡ Some one). grown.1 n (its n (within n one is)).0 (old n one is).0 one (its n (within n one is)).1 (old n one is).1 is in
      record {
        long = grown.0 ∙ ranked.long;
        node = λ n one is. (step n one is).node ∙ ranked.node n (old n one is).0 (old n one is).1;
        ranked = λ n d lt less. elim (cases_lt d first) [
          | inl before ↦ ranked.ranked n d lt before
          | inr low ↦ ((its n lt).0, alike n (its n lt).0 d (its n lt).1 low (omega (arith, less)))
        ];
        runs = λ n one ranks is right.
            let c = its n (within n one is) in
            (step n one is).longest ranks
            (λ d low high. only n d (ranks d) c.0 (right d (omega (arith, high))) (alike n c.0 d c.1 low high))
            (ranked.runs n (old n one is).0 ranks (old n one is).1 (λ d lt. right d (omega (arith, lt, ordered))));
      }

pub counts_small : (plan : Plan) (e : ℕ) (counts : List ℕ) → length plan.nodes.items ≤ 64 → HasNoCircle (MovesTo plan e) → AreMovesToEnds (MovesTo plan e) (length plan.nodes.items) counts → (n k : ℕ) → slice_get counts n ≡ Some k → k < 256
counts_small plan e counts few none ends n k is = elim (cases_lt (length plan.nodes.items) k) [
  | inr short ↦ omega arith
  | inl long ↦ (
      let way = ends.1 n k is in
      let circle = circle_in (MovesTo plan e) (length plan.nodes.items) (moves_within plan e) n k way.0 way.1 long in
      absurd (none circle.0 circle.1))
]

-- EIDs that are sent on alike have no circles alike, and equal ranks
module _ (plan : Plan) (first last : ℕ) (alike : MoveAlike plan first last) where
  circles_alike : (e : ℕ) → first ≤ e → e ≤ last → HasNoCircle (MovesTo plan first) → HasNoCircle (MovesTo plan e)
  circles_alike e low high = HasNoCircle-same (MovesTo plan first) (MovesTo plan e) (λ n m. (alike n e low high m).0) (λ n m. (alike n e low high m).1)

  ranks_alike : (n e k : ℕ) → first ≤ e → e ≤ last → EndsAfter (MovesTo plan first) n k → IsRank plan n e k
  ranks_alike n e k low high ends =
      rank_from_ends plan n e k (EndsAfter-same (MovesTo plan first) (MovesTo plan e) (λ n m. (alike n e low high m).0) (λ n m. (alike n e low high m).1) n k ends)

-- ranks of one plan
pub plan_only : (plan : Plan) → RowsAreApart plan → (n e k l : ℕ) → IsRank plan n e k → IsRank plan n e l → k ≡ l
plan_only plan apart n e k l = rank_only plan n e k l apart

pub plan_outside : (plan : Plan) → RowsAreInRange plan → (n e : ℕ) → (e < 8) ⊎ (255 ≤ e) → IsRank plan n e 0
plan_outside plan in_range n e out = unmoved_rank plan e n in_range out

pub plan_beyond : (plan : Plan) (n e : ℕ) → length plan.nodes.items ≤ n → IsRank plan n e 0
plan_beyond plan n e past = rank_from_ends plan n e 0 (n, refl, λ m move. omega (arith, moves_within plan e n m move, past))

module _ (plan : Plan) (apart : RowsAreApart plan) (in_range : RowsAreInRange plan) where
  pub routed_start : (given : List NodeRanks) → AreNone (length plan.nodes.items) given → AreRoutedBelow plan 8 given
  routed_start given none = record {
    circles = λ d lt. unmoved_circle plan d in_range (inl lt);
    ranked = ranked_start (IsRank plan) (length plan.nodes.items) (plan_only plan apart) (plan_outside plan in_range) (plan_beyond plan) given none;
  }

  pub routed_step : (first last : ℕ) (given more : List NodeRanks) (counts : List ℕ) → first ≤ last → MoveAlike plan first last → AreRoutedBelow plan first given
      → HasNoCircle (MovesTo plan first) → AreMovesToEnds (MovesTo plan first) (length plan.nodes.items) counts → AreGrown first last counts given more → AreRoutedBelow plan (last + 1) more
  routed_step first last given more counts ordered alike routed none ends grown = record {
    circles = λ d less. elim (cases_lt d first) [
      | inl lt ↦ routed.circles d lt
      | inr low ↦ circles_alike plan first last alike d low (omega (arith, less)) none
    ];
    ranked = ranked_step (IsRank plan) (length plan.nodes.items) (plan_only plan apart) (plan_outside plan in_range) (plan_beyond plan) first last given more counts ordered ends.0
        (λ n k e is low high. ranks_alike plan first last alike n e k low high (ends.1 n k is)) routed.ranked grown;
  }

-- the certificate's rank is that of the run
pub rank_in_runs : (ranks : ℕ → ℕ) (ranges : List RankRange) (e : ℕ) → AreLongestRuns ranks ranges → rank_in ranges e ≡ ranks e
rank_in_runs ranks ranges e h = elim (find_cases (λ range. is_in_range range e) ranges) [
  | inl (none, fail) ↦ rw none (elim (cases_eq (ranks e) 0) [
    | inl is ↦ sym is
    | inr other ↦ (
        let found = h.all e (omega (arith, other)) in
        absurd (false≢true (sym (fail found.0 found.1 found.2) ∙ and_from (nat_le found.1.first.value e) (nat_lt e (found.1.first.value + found.1.size)) (le-leb found.1.first.value e found.3.0) (lt-ltb e (found.1.first.value + found.1.size) found.3.1))))
  ])
  | inr (i, range, is, passes, found) ↦ rw found (
      let parts = and_parts (nat_le range.first.value e) (nat_lt e (range.first.value + range.size)) passes in
      sym ((h.runs i range is).same e (leb-true range.first.value e parts.0, ltb-true e (range.first.value + range.size) parts.1)))
]

-- The ranges of all EIDs.
module _ (IsRankOf : ℕ → ℕ → ℕ → Type 0) (count : ℕ) (only : (n e k l : ℕ) → IsRankOf n e k → IsRankOf n e l → k ≡ l)
    (outside : (n e : ℕ) → (e < 8) ⊎ (255 ≤ e) → IsRankOf n e 0) (beyond : (n e : ℕ) → count ≤ n → IsRankOf n e 0)
    (given ranks : List NodeRanks) (ranked : AreRankedBelow IsRankOf count 255 given) (made : ranks ≡ filter has_ranges given) where
  rank_at : (n : ℕ) → n < count → ℕ → ℕ
  rank_at n lt e = elim (cases_lt e 255) [ inl low ↦ (ranked.ranked n e lt low).0 | inr high ↦ 0 ]

  rank_at_is : (n : ℕ) (lt : n < count) (e : ℕ) → IsRankOf n e (rank_at n lt e)
  unfolding rank_at
  rank_at_is n lt e = elim (cases_lt e 255) as (λ c. IsRankOf n e (elim c [ inl low ↦ (ranked.ranked n e lt low).0 | inr high ↦ 0 ])) [
    | inl low ↦ (ranked.ranked n e lt low).1
    | inr high ↦ outside n e (inr high)
  ]

  longest_at : (n : ℕ) (lt : n < count) (one : NodeRanks) → slice_get given n ≡ Some one → AreLongestRuns (rank_at n lt) one.ranges.items
  longest_at n lt one is = runs_same (below 255 (rank_at n lt)) (rank_at n lt) one.ranges.items
      (λ d. elim (cases_lt d 255) [
        | inl low ↦ below_here 255 (rank_at n lt) d low
        | inr high ↦ below_past 255 (rank_at n lt) d high ∙ only n d 0 (rank_at n lt d) (outside n d (inr high)) (rank_at_is n lt d)
      ])
      (ranked.runs n one (rank_at n lt) is (λ d _. rank_at_is n lt d))

  -- each node of the certificate stood at its place
  stood : (i : ℕ) (one : NodeRanks) → slice_get ranks i ≡ Some one → (slice_get given one.node ≡ Some one) × (has_ranges one ≡ true)
  stood i one is =
      let found = in_filter has_ranges given i one (ap (λ xs. slice_get xs i) (sym made) ∙ is) in
      (ap (λ k. slice_get given k) (ranked.node found.0 one found.1) ∙ found.1, found.2)

  stood_within : (i : ℕ) (one : NodeRanks) → slice_get ranks i ≡ Some one → one.node < count
  stood_within i one is = omega (arith, slice_get_within given one.node one (stood i one is).0, ranked.long)

  cert_rank : (n e : ℕ) (one : NodeRanks) → slice_get given n ≡ Some one → rank_given ranks n e ≡ rank_in one.ranges.items e
  cert_rank n e one is = elim (find_cases (λ (other : NodeRanks). other.node == n) ranks) [
    | inr (i, other, there, passes, found) ↦ rw found (
        let at : other.node ≡ n = eqb-true other.node n passes in
        let same : other ≡ one = same_Some other one (sym (stood i other there).0 ∙ (ap (λ k. slice_get given k) at ∙ is)) in
        ap (λ (x : NodeRanks). rank_in x.ranges.items e) same)
    | inl (none, fail) ↦ rw none (elim (cases_Bool (has_ranges one)) [
      | inl some ↦ (
          let kept = to_filter has_ranges given n one is some in
          absurd (false≢true (sym (fail kept.0 one (ap (λ xs. slice_get xs kept.0) made ∙ kept.1)) ∙ eq-eqb one.node n (ranked.node n one is))))
      | inr empty ↦ (
          let nil : one.ranges.items ≡ [] = nil_from_length one.ranges.items (omega (arith, ltb-false 0 (length one.ranges.items) empty)) in
          sym (ap (λ xs. rank_in xs e) nil))
    ])
  ]

  cert_rank_at : (n e : ℕ) (lt : n < count) → rank_given ranks n e ≡ rank_at n lt e
  cert_rank_at n e lt =
      let one = element given n (omega (arith, ranked.long, lt)) in
      cert_rank n e one.0 one.1 ∙ rank_in_runs (rank_at n lt) one.0.ranges.items e (longest_at n lt one.0 one.1)

  cert_rank_beyond : (n e : ℕ) → count ≤ n → rank_given ranks n e ≡ 0
  cert_rank_beyond n e past = elim (find_cases (λ (other : NodeRanks). other.node == n) ranks) [
    | inl (none, fail) ↦ rw none refl
    | inr (i, other, there, passes, found) ↦ absurd (omega (arith, eqb-true other.node n passes, stood_within i other there, past))
  ]

  pub ranked_all : AreRanksOf IsRankOf count ranks
  ranked_all = record {
    ranks = λ n e. elim (cases_lt n (count)) [
      | inl lt ↦ (let P : ℕ → Type 0 = IsRankOf n e in subst P (sym (cert_rank_at n e lt)) (rank_at_is n lt e))
      | inr past ↦ (let P : ℕ → Type 0 = IsRankOf n e in subst P (sym (cert_rank_beyond n e past)) (beyond n e past))
    ];
    longest = λ i one is.
        let lt = stood_within i one is in
        runs_same (rank_at one.node lt) (rank_given ranks one.node) one.ranges.items (λ e. sym (cert_rank_at one.node e lt)) (longest_at one.node lt one (stood i one is).0);
    some = λ i one is. ltb-true 0 (length one.ranges.items) (stood i one is).1;
    within = stood_within;
    ascend = λ i j one other lt is is'. filter_pairs (λ (a b : NodeRanks). a.node < b.node) has_ranges given
        (λ k l x y less here there. omega (arith, ranked.node k x here, ranked.node l y there, less)) i j one other lt
        (ap (λ xs. slice_get xs i) (sym made) ∙ is) (ap (λ xs. slice_get xs j) (sym made) ∙ is');
  }

pub routed_all : (plan : Plan) (given ranks : List NodeRanks) → RowsAreApart plan → RowsAreInRange plan → AreRoutedBelow plan 255 given → ranks ≡ filter has_ranges given → AreExactRanks plan ranks
routed_all plan given ranks apart in_range routed made =
    ranked_all (IsRank plan) (length plan.nodes.items) (plan_only plan apart) (plan_outside plan in_range) (plan_beyond plan) given ranks routed.ranked made
