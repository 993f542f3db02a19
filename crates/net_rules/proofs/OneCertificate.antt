-- Ranks of which each node and EID has one at most are those of one certificate.
use Rattle.std.{proofs.Common.{◌≡◌, ℕ, zero, suc, ◌+◌, ◌-◌, ◌<◌, List, [], ◌∷◌, map, Some, refl, sym, ◌∙◌, ap, subst, arith, inl, inr}, specs.Prelude.{slice_get, ◌==◌}, proofs.lemmas.Bool.{cases_lt, cases_order, eqb-true}, proofs.lemmas.Option.{same_Some, none-some}}
use Rattle.plan_values.{specs.declared.certificate.RankRange.{RankRange}, specs.declared.certificate.NodeRanks.{NodeRanks}, specs.declared.certificate.Certificate.{Certificate}, specs.CertificateValues.{RangeValue, range_value, NodeRanksValue, node_ranks_value}}
use Rattle.net_tables.{specs.Ranks.{rank}, proofs.Elements.{element}}
use Rattle.net_rules.{specs.RankRuns.{AreLongestRuns}, specs.Certificates.{AreRanksOf}, proofs.Filters.{find_cases}, proofs.RankRunLaws.{runs_same}}

-- ---- two lists that ascend by a key and have the same members, as they are seen, are seen as one list

module _ {X V : Type 0} (see : X → V) (key : X → ℕ) (same_key : (x y : X) → see x ≡ see y → key x ≡ key y) where
  abbrev Ascends : List X → Type 0
  Ascends xs = (i j : ℕ) (x y : X) → i < j → slice_get xs i ≡ Some x → slice_get xs j ≡ Some y → key x < key y

  abbrev IsSeenIn : List X → X → Type 0
  IsSeenIn ys x = (j : ℕ) × (y : X) × (slice_get ys j ≡ Some y) × (see x ≡ see y)

  abbrev AreSeenIn : List X → List X → Type 0
  AreSeenIn ys xs = (i : ℕ) (x : X) → slice_get xs i ≡ Some x → IsSeenIn ys x

  ascends_on : (x : X) (xs : List X) → Ascends (x ∷ xs) → Ascends xs
  ascends_on x xs up i j a b less is is' = up (suc i) (suc j) a b (omega arith) is is'

  -- the heads are seen as one
  one_head : (x y : X) (xs ys : List X) → Ascends (x ∷ xs) → Ascends (y ∷ ys) → IsSeenIn (y ∷ ys) x → IsSeenIn (x ∷ xs) y → see x ≡ see y
  one_head x y xs ys up up' (zero, b, at, seen) back = seen ∙ ap see (sym (same_Some y b at))
  one_head x y xs ys up up' (suc j, b, at, seen) (zero, a, at', seen') = sym (seen' ∙ ap see (sym (same_Some x a at')))
  one_head x y xs ys up up' (suc j, b, at, seen) (suc i, a, at', seen') =
      absurd (omega (arith, up' 0 (suc j) y b (omega arith) refl at, same_key x b seen, up 0 (suc i) x a (omega arith) refl at', same_key y a seen'))

  -- and what comes later is seen later
  later : (x y : X) (xs ys : List X) → Ascends (x ∷ xs) → see x ≡ see y → AreSeenIn (y ∷ ys) (x ∷ xs) → AreSeenIn ys xs
  later x y xs ys up heads seen i a is = behind (seen (suc i) a is)
    where
      behind : IsSeenIn (y ∷ ys) a → IsSeenIn ys a
      behind (zero, b, at, here) = absurd (omega (arith, up 0 (suc i) x a (omega arith) refl is, same_key a x (here ∙ (ap see (sym (same_Some y b at)) ∙ sym heads))))
      behind (suc j, b, at, here) = (j, b, at, here)

  pub one_list : (xs ys : List X) → Ascends xs → Ascends ys → AreSeenIn ys xs → AreSeenIn xs ys → map see xs ≡ map see ys
  one_list [] [] up up' to from = refl
  one_list [] (y ∷ ys) up up' to from = (let found = from 0 y refl in absurd (none-some found.1 found.2))
  one_list (x ∷ xs) [] up up' to from = (let found = to 0 x refl in absurd (none-some found.1 found.2))
  one_list (x ∷ xs) (y ∷ ys) up up' to from =
      let heads = one_head x y xs ys up up' (to 0 x refl) (from 0 y refl) in
      let rest = one_list xs ys (ascends_on x xs up) (ascends_on y ys up') (later x y xs ys up heads to) (later y x ys xs up' (sym heads) from) in
      ap (λ v. v ∷ map see xs) heads ∙ ap (λ vs. see y ∷ vs) rest

-- ---- the longest runs of ranks are one list

seen_range : (a b : RankRange) → a.first.value ≡ b.first.value → a.rank ≡ b.rank → a.size ≡ b.size → range_value a ≡ range_value b
seen_range a b first rank size = cc

module _ (ranks : ℕ → ℕ) where
  -- each run of one is a run of the other
  run_in : (xs ys : List RankRange) → AreLongestRuns ranks xs → AreLongestRuns ranks ys → (i : ℕ) (x : RankRange) → slice_get xs i ≡ Some x
      → (j : ℕ) × (y : RankRange) × (slice_get ys j ≡ Some y) × (range_value x ≡ range_value y)
  run_in xs ys hx hy i x is =
      let run = hx.runs i x is in
      let e = x.first.value in
      let here = run.same e (omega arith, omega (arith, x.some)) in
      let found = hy.all e (omega (arith, here, x.ranked)) in
      let y = found.1 in
      let other = hy.runs found.0 y found.2 in
      let rank : x.rank ≡ y.rank = sym here ∙ other.same e found.3 in
      let first : x.first.value ≡ y.first.value = elim (cases_lt y.first.value e) [
        | inl before ↦ absurd (run.before (e - 1) (omega (arith, before)) (other.same (e - 1) (omega (arith, before), omega (arith, before, found.3.1)) ∙ sym rank))
        | inr from ↦ omega (arith, from, found.3.0)
      ] in
      let end = x.first.value + x.size in
      let end' = y.first.value + y.size in
      let size : x.size ≡ y.size = elim (cases_order end end') [
        | inl same ↦ omega (arith, same, first)
        | inr differ ↦ elim differ [
          | inl less ↦ absurd (run.after (other.same end (omega (arith, first), less) ∙ sym rank))
          | inr more ↦ absurd (other.after (run.same end' (omega (arith, first), more) ∙ rank))
        ]
      ] in
      (found.0, y, found.2, seen_range x y first rank size)

  ascending : (xs : List RankRange) → AreLongestRuns ranks xs → (i j : ℕ) (x y : RankRange) → i < j → slice_get xs i ≡ Some x → slice_get xs j ≡ Some y → x.first.value < y.first.value
  ascending xs h i j x y less is is' = omega (arith, h.ascend i j x y less is is', x.some)

  one_runs : (xs ys : List RankRange) → AreLongestRuns ranks xs → AreLongestRuns ranks ys → map range_value xs ≡ map range_value ys
  one_runs xs ys hx hy = one_list range_value (λ r. r.first.value) (λ x y same. ap (λ (v : RangeValue). v.first) same) xs ys (ascending xs hx) (ascending ys hy) (run_in xs ys hx hy) (run_in ys xs hy hx)

-- ---- and the nodes that have some

-- a rank above 0 is given by an entry of the node
given_to : (cert : Certificate) (n e : ℕ) → 0 < rank cert n e → (j : ℕ) × (one : NodeRanks) × (slice_get cert.ranks.items j ≡ Some one) × (one.node ≡ n)
given_to cert n e = elim (find_cases (λ (one : NodeRanks). one.node == n) cert.ranks.items) [
  | inl (none, fail) ↦ rw none (λ some. absurd (omega (arith, some)))
  | inr (j, one, is, passes, found) ↦ λ some. (j, one, is, eqb-true one.node n passes)
]

seen_ranks : (a b : NodeRanks) → a.node ≡ b.node → map range_value a.ranges.items ≡ map range_value b.ranges.items → node_ranks_value a ≡ node_ranks_value b
seen_ranks a b node ranges = cc

module _ (IsRankOf : ℕ → ℕ → ℕ → Type 0) (count : ℕ) (only : (n e k l : ℕ) → IsRankOf n e k → IsRankOf n e l → k ≡ l) where
  node_in : (cert other : Certificate) → AreRanksOf IsRankOf count cert.ranks.items → AreRanksOf IsRankOf count other.ranks.items → (i : ℕ) (one : NodeRanks) → slice_get cert.ranks.items i ≡ Some one
      → (j : ℕ) × (two : NodeRanks) × (slice_get other.ranks.items j ≡ Some two) × (node_ranks_value one ≡ node_ranks_value two)
  node_in cert other exact exact' i one is =
      let n = one.node in
      let ranks_are : (e : ℕ) → rank cert n e ≡ rank other n e = λ e. only n e (rank cert n e) (rank other n e) (exact.ranks n e) (exact'.ranks n e) in
      let runs = exact.longest i one is in
      let range = element one.ranges.items 0 (exact.some i one is) in
      let e = range.0.first.value in
      let here = (runs.runs 0 range.0 range.1).same e (omega arith, omega (arith, range.0.some)) in
      let found = given_to other n e (omega (arith, ranks_are e, here, range.0.ranked)) in
      let two = found.1 in
      let P : ℕ → Type 0 = λ m. AreLongestRuns (rank other m) two.ranges.items in
      let runs' = subst P found.3 (exact'.longest found.0 two found.2) in
      (found.0, two, found.2, seen_ranks one two (sym found.3) (one_runs (rank other n) one.ranges.items two.ranges.items (runs_same (rank cert n) (rank other n) one.ranges.items ranks_are runs) runs'))

  pub one_ranks : (cert other : Certificate) → AreRanksOf IsRankOf count cert.ranks.items → AreRanksOf IsRankOf count other.ranks.items → map node_ranks_value other.ranks.items ≡ map node_ranks_value cert.ranks.items
  one_ranks cert other exact exact' =
      one_list node_ranks_value (λ one. one.node) (λ x y same. ap (λ (v : NodeRanksValue). v.node) same) other.ranks.items cert.ranks.items exact'.ascend exact.ascend (node_in other cert exact' exact) (node_in cert other exact exact')
