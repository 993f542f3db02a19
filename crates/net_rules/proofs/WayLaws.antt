-- The longest ways of moves, round by round.
use Rattle.std.{proofs.Common.{◌≡◌, ℕ, zero, suc, ◌+◌, ◌-◌, ◌<◌, ◌≤◌, List, length, Option, Some, None, refl, sym, ◌∙◌, ap, subst, arith, inl, inr, replicate, get_or, unwrap_or}, specs.Prelude.{slice_get, max}, proofs.lemmas.Bool.{cases_lt}, proofs.lemmas.List.{length-replicate, get_or-replicate}, proofs.lemmas.Option.{slice_get_past, slice_get_within, get_or_from_slice_get}}
use Rattle.net_rules.{specs.Moves.{Leads, IsEnd}, specs.Circles.{EndsAfter, HasCircle, HasNoCircle, next_in}, specs.LongestWays.{IsLongest, AreLongest, AreLongestWithin, HasWayOf, MovesByEither, one_before}, proofs.Circling.{one_more, spot, spot_parts, circle_in, no_circle_down, table_within}}
use Rattle.net_tables.proofs.Elements.{element}

-- the count at an index; 0 beyond the list
abbrev pub count_at : List ℕ → ℕ → ℕ
count_at counts n = unwrap_or (slice_get counts n) 0

-- the count at an index is one of the list, or the index is beyond it
pub count_or_past : (counts : List ℕ) (n : ℕ) → (n < length counts → slice_get counts n ≡ Some (count_at counts n)) × (length counts ≤ n → count_at counts n ≡ 0)
count_or_past counts n = (
  λ lt. (let x = element counts n lt in x.1 ∙ ap Some (sym (ap (λ (o : Option ℕ). unwrap_or o 0) x.1))),
  λ past. ap (λ (o : Option ℕ). unwrap_or o 0) (slice_get_past counts n past),
)

-- longest ways that end fall with each move
module _ (Move : ℕ → ℕ → Type 0) (places : ℕ) (counts : List ℕ) (within : (n p : ℕ) → Move n p → n < places) (are : AreLongest Move places counts) where
  longest_at : (n : ℕ) → IsLongest Move n (count_at counts n)
  longest_at n = elim (cases_lt n places) [
    | inl lt ↦ are.1 n (count_at counts n) ((count_or_past counts n).0 (omega (arith, are.0)))
    | inr past ↦ (
        let none : count_at counts n ≡ 0 = (count_or_past counts n).1 (omega (arith, are.0, past)) in
        let here : IsEnd Move n = λ p move. omega (arith, within n p move, past) in
        subst (λ k. IsLongest Move n k) (sym none) (record {
          ends = (n, refl, here);
          longest = λ l ends. stays l ends here;
        }))
  ]
    where
      stays : (l : ℕ) → EndsAfter Move n l → IsEnd Move n → l ≤ 0
      stays zero ends here = omega arith
      stays (suc l) ends here = absurd (here ends.1.0 ends.1.1)

  pub longest_falls : (n p : ℕ) → Move n p → count_at counts p < count_at counts n
  longest_falls n p move =
      let there = longest_at p in
      omega (arith, (longest_at n).longest (suc (count_at counts p)) (there.ends.0, (p, move, there.ends.1), there.ends.2))

  pub longest_circle_none : HasNoCircle Move
  longest_circle_none = no_circle_down Move (count_at counts) longest_falls

-- ---- by two tables

pub either_within : (old new : List (Option ℕ)) → length new ≡ length old → (n p : ℕ) → MovesByEither old new n p → n < length old
either_within old new same n p (inl move) = table_within old n p move
either_within old new same n p (inr move) = omega (arith, table_within new n p move, same)

-- each count is one more than the greater of those of the next indices
abbrev pub AreOneMore : List (Option ℕ) → List (Option ℕ) → List ℕ → ℕ → List ℕ → Type 0
AreOneMore old new counts places more = (length more ≡ places)
    × ((n k : ℕ) → slice_get more n ≡ Some k → k ≡ max (one_before counts (next_in old n)) (one_before counts (next_in new n)))

module _ (old new : List (Option ℕ)) (same : length new ≡ length old) (most : ℕ) (counts : List ℕ) (long : length counts ≡ length old) (are : AreLongestWithin (MovesByEither old new) most counts) where
  -- what holds of the counts holds beyond them
  few_at : (m : ℕ) → count_at counts m ≤ most
  few_at m = elim (cases_lt m (length counts)) [
    | inl lt ↦ are.few m (count_at counts m) ((count_or_past counts m).0 lt)
    | inr past ↦ omega (arith, (count_or_past counts m).1 past)
  ]

  way_at : (m : ℕ) → (x : ℕ) × Leads (MovesByEither old new) m (count_at counts m) x
  way_at m = elim (cases_lt m (length counts)) [
    | inl lt ↦ are.way m (count_at counts m) ((count_or_past counts m).0 lt)
    | inr past ↦ (m, subst (λ k. Leads (MovesByEither old new) m k m) (sym ((count_or_past counts m).1 past)) refl)
  ]

  longest_from : (m l x : ℕ) → Leads (MovesByEither old new) m l x → l ≤ most → l ≤ count_at counts m
  longest_from m zero x way le = omega arith
  longest_from m (suc l) x way le =
      let lt = either_within old new same m way.0 way.1 in
      are.longest m (count_at counts m) (suc l) x ((count_or_past counts m).0 (omega (arith, lt, long))) way le

  few_before : (next : Option ℕ) → one_before counts next ≤ most + 1
  few_before None = omega arith
  few_before (Some m) = omega (arith, few_at m)

  way_before : (n : ℕ) (next : Option ℕ) → ((m : ℕ) → next ≡ Some m → MovesByEither old new n m) → (x : ℕ) × Leads (MovesByEither old new) n (one_before counts next) x
  way_before n None moves = (n, refl)
  way_before n (Some m) moves = (let rest = way_at m in (rest.0, (m, moves m refl, rest.1)))

  before_next : (next : Option ℕ) (m : ℕ) → next ≡ Some m → one_before counts next ≡ suc (count_at counts m)
  before_next next m is = rw is refl

  pub one_more_within : (more : List ℕ) → AreOneMore old new counts (length old) more → AreLongestWithin (MovesByEither old new) (most + 1) more
  one_more_within more ones = record {
    few = λ n k is. few_here n k (ones.1 n k is);
    way = λ n k is. way_here n k (ones.1 n k is);
    longest = λ n k l m is way le. longest_here n k l m (ones.1 n k is) way le;
  }
    where
      few_here : (n k : ℕ) → k ≡ max (one_before counts (next_in old n)) (one_before counts (next_in new n)) → k ≤ most + 1
      few_here n k is = omega (arith, few_before (next_in old n), few_before (next_in new n), is)

      way_here : (n k : ℕ) → k ≡ max (one_before counts (next_in old n)) (one_before counts (next_in new n)) → (m : ℕ) × Leads (MovesByEither old new) n k m
      way_here n k is = elim (cases_lt (one_before counts (next_in old n)) (one_before counts (next_in new n))) [
        | inl less ↦ (
            let way = way_before n (next_in new n) (λ m move. inr move) in
            let same : one_before counts (next_in new n) ≡ k = omega (arith, is, less) in
            (way.0, subst (λ l. Leads (MovesByEither old new) n l way.0) same way.1))
        | inr le ↦ (
            let way = way_before n (next_in old n) (λ m move. inl move) in
            let same : one_before counts (next_in old n) ≡ k = omega (arith, is, le) in
            (way.0, subst (λ l. Leads (MovesByEither old new) n l way.0) same way.1))
      ]

      longest_here : (n k l m : ℕ) → k ≡ max (one_before counts (next_in old n)) (one_before counts (next_in new n)) → Leads (MovesByEither old new) n l m → l ≤ most + 1 → l ≤ k
      longest_here n k zero m is way le = omega arith
      longest_here n k (suc l) m is (p, inl move, rest) le =
          omega (arith, is, before_next (next_in old n) p move, longest_from p l m rest (omega arith))
      longest_here n k (suc l) m is (p, inr move, rest) le =
          omega (arith, is, before_next (next_in new n) p move, longest_from p l m rest (omega arith))

-- at the start no way has a move
pub none_within : (Move : ℕ → ℕ → Type 0) (counts : List ℕ) → ((n k : ℕ) → slice_get counts n ≡ Some k → k ≡ 0) → AreLongestWithin Move 0 counts
none_within Move counts none = record {
  few = λ n k is. omega (arith, none n k is);
  way = λ n k is. (n, subst (λ l. Leads Move n l n) (sym (none n k is)) refl);
  longest = λ n k l m is way le. omega arith;
}

pub all_none : (count : ℕ) (counts : List ℕ) → counts ≡ replicate count 0 → (n k : ℕ) → slice_get counts n ≡ Some k → k ≡ 0
all_none count counts are n k is =
    let lt : n < count = omega (arith, slice_get_within counts n k is, ap length are, length-replicate {A = ℕ} count 0) in
    sym (get_or_from_slice_get counts n k 0 is) ∙ (ap (λ xs. get_or xs n 0) are ∙ get_or-replicate count n 0 0 lt)

-- where no way has so many moves, those that are found end
pub none_longer : (Move : ℕ → ℕ → Type 0) (most places : ℕ) (counts : List ℕ) → length counts ≡ places → AreLongestWithin Move (most + 1) counts
    → ¬ ((n : ℕ) × (slice_get counts n ≡ Some (most + 1))) → AreLongest Move places counts
none_longer Move most places counts long are none = (
  long,
  λ n k is. record {
    ends = (let way = are.way n k is in
        (way.0, way.1, λ p move. (let more = one_more Move n k way.0 p way.1 move in omega (arith, are.longest n k (suc k) p is more (omega (arith, fewer n k is))))));
    longest = λ l ends. elim (cases_lt (most + 1) l) [
      | inr short ↦ are.longest n k l ends.0 is ends.1 short
      | inl long ↦ (
          let part = (spot_parts Move n l ends.0 ends.1 (most + 1) (l - (most + 1)) (omega arith)).0 in
          absurd (omega (arith, fewer n k is, are.longest n k (most + 1) (spot Move n l ends.0 ends.1 (most + 1)) is part (omega arith))))
    ];
  },
)
  where
    fewer : (n k : ℕ) → slice_get counts n ≡ Some k → k ≤ most
    fewer n k is = elim (cases_lt most k) [
      | inr le ↦ le
      | inl more ↦ (let same : k ≡ most + 1 = omega (arith, more, are.few n k is) in absurd (none (n, is ∙ ap Some same)))
    ]

-- a count of so many moves is a way of them
pub way_of_count : (Move : ℕ → ℕ → Type 0) (most k : ℕ) (counts : List ℕ) → AreLongestWithin Move most counts → (n : ℕ) × (slice_get counts n ≡ Some k) → HasWayOf Move k
way_of_count Move most k counts are (n, is) = (let way = are.way n k is in (n, way.0, way.1))

-- and one of more moves than there are places goes round a circle
pub circle_of_way : (old new : List (Option ℕ)) → length new ≡ length old → HasWayOf (MovesByEither old new) (length old + 1) → HasCircle (MovesByEither old new)
circle_of_way old new same (n, m, way) = circle_in (MovesByEither old new) (length old) (either_within old new same) n (length old + 1) m way (omega arith)
