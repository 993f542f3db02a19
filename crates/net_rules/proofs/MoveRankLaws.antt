-- Ranks along the rows of two plans: they are the longest ways, and fall along each row.
use Rattle.std.{proofs.Common.{◌≡◌, ◌⊎◌, ℕ, zero, suc, ◌+◌, ◌<◌, ◌≤◌, List, length, Option, Some, refl, sym, subst, arith, inl, inr, filter, Result, Ok, Err, IfOk}, specs.Prelude.{slice_get}, proofs.lemmas.Bool.{cases_lt}, specs.declared.alloc.AllocError.{AllocError}}
use Rattle.plan_values.{specs.declared.plan.Plan.{Plan}, specs.declared.certificate.NodeRanks.{NodeRanks}}
use Rattle.net_tables.{specs.Routing.{MovesTo, eid_of}, specs.Rows.{RowsAreApart, RowsAreInRange}, proofs.RowSearches.{is_or_not}}
use Rattle.net_rules.{specs.declared.certifying.longest_ways.Longest.{Longest}, specs.Moves.{Leads, IsEnd}, specs.Circles.{HasNoCircle, MovesBy}, specs.LongestWays.{IsLongest, AreLongest, IsLongestOrLoop}, specs.MovingAlike.{MoveAlike}, specs.RoutingLoops.{AreNexts}, specs.RankRuns.{AreNone, AreGrown}, specs.Certificates.{AreRanksOf, AreRankedBelow, has_ranges}, specs.MoveRanks.{MayMoveTo, WayEndsInBoth, IsMoveRank, HoldTheSame}, proofs.Circling.{circle_in}, proofs.EidMoves.{moves_within, unmoved, table_to, table_from}, proofs.SameMoves.{no_circle_either, IsLongest-same, IsLongestOrLoop-same}, proofs.RankLaws.{ranked_start, ranked_step, ranked_all}}

-- a rank falls along each row
pub move_rank_falls : (before after : Plan) (e n m k l : ℕ) → MayMoveTo before after e n m → IsMoveRank before after n e k → IsMoveRank before after m e l → l < k
move_rank_falls before after e n m k l move here there = here.longest (suc l) there.way.0 (m, move, there.way.1) there.way.2

-- a node and an EID have one
pub move_rank_only : (before after : Plan) (n e k l : ℕ) → IsMoveRank before after n e k → IsMoveRank before after n e l → k ≡ l
move_rank_only before after n e k l one other =
    omega (arith, one.longest l other.way.0 other.way.1 other.way.2, other.longest k one.way.0 one.way.1 one.way.2)

-- What was found once the EIDs below e are done: no circle, and each node's longest runs, in plan order.
pub record AreMixedBelow (before after : Plan) (e : ℕ) (given : List NodeRanks) : Type 0 where
  pub circles : (d : ℕ) → d < e → HasNoCircle (MayMoveTo before after d)
  pub ranked : AreRankedBelow (IsMoveRank before after) (length before.nodes.items) e given

pub shorter_alike : (plan : Plan) (first other last short : ℕ) → first ≡ other → short ≤ last → MoveAlike plan other last → MoveAlike plan first short
shorter_alike plan first other last short same le alike =
    let P : ℕ → Type 0 = λ f. MoveAlike plan f last in
    let there = subst P (sym same) alike in
    λ n e low high m. there n e low (omega (arith, high, le)) m

module _ (before after : Plan) (many : length after.nodes.items ≡ length before.nodes.items) (holders : HoldTheSame before after) where
  may_within : (e n m : ℕ) → MayMoveTo before after e n m → n < length before.nodes.items
  may_within e n m (inl move) = moves_within before e n m move
  may_within e n m (inr move) = omega (arith, moves_within after e n m move, many)

  -- ends, in two words
  ends_in_both : (e n : ℕ) → IsEnd (MayMoveTo before after e) n → WayEndsInBoth before after e n
  ends_in_both e n ends = elim (is_or_not (eid_of before n) e) [
    | inl holds ↦ inl holds
    | inr away ↦ inr (λ has. elim has [
      | inl (m, routes) ↦ ends m (inl (away, routes))
      | inr (m, routes) ↦ ends m (inr (λ holds. away ((holders n e).1 holds), routes))
    ])
  ]

  no_move_in_both : (e n : ℕ) → WayEndsInBoth before after e n → IsEnd (MayMoveTo before after e) n
  no_move_in_both e n (inl holds) p (inl move) = move.0 holds
  no_move_in_both e n (inl holds) p (inr move) = move.0 ((holders n e).0 holds)
  no_move_in_both e n (inr none) p (inl move) = none (inl (p, move.1))
  no_move_in_both e n (inr none) p (inr move) = none (inr (p, move.1))

  rank_from_longest : (n e k : ℕ) → IsLongest (MayMoveTo before after e) n k → IsMoveRank before after n e k
  rank_from_longest n e k h = record {
    way = (h.ends.0, h.ends.1, ends_in_both e h.ends.0 h.ends.2);
    longest = λ l m way ends. h.longest l (m, way, no_move_in_both e m ends);
  }

  rank_of_end : (n e : ℕ) → IsEnd (MayMoveTo before after e) n → IsMoveRank before after n e 0
  rank_of_end n e none = record { way = (n, refl, ends_in_both e n none); longest = λ l m way ends. stays l m way }
    where
      stays : (l m : ℕ) → Leads (MayMoveTo before after e) n l m → l ≤ 0
      stays zero m way = omega arith
      stays (suc l) m way = absurd (none way.0 way.1)

  move_rank_beyond : (n e : ℕ) → length before.nodes.items ≤ n → IsMoveRank before after n e 0
  move_rank_beyond n e past = rank_of_end n e (λ m move. omega (arith, may_within e n m move, past))

  pub longest_small : (e : ℕ) (counts : List ℕ) → length before.nodes.items ≤ 64 → HasNoCircle (MayMoveTo before after e) → AreLongest (MayMoveTo before after e) (length before.nodes.items) counts → (n k : ℕ) → slice_get counts n ≡ Some k → k < 256
  longest_small e counts few none longest n k is = elim (cases_lt (length before.nodes.items) k) [
    | inr short ↦ omega arith
    | inl long ↦ (
        let way = (longest.1 n k is).ends in
        let circle = circle_in (MayMoveTo before after e) (length before.nodes.items) (may_within e) n k way.0 way.1 long in
        absurd (none circle.0 circle.1))
  ]

  module _ (in_range : RowsAreInRange before) (in_range_after : RowsAreInRange after) where
    no_move_outside : (n e : ℕ) → (e < 8) ⊎ (255 ≤ e) → IsEnd (MayMoveTo before after e) n
    no_move_outside n e outside m (inl move) = unmoved before e n in_range outside m move
    no_move_outside n e outside m (inr move) = unmoved after e n in_range_after outside m move

    move_rank_outside : (n e : ℕ) → (e < 8) ⊎ (255 ≤ e) → IsMoveRank before after n e 0
    move_rank_outside n e outside = rank_of_end n e (no_move_outside n e outside)

    pub mixed_start : (given : List NodeRanks) → AreNone (length before.nodes.items) given → AreMixedBelow before after 8 given
    mixed_start given none = record {
      circles = λ d lt n circle. no_move_outside n d (inl lt) circle.1.0 circle.1.1;
      ranked = ranked_start (IsMoveRank before after) (length before.nodes.items) (move_rank_only before after) move_rank_outside move_rank_beyond given none;
    }

    pub mixed_step : (first last : ℕ) (given more : List NodeRanks) (counts : List ℕ) → first ≤ last → MoveAlike before first last → MoveAlike after first last → AreMixedBelow before after first given
        → HasNoCircle (MayMoveTo before after first) → AreLongest (MayMoveTo before after first) (length before.nodes.items) counts → AreGrown first last counts given more → AreMixedBelow before after (last + 1) more
    mixed_step first last given more counts ordered alike alike_after mixed none longest grown = record {
      circles = λ d less. elim (cases_lt d first) [
        | inl lt ↦ mixed.circles d lt
        | inr low ↦ no_circle_either (MovesTo before first) (MovesTo after first) (MovesTo before d) (MovesTo after d)
            (λ n m. (alike n d low (omega (arith, less)) m).0) (λ n m. (alike n d low (omega (arith, less)) m).1)
            (λ n m. (alike_after n d low (omega (arith, less)) m).0) (λ n m. (alike_after n d low (omega (arith, less)) m).1) none
      ];
      ranked = ranked_step (IsMoveRank before after) (length before.nodes.items) (move_rank_only before after) move_rank_outside move_rank_beyond first last given more counts ordered longest.0
          (λ n k e is low high. rank_from_longest n e k (IsLongest-same (MovesTo before first) (MovesTo after first) (MovesTo before e) (MovesTo after e)
          (λ n m. (alike n e low high m).0) (λ n m. (alike n e low high m).1) (λ n m. (alike_after n e low high m).0) (λ n m. (alike_after n e low high m).1) n k (longest.1 n k is)))
          mixed.ranked grown;
    }

    pub mixed_all : (given ranks : List NodeRanks) → AreMixedBelow before after 255 given → ranks ≡ filter has_ranges given → AreRanksOf (IsMoveRank before after) (length before.nodes.items) ranks
    mixed_all given ranks mixed made =
        ranked_all (IsMoveRank before after) (length before.nodes.items) (move_rank_only before after) move_rank_outside move_rank_beyond given ranks mixed.ranked made

-- what two tables have is where the rows of both lead
pub longest_same : (before after : Plan) (e : ℕ) (old new : List (Option ℕ)) → RowsAreApart before → RowsAreApart after → length after.nodes.items ≡ length before.nodes.items
    → AreNexts before e (length before.nodes.items) old → AreNexts after e (length after.nodes.items) new → (r : Result Longest AllocError)
    → IfOk r (λ longest. IsLongestOrLoop (MovesBy old) (MovesBy new) (length old) longest) → IfOk r (λ longest. IsLongestOrLoop (MovesTo before e) (MovesTo after e) (length before.nodes.items) longest)
longest_same before after e old new apart apart_after many nexts nexts_after (Err error) h = tt
longest_same before after e old new apart apart_after many nexts nexts_after (Ok longest) h =
    let P : ℕ → Type 0 = λ count. IsLongestOrLoop (MovesTo before e) (MovesTo after e) count longest in
    subst P nexts.0 (IsLongestOrLoop-same (MovesBy old) (MovesBy new) (MovesTo before e) (MovesTo after e) (table_to before e old nexts) (table_from before e old apart nexts)
    (table_to after e new nexts_after) (table_from after e new apart_after nexts_after) (length old) longest h)
