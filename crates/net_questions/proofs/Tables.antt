-- Tables of next nodes and of numbers of moves.
use Rattle.std.{proofs.Common.{◌≡◌, ℕ, suc, ◌+◌, ◌<◌, ◌≤◌, List, [], ◌∷◌, ◌++◌, length, Option, Some, None, sym, ap, ◌∙◌, subst, inl, inr, arith, get_or}, specs.List.{flat_map, range_with_len}, proofs.lemmas.List.{length_push}, specs.Prelude.{slice_get, option_and_then}, proofs.lemmas.Option.{same_Some, option_and_then_some, slice_get-get_or}}
use Rattle.plan_values.{specs.declared.plan.Plan.{Plan}, specs.declared.certificate.Certificate.{Certificate}}
use Rattle.net_tables.{specs.Routing.{Holds, MovesTo}, specs.Ranks.{rank}, proofs.Elements.{element, in_push, holder_within}}
use Rattle.net_rules.{specs.Rules.{Accepts}, specs.Moves.{Leads}, specs.Circles.{MovesBy, HasNoCircle, next_in}, specs.Promises.{WayEnds}, specs.RoutingLoops.{AreNexts}, proofs.Ends.{ends_within_rank, moves_or_ends}, proofs.EidMoves.{no_move, moves_within}, proofs.SameMoves.{Leads-same}}
use Rattle.net_questions.{specs.declared.hops.HopsTo.{HopsTo}, specs.declared.pair.Pair.{Pair}, specs.Reaching.{IsReach, NeverCircles, AreHopsTo, AreHopsToEach, hops_in, pairs_from, ArePairs}}

module _ (plan : Plan) (e : ℕ) (table : List (Option ℕ)) (nexts : AreNexts plan e (length plan.nodes.items) table) where
  -- a move by the table is one along rows
  by_rows : (n m : ℕ) → MovesBy table n m → MovesTo plan e n m
  by_rows n m move = option_and_then_some (λ next. next) (slice_get table n) m move (λ x is same. nexts.1 n (Some m) (is ∙ ap Some same))

  pub leads_by_rows : (n k m : ℕ) → Leads (MovesBy table) n k m → Leads (MovesTo plan e) n k m
  leads_by_rows n k m way = Leads-same (MovesBy table) (MovesTo plan e) by_rows n k m way

  pub no_circle : NeverCircles plan → HasNoCircle (MovesBy table)
  no_circle never n (k, way) = never e n (k, leads_by_rows n (suc k) n way)

  -- where the table has no next node, the way ends
  pub way_is_over : (n : ℕ) → next_in table n ≡ None → WayEnds plan e n
  way_is_over n none = elim (moves_or_ends plan e n) [
    | inr ends ↦ ends
    | inl (next, move) ↦ (
        let lt : n < length table = omega (arith, nexts.0, moves_within plan e n next move) in
        let there = slice_get-get_or table n None lt in
        let is : get_or table n None ≡ None = of_none (slice_get table n) (get_or table n None) there none in
        absurd (no_move plan e n (nexts.1 n None (there ∙ ap Some is)) next move))
  ]
    where
      of_none : (found : Option (Option ℕ)) (x : Option ℕ) → found ≡ Some x → option_and_then (λ next. next) found ≡ None → x ≡ None
      of_none None x is none = absurd (cc)
      of_none (Some y) x is none = sym (same_Some y x is) ∙ none

-- what follows where a way is over
pub reached : (plan : Plan) (e n moves m : ℕ) → Leads (MovesTo plan e) n moves m → Holds plan m e → IsReach plan e n (Some moves)
reached plan e n moves m way holds = (m, way, holds)

pub stranded : (plan : Plan) (e n moves m : ℕ) → Leads (MovesTo plan e) n moves m → ¬ Holds plan m e → WayEnds plan e m → IsReach plan e n None
stranded plan e n moves m way away (inl holds) = absurd (away holds)
stranded plan e n moves m way away (inr none) = (moves, m, way, away, none)

pub never_circles : (plan : Plan) (cert : Certificate) → Accepts plan cert → NeverCircles plan
never_circles plan cert accepted e n (k, way) = omega (arith, (ends_within_rank plan cert accepted).within e n (suc k) n way)

-- ---- tables of numbers of moves

pub hops_more : (plan : Plan) (e k : ℕ) (hops : List (Option ℕ)) (new : Option ℕ) → AreHopsTo plan e k hops → IsReach plan e k new → AreHopsTo plan e (k + 1) (hops ++ new ∷ [])
hops_more plan e k hops new is reach = (
  omega (arith, length_push hops new, is.0),
  λ n found at. elim (in_push hops new n found at) [
    | inl old ↦ is.1 n found old
    | inr (here, same) ↦ (
        let at_k : n ≡ k = omega (arith, here, is.0) in
        subst (λ o. IsReach plan e n o) same (subst (λ m. IsReach plan e m new) (sym at_k) reach))
  ],
)

pub each_more : (plan : Plan) (k : ℕ) (table : List HopsTo) (new : HopsTo) (eid : ℕ) → AreHopsToEach plan k table → Holds plan k eid
    → AreHopsTo plan eid (length plan.nodes.items) new.from_each.items → AreHopsToEach plan (k + 1) (table ++ new ∷ [])
each_more plan k table new eid is holds hops = (
  omega (arith, length_push table new, is.0),
  λ to e one at held. elim (in_push table new to one at) [
    | inl old ↦ is.1 to e one old held
    | inr (here, same) ↦ (
        let at_k : to ≡ k = omega (arith, here, is.0) in
        let same_eid : eid ≡ e = same_Some eid e (sym holds ∙ subst (λ n. Holds plan n e) at_k held) in
        subst (λ (x : HopsTo). AreHopsTo plan e (length plan.nodes.items) x.from_each.items) same
        (subst (λ d. AreHopsTo plan d (length plan.nodes.items) new.from_each.items) same_eid hops))
  ],
)

module _ (plan : Plan) (table : List HopsTo) (each : AreHopsToEach plan (length plan.nodes.items) table) where
  found_in : (a b e : ℕ) → a < length plan.nodes.items → Holds plan b e → IsReach plan e a (hops_in table a b)
  found_in a b e within holds =
      let one = element table b (omega (arith, each.0, holder_within plan b e holds)) in
      let hops = each.1 b e one.0 one.1 holds in
      let found = element one.0.from_each.items a (omega (arith, hops.0, within)) in
      let at : hops_in table a b ≡ found.0 =
      ap (λ o. option_and_then (λ (x : HopsTo). option_and_then (λ h. h) (slice_get x.from_each.items a)) o) one.1 ∙ ap (λ o. option_and_then (λ h. h) o) found.1 in
      subst (λ o. IsReach plan e a o) (sym at) (hops.1 a found.0 found.1)

  within_rank : (cert : Certificate) → Accepts plan cert → (a e moves : ℕ) → (found : Option ℕ) → IsReach plan e a found → found ≡ Some moves → moves ≤ rank cert a e
  within_rank cert accepted a e moves (Some found) (m, way, holds) is =
      omega (arith, (ends_within_rank plan cert accepted).within e a found m way, same_Some found moves is)
  within_rank cert accepted a e moves None reach is = absurd (cc)

  pub are_pairs : (cert : Certificate) → Accepts plan cert → (pairs : List Pair) (k : ℕ) → k ≡ length table
      → pairs ≡ flat_map (pairs_from (length table) (hops_in table)) (range_with_len 0 k) → ArePairs plan cert pairs
  are_pairs cert accepted pairs k all listed = record {
    hops = hops_in table;
    exact = found_in;
    within = λ a b e moves within holds is. within_rank cert accepted a e moves (hops_in table a b) (found_in a b e within holds) is;
    listed = listed ∙ (ap (λ n. flat_map (pairs_from (length table) (hops_in table)) (range_with_len 0 n)) (all ∙ each.0)
        ∙ ap (λ n. flat_map (pairs_from n (hops_in table)) (range_with_len 0 (length plan.nodes.items))) each.0);
  }
