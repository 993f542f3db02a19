-- Moves of what is for an EID, by rows and by table.
use Rattle.std.{proofs.Common.{◌≡◌, ℕ, ◌<◌, ◌≤◌, List, length, Option, Some, None, refl, sym, ◌∙◌, arith, ◌⊎◌, inl, inr, subst, ap, get_or, IfOk, Ok, Err, Result}, specs.Prelude.{slice_get}, proofs.lemmas.Bool.{cases_lt}, proofs.lemmas.Option.{slice_get-get_or, option_and_then_some}, specs.declared.alloc.AllocError.{AllocError}}
use Rattle.net_rules.{specs.declared.certifying.walks.Walked.{Walked}, specs.Moves.{IsEnd}, specs.Circles.{MovesBy, EndsAfter, HasNoCircle, IsWalked}, specs.Promises.{WayEnds}, specs.RoutingLoops.{IsRank, AreNexts}, proofs.Beyond.{no_row}, proofs.Circling.{ends_once}, proofs.SameMoves.{IsWalked-same}, proofs.Ends.{moves_or_ends}}
use Rattle.plan_values.specs.declared.plan.Plan.{Plan}
use Rattle.net_tables.{specs.Routing.{MovesTo, rows_of, NamesFor}, specs.Rows.{IsInRange, RowsAreApart, RowsAreInRange}, proofs.TableLaws.{same_next}}

-- ---- ends, in two words

pub way_ends : (plan : Plan) (e n : ℕ) → IsEnd (MovesTo plan e) n → WayEnds plan e n
way_ends plan e n ends = elim (moves_or_ends plan e n) [ inl (next, move) ↦ absurd (ends next move) | inr way ↦ way ]

pub no_move : (plan : Plan) (e n : ℕ) → WayEnds plan e n → IsEnd (MovesTo plan e) n
no_move plan e n (inl holds) p move = move.0 holds
no_move plan e n (inr none) p move = none (p, move.1)

pub rank_from_ends : (plan : Plan) (n e k : ℕ) → EndsAfter (MovesTo plan e) n k → IsRank plan n e k
rank_from_ends plan n e k (m, leads, ends) = (m, leads, way_ends plan e m ends)

pub ends_from_rank : (plan : Plan) (n e k : ℕ) → IsRank plan n e k → EndsAfter (MovesTo plan e) n k
ends_from_rank plan n e k (m, leads, way) = (m, leads, no_move plan e m way)

-- ---- at most one move leaves a node

pub moves_only : (plan : Plan) (e : ℕ) → RowsAreApart plan → (n m m' : ℕ) → MovesTo plan e n m → MovesTo plan e n m' → m ≡ m'
moves_only plan e apart n m m' one other =
    sym one.1.4 ∙ (same_next plan n e apart one.1.0 other.1.0 one.1.1 other.1.1 one.1.2 other.1.2 one.1.3 other.1.3 ∙ other.1.4)

pub rank_only : (plan : Plan) (n e k l : ℕ) → RowsAreApart plan → IsRank plan n e k → IsRank plan n e l → k ≡ l
rank_only plan n e k l apart one other =
    ends_once (MovesTo plan e) (moves_only plan e apart) n k l (ends_from_rank plan n e k one) (ends_from_rank plan n e l other)

-- ---- only nodes of the plan have rows, and only EIDs that can be held are covered

pub moves_within : (plan : Plan) (e n m : ℕ) → MovesTo plan e n m → n < length plan.nodes.items
moves_within plan e n m move = elim (cases_lt n (length plan.nodes.items)) [
  | inl lt ↦ lt
  | inr past ↦ absurd (no_row plan n move.1.0 move.1.1 past move.1.2)
]

pub moved_in_range : (plan : Plan) (e n m : ℕ) → RowsAreInRange plan → MovesTo plan e n m → (8 ≤ e) × (e < 255)
unfolding IsInRange
moved_in_range plan e n m ranges move =
    let range = ranges n move.1.0 move.1.1 move.1.2 in
    (omega (arith, range.1, move.1.3.0), omega (arith, range.2, move.1.3.1))

pub unmoved : (plan : Plan) (e n : ℕ) → RowsAreInRange plan → (e < 8) ⊎ (255 ≤ e) → IsEnd (MovesTo plan e) n
unmoved plan e n ranges outside m move =
    let inside = moved_in_range plan e n m ranges move in
    elim outside [ inl low ↦ omega (arith, inside.0) | inr high ↦ omega (arith, inside.1) ]

pub unmoved_rank : (plan : Plan) (e n : ℕ) → RowsAreInRange plan → (e < 8) ⊎ (255 ≤ e) → IsRank plan n e 0
unmoved_rank plan e n ranges outside = (n, refl, way_ends plan e n (unmoved plan e n ranges outside))

pub unmoved_circle : (plan : Plan) (e : ℕ) → RowsAreInRange plan → (e < 8) ⊎ (255 ≤ e) → HasNoCircle (MovesTo plan e)
unmoved_circle plan e ranges outside n circle = unmoved plan e n ranges outside circle.1.0 circle.1.1

-- ---- what a table has is where the rows lead

pub nowhere : (plan : Plan) (e n : ℕ) → ((m : ℕ) → ¬ NamesFor (rows_of plan n) e m) → WayEnds plan e n
nowhere plan e n none = inr (λ (m, routes). none m routes)

pub table_to : (plan : Plan) (e : ℕ) (table : List (Option ℕ)) → AreNexts plan e (length plan.nodes.items) table → (n m : ℕ) → MovesBy table n m → MovesTo plan e n m
table_to plan e table nexts n m move = option_and_then_some (λ next. next) (slice_get table n) m move (λ x is same. nexts.1 n (Some m) (is ∙ ap Some same))

pub table_from : (plan : Plan) (e : ℕ) (table : List (Option ℕ)) → RowsAreApart plan → AreNexts plan e (length plan.nodes.items) table → (n m : ℕ) → MovesTo plan e n m → MovesBy table n m
table_from plan e table apart nexts n m move =
    let lt : n < length table = omega (arith, nexts.0, moves_within plan e n m move) in
    there plan e table apart nexts n m move (get_or table n None) (slice_get-get_or table n None lt)
  where
    there : (plan : Plan) (e : ℕ) (table : List (Option ℕ)) → RowsAreApart plan → AreNexts plan e (length plan.nodes.items) table → (n m : ℕ) → MovesTo plan e n m → (next : Option ℕ) → slice_get table n ≡ Some next → MovesBy table n m
    there plan e table apart nexts n m move None is = absurd (no_move plan e n (nexts.1 n None is) m move)
    there plan e table apart nexts n m move (Some p) is =
        let same : p ≡ m = moves_only plan e apart n p m (nexts.1 n (Some p) is) move in
        rw is (ap Some same)

pub walked_same : (plan : Plan) (e : ℕ) (table : List (Option ℕ)) → RowsAreApart plan → AreNexts plan e (length plan.nodes.items) table → (r : Result Walked AllocError)
    → IfOk r (λ walked. IsWalked (MovesBy table) (length table) walked) → IfOk r (λ walked. IsWalked (MovesTo plan e) (length plan.nodes.items) walked)
walked_same plan e table apart nexts (Err error) h = tt
walked_same plan e table apart nexts (Ok walked) h =
    let P : ℕ → Type 0 = λ count. IsWalked (MovesTo plan e) count walked in
    subst P nexts.0 (IsWalked-same (MovesBy table) (MovesTo plan e) (table_to plan e table nexts) (table_from plan e table apart nexts) (length table) walked h)
