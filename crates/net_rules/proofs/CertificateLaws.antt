-- Exact ranks fall with each move, and none do round a loop.
use Rattle.std.{proofs.Common.{◌≡◌, ℕ, List, Some, None, refl, arith}, specs.Prelude.{slice_get}}
use Rattle.net_rules.{specs.declared.rule.Rule.TheVariants.{C05, C10}, specs.PlanFaults.{PlanMeetsAll}, specs.RoutingLoops.{IsFirstRoutingLoop}, specs.Rules.{RuleHolds}, specs.Certificates.{AreExactRanks}, proofs.Ends.{falls_by_rule}, proofs.Circling.{one_less, no_circle_down}, proofs.EidMoves.{moves_only, ends_from_rank}}
use Rattle.plan_values.{specs.declared.plan.Plan.{Plan}, specs.declared.nodes.Row.{Row}, specs.declared.certificate.Certificate.{Certificate}}
use Rattle.net_tables.{specs.Routing.{rows_of, Covers, MovesTo}, specs.Ranks.{rank, Falls}, specs.Rows.{RowsAreApart}}

pub rows_apart : (plan : Plan) → PlanMeetsAll plan → RowsAreApart plan
rows_apart plan met n r = met C05 n (Some r) None

-- exact ranks fall along the rows
pub exact_falls : (plan : Plan) (cert : Certificate) → RowsAreApart plan → AreExactRanks plan cert.ranks.items → (n r e : ℕ) (row : Row)
    → slice_get (rows_of plan n) r ≡ Some row → Covers row e → Falls plan cert n row e
unfolding Falls
exact_falls plan cert apart exact n r e row is covers = λ away.
    let move : MovesTo plan e n row.next = (away, (r, row, is, covers, refl)) in
    let here = ends_from_rank plan n e (rank cert n e) (exact.ranks n e) in
    let there = ends_from_rank plan row.next e (rank cert row.next e) (exact.ranks row.next e) in
    omega (arith, one_less (MovesTo plan e) (moves_only plan e apart) n row.next (rank cert n e) (rank cert row.next e) move here there)

-- ranks that fall leave no circle
pub loop_breaks_ranks : (plan : Plan) (e : ℕ) (nodes : List ℕ) → IsFirstRoutingLoop plan e nodes → (cert : Certificate) → ¬ RuleHolds plan cert C10
loop_breaks_ranks plan e nodes loop cert holds =
    no_circle_down (MovesTo plan e) (λ n. rank cert n e) (λ n m move. falls_by_rule plan cert holds e n m move) loop.picked.0 loop.picked.1.0
