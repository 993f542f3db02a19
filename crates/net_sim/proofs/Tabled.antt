-- The rows of an accepted plan make routing tables, node after node.
use Rattle.std.{proofs.Common.{◌≡◌, ℕ, zero, suc, ◌<◌, Bool, true, false, List, length, map, replicate, Option, Some, None, refl, sym, ◌∙◌, subst, arith}, specs.Prelude.{slice_get, unwrap_or}, proofs.lemmas.Option.{slice_get_within}}
use Rattle.mctp_routing.specs.Rows.{HasSameRoutes}
use Rattle.plan_values.{specs.declared.plan.Plan.{Plan}, specs.declared.certificate.Certificate.{Certificate}}
use Rattle.net_rules.{specs.declared.rule.Rule.TheVariants.{C04, C05}, specs.Rules.{RuleHolds}, specs.MoveRules.{Before, After, AcceptsMove}}
use Rattle.net_tables.{specs.Rows.{RowsAreApart, RowsAreInRange}, specs.TwoPlans.{rows_by}, specs.Tables.{AreTabled, table_row}}
use Rattle.net_check.specs.Accepted.{AreAccepted}
use Rattle.net_sim.{specs.Routers.{AreTabledAfter, has_switched}, proofs.Deciding.{same_count}}
use Rattle.mctp_routing.specs.declared.row.TableRow as bridge

-- by C04 and C05 they are lawful and lie apart
are_rows : (plan : Plan) (cert : Certificate) → RuleHolds plan cert C04 → RuleHolds plan cert C05 → RowsAreApart plan × RowsAreInRange plan
are_rows plan cert ranges parts = (λ n r row is. (parts n (Some r) None).0 row is, λ n r row is. (ranges n (Some r) None).0 row is)

pub are_rows_before : (plan : Plan) (after : Option Plan) (cert : Certificate) → AreAccepted plan after cert → RowsAreApart plan × RowsAreInRange plan
are_rows_before plan None cert accepted = are_rows plan cert (accepted C04) (accepted C05)
are_rows_before plan (Some after) cert accepted = are_rows plan cert (accepted (Before C04)) (accepted (Before C05))

pub are_rows_after : (plan after : Plan) (cert : Certificate) → AcceptsMove plan after cert → RowsAreApart after × RowsAreInRange after
are_rows_after plan after cert accepted = are_rows after cert (accepted (After C04)) (accepted (After C05))

-- a node that has not switched goes by the rows of the plan before
pub routes_before : (plan : Plan) (after : Option Plan) (switched : Bool) → switched ≡ false → (tables : List (List bridge.TableRow)) (count n : ℕ) (table : List bridge.TableRow)
    → AreTabled plan count tables → slice_get tables n ≡ Some table → HasSameRoutes (map table_row (rows_by plan after switched n)) table
routes_before plan None switched not tables count n table are there = are.same n table there
routes_before plan (Some after) false not tables count n table are there = are.same n table there
routes_before plan (Some after) true not tables count n table are there = absurd (cc)

-- one that has switched goes by those of the plan after
pub routes_after : (plan : Plan) (after : Option Plan) (switched : Bool) → switched ≡ true → (tables : List (List bridge.TableRow)) (n : ℕ) (table : List bridge.TableRow)
    → AreTabledAfter plan after tables → slice_get tables n ≡ Some table → HasSameRoutes (map table_row (rows_by plan after switched n)) table
routes_after plan None switched is tables n table none there = absurd (omega (arith, slice_get_within tables n table there, none))
routes_after plan (Some after) true is tables n table are there = are.same n table there
routes_after plan (Some after) false is tables n table are there = absurd (cc)

-- a node that has switched has a mark
pub marked_within : (marks : List Bool) (n : ℕ) → has_switched marks n ≡ true → n < length marks
marked_within marks n is = by (slice_get marks n) refl is
  where
    by : (mark : Option Bool) → slice_get marks n ≡ mark → unwrap_or mark false ≡ true → n < length marks
    by None at switched = absurd (cc)
    by (Some mark) at switched = slice_get_within marks n mark at

-- no node is marked at first
pub none_marked : (count n : ℕ) → has_switched (replicate count false) n ≡ false
none_marked zero zero = refl
none_marked zero (suc n) = refl
none_marked (suc count) zero = refl
none_marked (suc count) (suc n) = none_marked count n

-- the tables of the plan after
pub tabled_after : (plan after : Plan) (cert : Certificate) (other : Option Plan) → Some after ≡ other → AcceptsMove plan after cert → (tables : List (List bridge.TableRow))
    → AreTabled after (length after.nodes.items) tables → AreTabledAfter plan other tables
tabled_after plan after cert other same accepted tables are =
    subst (λ (o : Option Plan). AreTabledAfter plan o tables) same (record { as_many = are.as_many ∙ sym (same_count plan after cert accepted); same = are.same })
