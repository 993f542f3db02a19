-- What the rules of an accepted plan say of the rows and the endpoint ID of a node.
use Rattle.std.proofs.Common.{◌≡◌, ℕ, Some, None}
use Rattle.mctp_transport.specs.PacketValues.{IsAssignable}
use Rattle.plan_values.{specs.declared.certificate.Certificate.{Certificate}, specs.declared.plan.Plan.{Plan}}
use Rattle.net_rules.{specs.declared.rule.Rule.TheVariants.{C02, C04, C05, C06}, specs.Rules.{Accepts}}
use Rattle.net_tables.{specs.Routing.{eid_of, rows_of}, specs.Tables.{AreRows}}
use Rattle.plan_exports.specs.PlannedTables.{HasLawfulRows}

-- by C04 and C05 the rows make a routing table
pub are_rows : (plan : Plan) (cert : Certificate) (n : ℕ) → Accepts plan cert → AreRows (rows_of plan n)
are_rows plan cert n accepted = λ r row is. ((accepted C05 n (Some r) None).0 row is, (accepted C04 n (Some r) None).0 row is)

-- by C06 each leads to a neighbor
pub have_lawful_rows : (plan : Plan) (cert : Certificate) (n : ℕ) → Accepts plan cert → HasLawfulRows plan n
have_lawful_rows plan cert n accepted = record { rows = are_rows plan cert n accepted; neighbors = λ r row is. (accepted C06 n (Some r) None).0 row is }

-- by C02 the endpoint ID can be assigned
pub is_assignable : (plan : Plan) (cert : Certificate) (n e : ℕ) → Accepts plan cert → eid_of plan n ≡ Some e → IsAssignable e
is_assignable plan cert n e accepted held = (accepted C02 n None (Some e)).0 held
