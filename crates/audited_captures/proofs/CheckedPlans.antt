-- The rows of an accepted plan make routing tables.
use Rattle.std.proofs.Common.{Some, None}
use Rattle.plan_values.{specs.declared.plan.Plan.{Plan}, specs.declared.certificate.Certificate.{Certificate}}
use Rattle.net_rules.{specs.declared.rule.Rule.TheVariants.{C04, C05, C06}, specs.Rules.{Accepts}}
use Rattle.audited_captures.specs.Audits.{HasTables}

pub has_tables : (plan : Plan) (cert : Certificate) → Accepts plan cert → HasTables plan
has_tables plan cert accepts n within = record {
  rows = λ r row is. ((accepts C05 n (Some r) None).0 row is, (accepts C04 n (Some r) None).0 row is);
  neighbors = λ r row is. (accepts C06 n (Some r) None).0 row is;
}
