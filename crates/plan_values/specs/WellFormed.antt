-- Which certificates are well formed for their plan.
use Rattle.std.specs.Prelude.{◌≢◌, length, IsTrue, AllPairs, All}
use Rattle.plan_values.{specs.CertificateValues.{are_known, IsAscending, CertificateValue}, specs.PlanValues.{PlanValue, node_names}}

-- No two nodes of the plan have one name; all entries are of the plan's nodes, in no list two of one node; the ranges
-- of each node ascend apart. The numbers are in bounds by their types.
pub record IsWellFormed (plan : PlanValue) (c : CertificateValue) : Type 0 where
  pub names : AllPairs (λ a b. a ≢ b) (node_names plan.nodes)
  pub known : IsTrue (are_known (length plan.nodes) c)
  pub one_level : AllPairs (λ a b. a.node ≢ b.node) c.levels
  pub one_places : AllPairs (λ a b. a.node ≢ b.node) c.places
  pub one_ranks : AllPairs (λ a b. a.node ≢ b.node) c.ranks
  pub ascending : All (λ r. IsAscending r.ranges) c.ranks
