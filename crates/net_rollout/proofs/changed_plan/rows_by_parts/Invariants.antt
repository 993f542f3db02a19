use Rattle.net_tables.specs.Routing.{rows_of}
use Rattle.net_rollout.{specs.Steps.{SendAs}, proofs.Made.{IsTakenBefore}}
use Rattle.net_rollout.proofs.changed_plan.rows_by_parts.Given as goal

abbrev pub invariant-loop-part : goal.invariant-loop-part
invariant-loop-part l = SendAs (IsTakenBefore l.parts l.part-index l.node) (rows_of l.here l.node) (rows_of l.new l.node) l.rows.items
